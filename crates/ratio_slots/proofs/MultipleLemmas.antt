-- A multiple of what was read is one of the total.
use Rattle.std.specs.Prelude.{◌≡◌, ◌+◌, ◌-◌, ◌<◌, ◌≤◌, ◌*ℤ◌, ℕ, ℤ, pos, List, [], ◌∷◌, Option, drop, take}
use Rattle.std.proofs.Common.{refl, sym, ap, arith, subst, ◌∙◌}
use Rattle.std.proofs.lemmas.List.{drop-take, take-take}
use Rattle.ratio_decimal.specs.RoundingRules.{IsRoundedBy}
use Rattle.ratio_decimal.proofs.RoundingRuleLaws.{same_by}
use Rattle.ratio_decimal.specs.declared.rounding_rule.Rounding.{Rounding}
use Rattle.ratio_integer.proofs.Whole.{mul-swap_last, mul_assoc}
use Rattle.ratio_natural.specs.Number.{natural_of}
use Rattle.ratio_slots.specs.Common.{whole_number}
use Rattle.ratio_slots.specs.Joined.{pair_left}
use Rattle.ratio_slots.specs.LowestSum.{ChecksPairBelow}
use Rattle.ratio_slots.specs.Multiples.{ChecksMultipleBelow}
use Rattle.ratio_slots.specs.Sums.{SameSum}
use Rattle.ratio_slots.specs.declared.reading.OverCommon.{OverCommon}
use Rattle.ratio_slots.proofs.DecimalLemmas.{above_zero_ℤ}

-- two fractions of one value, each multiplied by `parts`
times_same : (x y : ℤ × ℕ) (parts : ℕ) → SameSum x y → SameSum (x.0 *ℤ pos parts, x.1) (y.0 *ℤ pos parts, y.1)
times_same x y parts same = swapped x.0 (pos parts) (pos y.1) ∙ ap (λ (z : ℤ). z *ℤ pos parts) same ∙ sym (swapped y.0 (pos parts) (pos x.1))
  where
    swapped : (a b c : ℤ) → (a *ℤ b) *ℤ c ≡ (a *ℤ c) *ℤ b
    swapped a b c = mul-swap_last a b c ∙ sym (mul_assoc a c b)

-- a number of one digit is that digit
pub one_digit : (digit : ℕ) → natural_of (digit ∷ []) ≡ digit
one_digit digit = omega arith

-- two fractions of one value have the same multiples
pub multiple_moved : (bound : ℕ) (rule : Rounding) (parts : ℕ) (x y : ℤ × ℕ) (result : Option (ℤ × ℕ)) → 0 < x.1 → 0 < y.1 → SameSum x y
    → ChecksMultipleBelow bound rule parts x result → ChecksMultipleBelow bound rule parts y result
multiple_moved bound rule parts x y result x_some y_some same multiple = record {
  number = multiple.number;
  rounded = same_by rule (x.0 *ℤ pos parts) (pos x.1) (y.0 *ℤ pos parts) (pos y.1) multiple.number (above_zero_ℤ x.1 x_some) (above_zero_ℤ y.1 y_some) (times_same x y parts same) multiple.rounded;
  terms = multiple.terms;
}

-- a read lies within the first digits of its room
pair_within : (read : OverCommon) (room : List ℕ) (k : ℕ) → read.numer_digits + read.denom_digits ≤ k → pair_left read (take k room) ≡ pair_left read room
pair_within read room k within =
    let n = read.numer_digits in
    let m = read.denom_digits in
    let numer : take n (take k room) ≡ take n room = take-take n k room (omega (arith, within)) in
    let width : k ≡ n + (k - n) = omega (arith, within) in
    let behind : drop n (take k room) ≡ take (k - n) (drop n room) = ap (λ i. drop n (take i room)) width ∙ drop-take n (k - n) room in
    let denom : take m (drop n (take k room)) ≡ take m (drop n room) = ap (take m) behind ∙ take-take m (k - n) (drop n room) (omega (arith, within)) in
    rw (numer, denom) refl

-- what was rounded in the first k digits of the room is a multiple of the fraction there
pub multiple_read : (bound : ℕ) (rule : Rounding) (parts : ℕ) (read : OverCommon) (room front : List ℕ) (k q over : ℕ) (result : Option (ℤ × ℕ)) → front ≡ take k room
    → read.numer_digits + read.denom_digits ≤ k → over ≡ parts → IsRoundedBy rule ((pair_left read front).0 *ℤ pos over) (pos (pair_left read front).1) (whole_number read.negative q)
    → ChecksPairBelow bound (whole_number read.negative q, over) result → ChecksMultipleBelow bound rule parts (pair_left read room) result
multiple_read bound rule parts read room front k q over result first within parts_are rounded terms =
    let same : pair_left read front ≡ pair_left read room = ap (pair_left read) first ∙ pair_within read room k within in
    record {
      number = whole_number read.negative q;
      rounded = subst (λ (x : ℤ × ℕ). IsRoundedBy rule (x.0 *ℤ pos parts) (pos x.1) (whole_number read.negative q)) same
          (subst (λ (n : ℕ). IsRoundedBy rule ((pair_left read front).0 *ℤ pos n) (pos (pair_left read front).1) (whole_number read.negative q)) parts_are rounded);
      terms = subst (λ (n : ℕ). ChecksPairBelow bound (whole_number read.negative q, n) result) parts_are terms;
    }
