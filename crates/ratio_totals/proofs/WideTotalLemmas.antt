-- Sums in rooms, as wide totals join them.
use Rattle.std.specs.Prelude.{◌≡◌, ◌+◌, ◌*◌, ◌^◌, ◌<◌, ◌≤◌, ◌-ℤ◌, ℕ, ℤ, pos, List, ◌++◌, unsigned_abs, length, take, drop, Result, Ok, Err, OnOk}
use Rattle.std.specs.Int.RustNames.{FitsSigned}
use Rattle.std.proofs.Common.{sym, ap, subst, arith, inl, inr, length-take-le, ◌∙◌}
use Rattle.std.proofs.lemmas.Bool.{cases_lt}
use Rattle.std.proofs.lemmas.List.{drop-append-le, length-drop, take-append-drop, take-append-le}
use Rattle.std.proofs.lemmas.Int.{ints}
use mir.Syntax.{w64}
use Rattle.ratio_natural.specs.Number.{base, natural_of}
use Rattle.ratio_slots.specs.Joined.{common_in, joined_pair, negative_in, positive_in}
use Rattle.ratio_slots.specs.RoomOrders.{CanOrderRooms, order_digits}
use Rattle.ratio_slots.specs.RoomSums.{HasShortMultiple}
use Rattle.ratio_slots.specs.Steps.{HoldsSum}
use Rattle.ratio_slots.specs.Totals.{most_weight}
use Rattle.ratio_slots.specs.declared.joined.Joined.{Joined}
use Rattle.ratio_totals.specs.WideTotals.{CanAddWide, CanMergeWide}

-- the sum of one fraction was accepted, and so the fraction
pub one_accepted : {E : Type 0} (r : Result Joined E) (sum : Joined) (room : List ℕ) (other : Joined) (one : List ℕ) (denom spare : ℕ) → other.done ≡ 1 → common_in other.digits one ≡ denom
    → OnOk r (CanMergeWide sum room other one spare) → OnOk r (CanAddWide sum room denom spare)
one_accepted (Ok next) sum room other one denom spare is same can = record {
  spare_room = can.spare_room;
  light = omega (arith, can.light, is);
  short = subst (λ (d : ℕ). HasShortMultiple (common_in sum.digits room) d (base ^ sum.digits)) same can.short;
}
one_accepted (Err e) sum room other one denom spare is same can = can

-- ---- the copy of a sum

-- the first numbers of a list, and others behind them: a part of the first ones is a part of the list
part_of_copy : (k j n : ℕ) (xs room others : List ℕ) → xs ≡ take n room → n ≤ length room → j + k ≤ n → take k (drop j (xs ++ others)) ≡ take k (drop j room)
part_of_copy k j n xs room others is long within =
    let count : length xs ≡ n = ap length is ∙ length-take-le n room long in
    let front : (ys : List ℕ) → take k (drop j (xs ++ ys)) ≡ take k (drop j xs) =
    λ ys. ap (take k) (drop-append-le j xs ys (omega (arith, count, within))) ∙ take-append-le k (drop j xs) ys (omega (arith, length-drop j xs, count, within)) in
    let whole : xs ++ drop n room ≡ room = ap (λ ys. ys ++ drop n room) is ∙ take-append-drop n room in
    front others ∙ sym (front (drop n room)) ∙ ap (λ ys. take k (drop j ys)) whole

module _ (digits : ℕ) (xs room others : List ℕ) (is : xs ≡ take (3 * digits + 6) room) (long : 3 * digits + 6 ≤ length room) where
  part : (k j : ℕ) → j + k ≤ 3 * digits + 6 → natural_of (take k (drop j (xs ++ others))) ≡ natural_of (take k (drop j room))
  part k j within = ap natural_of (part_of_copy k j (3 * digits + 6) xs room others is long within)

  pub copied_common : common_in digits (xs ++ others) ≡ common_in digits room
  copied_common = part digits (digits + 3) (omega arith)

  pub copied_pair : ◌≡◌ {A = ℤ × ℕ} (joined_pair digits (xs ++ others)) (joined_pair digits room)
  copied_pair =
      let new = xs ++ others in
      ap (λ (x : ℕ). (pos x -ℤ pos (negative_in digits new), common_in digits new)) (part (digits + 3) 0 (omega arith))
      ∙ ap (λ (x : ℕ). (pos (positive_in digits room) -ℤ pos x, common_in digits new)) (part (digits + 3) (2 * digits + 3) (omega arith))
      ∙ ap (λ (x : ℕ). (pos (positive_in digits room) -ℤ pos (negative_in digits room), x)) copied_common

-- ---- the count of a total

-- it is an `i64`
pub count_fits : (count : ℤ) (weight : ℕ) → unsigned_abs count ≤ weight → weight ≤ most_weight → FitsSigned w64 count
count_fits count weight counted light = omega (arith, ints, counted, light)

-- ---- the order of two sums

-- rooms that hold sums are refused for too few digits alone
pub short_order : (sum : Joined) (room : List ℕ) (other : Joined) (other_room : List ℕ) (free : ℕ) → HoldsSum sum room → HoldsSum other other_room → ¬ (CanOrderRooms sum.digits room other.digits other_room free)
    → free < order_digits sum.digits other.digits
short_order sum room other other_room free left right none = elim (cases_lt free (order_digits sum.digits other.digits)) [
  | inl less ↦ less
  | inr enough ↦ absurd (none (record {
    left = record { few = left.few; long = left.long; common = left.small.some };
    right = record { few = right.few; long = right.long; common = right.small.some };
    enough = enough;
  }))
]
