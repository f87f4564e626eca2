-- A decimal of what was read is one of the total, and so is a whole number.
use Rattle.std.specs.Prelude.{◌≡◌, ◌<◌, ◌<ℤ◌, ℕ, ℤ, pos, Bool, true, false, List, Option, SomeIff, take, drop}
use Rattle.std.proofs.Common.{ap, arith, refl, subst, ◌∙◌}
use Rattle.std.proofs.lemmas.Int.{ints}
use Rattle.ratio_decimal.specs.RoundingRules.{IsRoundedBy, signed}
use Rattle.ratio_decimal.proofs.RoundingRuleLaws.{same_by}
use Rattle.ratio_decimal.specs.declared.rounding_rule.Rounding.{Rounding}
use Rattle.ratio_decimal.specs.Decimal.{IsDecimalOf}
use Rattle.ratio_decimal.proofs.DecimalLawLemmas.{decimal_by_value}
use Rattle.ratio_natural.specs.Number.{natural_of}
use Rattle.ratio_slots.specs.Common.{IsOverCommon, whole_number}
use Rattle.ratio_slots.specs.Integers.{ChecksInteger}
use Rattle.ratio_slots.specs.Joined.{pair_left}
use Rattle.ratio_slots.specs.ShortSum.{IsShortSum}
use Rattle.ratio_slots.specs.Sums.{Has128Bits, sum_of_slots}
use Rattle.ratio_slots.specs.declared.reading.OverCommon.{OverCommon}
use Rattle.ratio_slots.specs.declared.slots.Slot.{Slot}
use Rattle.ratio_slots.proofs.MergeSums.{sum_positive}

pub above_zero_ℤ : (n : ℕ) → 0 < n → pos 0 <ℤ pos n
above_zero_ℤ n some = omega (arith, ints)

-- both words for a number with a sign
pub signed_whole : (negative : Bool) (n : ℕ) → signed negative n ≡ whole_number negative n
signed_whole true n = refl
signed_whole false n = refl

pub decimal_read : (slots : List Slot) (rule : Rounding) (places : ℕ) (negative : Bool) (n d : ℕ) (text : List ℕ) → IsOverCommon slots negative n d
    → IsDecimalOf rule places (whole_number negative n) (pos d) text → IsDecimalOf rule places (sum_of_slots slots).0 (pos (sum_of_slots slots).1) text
decimal_read slots rule places negative n d text is decimal =
    decimal_by_value rule places (whole_number negative n) (pos d) _ _ text (above_zero_ℤ d is.common.positive) (above_zero_ℤ (sum_of_slots slots).1 (sum_positive slots)) is.value decimal

-- the two numbers are parts of the room
pub decimal_left : (rule : Rounding) (places : ℕ) (read : OverCommon) (room numer denom text : List ℕ) → numer ≡ take read.numer_digits room → denom ≡ take read.denom_digits (drop read.numer_digits room)
    → IsDecimalOf rule places (signed read.negative (natural_of numer)) (pos (natural_of denom)) text → IsDecimalOf rule places (pair_left read room).0 (pos (pair_left read room).1) text
decimal_left rule places read room numer denom text numer_is denom_is decimal =
    subst (λ xs. IsDecimalOf rule places (pair_left read room).0 (pos (natural_of xs)) text) denom_is
    (subst (λ z. IsDecimalOf rule places z (pos (natural_of denom)) text) (signed_whole read.negative (natural_of numer) ∙ ap (λ xs. whole_number read.negative (natural_of xs)) numer_is) decimal)

-- the same of a short sum
pub decimal_short : (slots : List Slot) (rule : Rounding) (places : ℕ) (n : ℤ) (d : ℕ) (text : List ℕ) → IsShortSum slots n d → IsDecimalOf rule places n (pos d) text
    → IsDecimalOf rule places (sum_of_slots slots).0 (pos (sum_of_slots slots).1) text
decimal_short slots rule places n d text is decimal =
    decimal_by_value rule places n (pos d) _ _ text (above_zero_ℤ d is.common.positive) (above_zero_ℤ (sum_of_slots slots).1 (sum_positive slots)) is.value decimal

pub integer_read : (slots : List Slot) (rule : Rounding) (negative : Bool) (n d q : ℕ) (result : Option ℤ) → IsOverCommon slots negative n d → IsRoundedBy rule (signed negative n) (pos d) (signed negative q)
    → SomeIff result (Has128Bits (whole_number negative q)) (whole_number negative q) → ChecksInteger rule (sum_of_slots slots) result
integer_read slots rule true n d q result is rounded held = record {
  number = signed true q;
  rounded = same_by rule (signed true n) (pos d) _ _ (signed true q) (above_zero_ℤ d is.common.positive) (above_zero_ℤ (sum_of_slots slots).1 (sum_positive slots)) is.value rounded;
  held = held;
}
integer_read slots rule false n d q result is rounded held = record {
  number = signed false q;
  rounded = same_by rule (signed false n) (pos d) _ _ (signed false q) (above_zero_ℤ d is.common.positive) (above_zero_ℤ (sum_of_slots slots).1 (sum_positive slots)) is.value rounded;
  held = held;
}
