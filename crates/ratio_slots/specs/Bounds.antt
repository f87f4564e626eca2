-- Bounds of the sum of a table. Each quotient is cut to a whole number of parts of 1, and these numbers are added.
use Rattle.std.specs.Prelude.{◌≡◌, ◌≢◌, ◌+◌, ◌*◌, ◌/◌, ◌%◌, ◌^◌, ◌<◌, ◌==◌, ◌+ℤ◌, ◌-ℤ◌, ◌*ℤ◌, ◌≤ℤ◌, ℕ, ℤ, pos, List, [], ◌∷◌, if◌then◌else◌}
use Rattle.ratio_decimal.specs.RoundingRules.{IsRoundedBy}
use Rattle.ratio_decimal.specs.declared.rounding_rule.Rounding.{Rounding}
use Rattle.ratio_decimal.specs.Decimal.{IsDecimalOf, places_text}
use Rattle.ratio_slots.specs.{Common.above_zero, Common.below_zero, Sums.sum_of_slots}
use Rattle.ratio_slots.specs.declared.slots.Slot.{Slot}

-- 1 if n/d is cut to a whole number, and 0 if it is one
-- Example: 200 and 3: 1; 200 and 4: 0
abbrev pub cut_of : ℕ → ℕ → ℕ
cut_of n d = if n % d == 0 then 0 else 1

-- the numerators of one side of 0 in a table, each as so many parts of 1 over its denominator and cut to a whole number, and these added.
-- An empty slot counts nothing
-- Example: `above_zero`, 100 parts, 2/3, -1/7, 1/4: 66 + 0 + 25 = 91
abbrev pub cut_sum : (ℤ → ℕ) → ℕ → List Slot → ℕ
cut_sum side parts [] = 0
cut_sum side parts (slot ∷ rest) = if slot.denom == 0 then cut_sum side parts rest else side slot.numer * parts / slot.denom + cut_sum side parts rest

-- how many of them are cut
-- Example: `above_zero`, 100 parts, 2/3, -1/7, 1/4: 1
abbrev pub cut_count : (ℤ → ℕ) → ℕ → List Slot → ℕ
cut_count side parts [] = 0
cut_count side parts (slot ∷ rest) = if slot.denom == 0 then cut_count side parts rest else cut_of (side slot.numer * parts) slot.denom + cut_count side parts rest

-- the sum of the table is at least so many parts of 1: each number below 0 that was cut counts one more
-- Example: 100 parts, 2/3, -1/7, 1/4: 91 - 14 - 1 = 76
abbrev pub low_of : ℕ → List Slot → ℤ
low_of parts slots = pos (cut_sum above_zero parts slots) -ℤ pos (cut_sum below_zero parts slots + cut_count below_zero parts slots)

-- the sum of the table is at most so many parts of 1: each number above 0 that was cut counts one more
-- Example: 100 parts, 2/3, -1/7, 1/4: 91 + 1 - 14 = 78
abbrev pub high_of : ℕ → List Slot → ℤ
high_of parts slots = pos (cut_sum above_zero parts slots + cut_count above_zero parts slots) -ℤ pos (cut_sum below_zero parts slots)

-- the sum of the table is at least `low` and at most `high` parts of 1
-- Example: 76 and 78 hundredths for 2/3, -1/7, 1/4, whose sum is 65/84
pub record LiesBetween (slots : List Slot) (parts : ℕ) (low high : ℤ) : Type 0 where
  pub at_least : (low *ℤ pos (sum_of_slots slots).1) ≤ℤ ((sum_of_slots slots).0 *ℤ pos parts)
  pub at_most : ((sum_of_slots slots).0 *ℤ pos parts) ≤ℤ (high *ℤ pos (sum_of_slots slots).1)

-- with so many places the rule rounds the two bounds of the sum to different numbers
-- Example: 1/3, 1/6 without places, 100 parts, by `HalfEven`: 0.49 and 0.51
pub record RoundsApart (rule : Rounding) (places : ℕ) (slots : List Slot) (parts : ℕ) : Type 0 where
  pub low : ℤ
  pub high : ℤ
  pub low_is : IsRoundedBy rule (low_of parts slots *ℤ pos (10 ^ places)) (pos parts) low
  pub high_is : IsRoundedBy rule (high_of parts slots *ℤ pos (10 ^ places)) (pos parts) high
  pub apart : low ≢ high

-- ---- laws

-- Law: the bounds of a table hold
abbrev pub BoundsHold : Type 0
BoundsHold = (slots : List Slot) (parts : ℕ) → LiesBetween slots parts (low_of parts slots) (high_of parts slots)

-- Law: they are as far apart as numbers were cut
abbrev pub BoundsAreNear : Type 0
BoundsAreNear = (slots : List Slot) (parts : ℕ) → high_of parts slots ≡ low_of parts slots +ℤ pos (cut_count above_zero parts slots + cut_count below_zero parts slots)

-- Law: where a rule rounds both bounds of a table to the same number, the decimal of the sum is that number
-- Example: 2/3, 1/7 with one place: 0.80 and 0.82 by `HalfEven`: `0.8`
abbrev pub BoundsDecide : Type 0
BoundsDecide = (rule : Rounding) (places parts : ℕ) (slots : List Slot) (z : ℤ) → 0 < parts → IsRoundedBy rule (low_of parts slots *ℤ pos (10 ^ places)) (pos parts) z
    → IsRoundedBy rule (high_of parts slots *ℤ pos (10 ^ places)) (pos parts) z → IsDecimalOf rule places (sum_of_slots slots).0 (pos (sum_of_slots slots).1) (places_text places z)
