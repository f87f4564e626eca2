-- The order of sums.
use Rattle.std.specs.Prelude.{◌+◌, ◌*◌, ◌<◌, ◌≤◌, ◌*ℤ◌, ℕ, ℤ, pos, List, [], ◌∷◌, ◌++◌, max, min}
use Rattle.std.specs.Ordering.{int_cmp}
use Rattle.std.specs.declared.cmp.Ordering.{Ordering}
use Rattle.ratio_slots.specs.Common.{HasLongCommon, IsCommonOf, most_common, most_digits}
use Rattle.ratio_slots.specs.{Merging.new_of, Merging.taken_of, Sums.sum_of_slots, Totals.most_weight}
use Rattle.ratio_slots.specs.declared.comparing.CompareRefusal.{CompareRefusal}
use Rattle.ratio_slots.specs.declared.comparing.CompareRefusal.TheVariants.{MoreRoom, MoreSlots, TooLong, TooMany}
use Rattle.ratio_slots.specs.declared.slots.Slot.{Slot}

-- the order of the sum of the table and 0. The denominator of the sum is above 0, so it is the order of the numerator and 0
-- Example: 1/36, -1/28: `Less`
abbrev pub sign_of_slots : List Slot → Ordering
sign_of_slots slots = int_cmp (sum_of_slots slots).0 (pos 0)

-- the order of two fractions n/d and m/e, that of n·e and m·d. Both denominators are above 0
-- Example: 1/2 and 2/3: 3 < 4, so `Less`
abbrev pub pair_cmp : ℤ × ℕ → ℤ × ℕ → Ordering
pair_cmp p q = int_cmp (p.0 *ℤ pos q.1) (q.0 *ℤ pos p.1)

-- the common denominator of the table is below `bound`
pub record HasShortCommon (slots : List Slot) (bound : ℕ) : Type 0 where
  pub common : ℕ
  pub is : IsCommonOf slots common
  pub short : common < bound

-- how many denominators two tables hold together
-- Example: 3 in the tables 36, 28 and 28, 12, empty
abbrev pub taken_together : List Slot → List Slot → ℕ
taken_together left right = taken_of left + new_of left right

-- the digits that a comparison of two tables needs: as many as a read of a table with the denominators of both
-- Example: 18 for the tables 36, 28 and 28, 12, empty
abbrev pub compare_digits : List Slot → List Slot → ℕ
compare_digits left right = 4 * max 1 (min (taken_together left right) most_digits) + 6

-- two tables of these weights can be compared in so many slots and digits: the weights leave room for each other, there are a slot for each
-- denominator and digits for a read, and the common denominator of both is not too long
pub record CanCompareTables (left : List Slot) (weight : ℕ) (right : List Slot) (more slots digits : ℕ) : Type 0 where
  pub light : weight + more ≤ most_weight
  pub slots_room : taken_together left right ≤ slots
  pub digits_room : compare_digits left right ≤ digits
  pub short : HasShortCommon (left ++ right) most_common

-- why two tables were not compared: one part of `CanCompareTables` does not hold
-- Example: the tables 36, 28 and 28, 12 in two slots: `MoreSlots`
abbrev pub IsCompareRefusedFor : List Slot → ℕ → List Slot → ℕ → ℕ → ℕ → CompareRefusal → Type 0
IsCompareRefusedFor left weight right more slots digits MoreSlots = slots < taken_together left right
IsCompareRefusedFor left weight right more slots digits TooMany = most_weight < weight + more
IsCompareRefusedFor left weight right more slots digits MoreRoom = digits < compare_digits left right
IsCompareRefusedFor left weight right more slots digits TooLong = HasLongCommon (left ++ right) most_common

-- the table of one fraction
-- Example: 5 and 36: 5/36
abbrev pub one_slot : ℤ → ℕ → List Slot
one_slot numer denom = record { denom = denom; numer = numer } ∷ []
