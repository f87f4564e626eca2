-- The sum of a list: the common denominator of its items, and why the sum is refused.
use Rattle.std.specs.Prelude.{◌+◌, ◌*◌, ◌<◌, ℕ, ℤ, List, [], ◌∷◌, length, max, min}
use Rattle.ratio_slots.specs.Common.{HasLongCommon, most_common, most_digits}
use Rattle.ratio_slots.specs.Totals.{most_weight}
use Rattle.ratio_slots.specs.declared.slots.Slot.{Slot}
use Rattle.ratio_totals.specs.Items.{denominators_of}
use Rattle.ratio_totals.specs.declared.list_sums.SumRefusal.{SumRefusal}
use Rattle.ratio_totals.specs.declared.list_sums.SumRefusal.TheVariants.{MoreRoom, MoreSlots, TooLong, TooMany}

-- the items as a table with a slot for each of them
-- Example: 1/36, 1/28, 5/36: the table 36, 28, 36
abbrev pub table_of : {A : Type 0} → (A → ℤ × ℕ) → List A → List Slot
table_of view [] = []
table_of view (x ∷ xs) = record { denom = (view x).1; numer = (view x).0 } ∷ table_of view xs

-- the numbers of room that a read of a total with so many denominators needs
-- Example: 2: 14
abbrev pub digits_for : ℕ → ℕ
digits_for count = 4 * max 1 (min count most_digits) + 6

-- why the sum of the items was not computed with so many slots and so much room: the items have more denominators than there are slots,
-- or are more than 2^63 - 1; or the room is too small, or their common denominator is too long
-- Example: 1/36, 1/28 and 1 slot: `MoreSlots`
abbrev pub IsSumRefusedFor : {A : Type 0} → (A → ℤ × ℕ) → List A → ℕ → ℕ → SumRefusal → Type 0
IsSumRefusedFor view items slots room MoreSlots = slots < denominators_of view items
IsSumRefusedFor view items slots room MoreRoom = room < digits_for (denominators_of view items)
IsSumRefusedFor view items slots room TooMany = most_weight < length items
IsSumRefusedFor view items slots room TooLong = HasLongCommon (table_of view items) most_common
