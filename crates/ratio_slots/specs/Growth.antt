-- A total that grows: how many slots its next table has, and which slots move there.
use Rattle.std.specs.Prelude.{◌≡◌, ◌+◌, ◌*◌, ◌/◌, ◌%◌, ◌≤◌, ◌==◌, Bool, true, false, ℕ, List, length, take, if◌then◌else◌, max, unsigned_abs}
use Rattle.std.specs.List.{filter}
use Rattle.ratio_slots.specs.Slots.{empty_slot, slot_at}
use Rattle.ratio_slots.specs.Sums.{SameSum, sum_of_slots}
use Rattle.ratio_slots.specs.declared.slots.Slot.{Slot}

-- the fewest slots of a table for so many denominators: twice as many, and at least 8
-- Example: for 12: 24
abbrev pub fewest_slots : ℕ → ℕ
fewest_slots needed = max 8 (2 * needed)

-- the slots of a table for so many denominators: the fewest, and by chance up to an eighth more
-- Example: for 12 by the chance 6: 26
abbrev pub length_by : ℕ → ℕ → ℕ
length_by needed chance = fewest_slots needed + chance % (fewest_slots needed / 8 + 1)

-- whatever the chance, what is needed takes at most half of the slots, and there are at least 8
-- Example: for 12: at least 24 slots
abbrev pub LengthsLeaveRoom : Type 0
LengthsLeaveRoom = (needed chance : ℕ) → (2 * needed ≤ length_by needed chance) × (8 ≤ length_by needed chance)

-- whatever the chance, four denominators or more have at most nine slots for each four
-- Example: for 12: at most 27 slots
abbrev pub LengthsAreNear : Type 0
LengthsAreNear = (needed chance : ℕ) → 4 ≤ needed → 4 * length_by needed chance ≤ 9 * needed

-- each length from the fewest slots to an eighth more comes by some chance. So nobody can know the length before
-- Example: for 12: 24, 25, 26 and 27 slots
abbrev pub LengthsComeByChance : Type 0
LengthsComeByChance = (needed extra : ℕ) → 8 * extra ≤ fewest_slots needed → length_by needed extra ≡ fewest_slots needed + extra

-- whether a slot holds a fraction that is not 0
-- Example: 1/36: true; 0/28: false
abbrev pub is_nonzero : Slot → Bool
is_nonzero slot = if slot.denom == 0 then false else (if unsigned_abs slot.numer == 0 then false else true)

-- the fractions that are not 0 come first, in the order that they had, and each slot behind them is empty
-- Example: 1/36, 0/28, empty, 5/12: 1/36, 5/12, empty, empty, and 2 are left
pub record LeavesZeros (old new : List Slot) (left : ℕ) : Type 0 where
  pub number : left ≡ length (filter is_nonzero old)
  pub first : take left new ≡ filter is_nonzero old
  pub behind : (k : ℕ) → left ≤ k → slot_at new k ≡ empty_slot

-- both tables have sums of the same value
-- Example: 1/36, 0/28 and 1/36, empty
pub record SumStays (old new : List Slot) : Type 0 where
  pub same : SameSum (sum_of_slots old) (sum_of_slots new)
