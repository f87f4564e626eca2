-- Totals: a table of slots, its weight and its count, and what the calls on them change.
use Rattle.std.specs.Prelude.{◌≡◌, ◌+◌, ◌*◌, ◌^◌, ◌-◌, ◌<◌, ◌≤◌, ◌+ℤ◌, ℕ, ℤ, List, length, unsigned_abs}
use Rattle.ratio_slots.specs.Slots.{HasNoPlaceFor, IsPlaceOf, IsTable, empty_slot, slot_at}
use Rattle.ratio_slots.specs.Sums.{Puts}
use Rattle.ratio_slots.specs.declared.tally.Refusal.{Refusal, TheVariants.MoreRoom, TheVariants.TooMany}
use Rattle.ratio_slots.specs.declared.slots.Slot.{Slot}

-- each slot is empty
pub record HasNoFraction (slots : List Slot) : Type 0 where
  pub each : (k : ℕ) → k < length slots → slot_at slots k ≡ empty_slot

-- the greatest weight of a total
-- Example: 9223372036854775807
abbrev pub most_weight : ℕ
most_weight = 2 ^ 63 - 1

-- the slots are a table, and no numerator exceeds the weight times 2^64 - 1. The count is at most the weight
pub record IsKept (slots : List Slot) (weight : ℕ) (count : ℤ) : Type 0 where
  pub table : IsTable slots
  pub bounded : (k : ℕ) → unsigned_abs (slot_at slots k).numer ≤ weight * (2 ^ 64 - 1)
  pub counted : unsigned_abs count ≤ weight
  pub light : weight ≤ most_weight

-- some slot is open to d, and the search for it finds it
pub record HasPlaceFor (slots : List Slot) (d : ℕ) : Type 0 where
  pub index : ℕ
  pub place : IsPlaceOf slots d index

-- the weight leaves room for one more, and the table has a place for d
pub record IsAccepted (slots : List Slot) (weight d : ℕ) : Type 0 where
  pub light : weight < most_weight
  pub place : HasPlaceFor slots d

-- a fraction over d went in: the table changed at its place alone, the weight grew by 1 and the count by the step
pub record PutsOne (d : ℕ) (n step : ℤ) (old new : List Slot) (weight new_weight : ℕ) (count new_count : ℤ) : Type 0 where
  pub accepted : IsAccepted old weight d
  pub slots : Puts d n old new
  pub weight_grows : new_weight ≡ weight + 1
  pub count_grows : new_count ≡ count +ℤ step

-- why a fraction over d was refused: the weight is at its greatest, or each slot is taken by another denominator
-- Example: 12 in the table 36, 28: `MoreRoom`
abbrev pub IsRefusedFor : List Slot → ℕ → ℕ → Refusal → Type 0
IsRefusedFor slots weight d MoreRoom = HasNoPlaceFor slots d
IsRefusedFor slots weight d TooMany = weight ≡ most_weight
