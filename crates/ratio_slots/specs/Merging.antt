-- Two tables as one: what is counted before, and what holds after.
use Rattle.std.specs.Prelude.{◌≡◌, ◌≢◌, ◌+◌, ◌*◌, ◌-◌, ◌^◌, ◌<◌, ◌≤◌, ◌==◌, ◌+ℤ◌, Bool, true, false, ℕ, List, [], ◌∷◌, if◌then◌else◌, unsigned_abs}
use Rattle.ratio_slots.specs.Slots.{IsTable, slot_at}
use Rattle.ratio_slots.specs.Sums.{SameSum, pair_sum, numerator_at, sum_of_slots}
use Rattle.ratio_slots.specs.{Totals.most_weight, Turning.turned_slots}
use Rattle.ratio_slots.specs.declared.tally.Refusal.{Refusal, TheVariants.MoreRoom, TheVariants.TooMany}
use Rattle.ratio_slots.specs.declared.slots.Slot.{Slot}

-- whether some slot holds the denominator d
-- Example: 28 in the table 36, 28: true
abbrev pub holds : ℕ → List Slot → Bool
holds d [] = false
holds d (slot ∷ rest) = if slot.denom == d then true else holds d rest

-- how many slots are empty
-- Example: 2 in the table 36, empty, 28, empty
abbrev pub free_of : List Slot → ℕ
free_of [] = 0
free_of (slot ∷ rest) = if slot.denom == 0 then free_of rest + 1 else free_of rest

-- how many slots of the second table hold a denominator that the first one does not
-- Example: the tables 36, 28 and 28, 12, empty: 1
abbrev pub new_of : List Slot → List Slot → ℕ
new_of slots [] = 0
new_of slots (slot ∷ rest) = if slot.denom == 0 then new_of slots rest else (if holds slot.denom slots then new_of slots rest else new_of slots rest + 1)

-- how many slots are taken
-- Example: 2 in the table 36, empty, 28, empty
abbrev pub taken_of : List Slot → ℕ
taken_of [] = 0
taken_of (slot ∷ rest) = if slot.denom == 0 then taken_of rest else taken_of rest + 1

-- each numerator is the sum of those in both tables
-- Example: 1/36, 1/28 merged with 5/36: 6/36, 1/28
pub record AddsEach (old other new : List Slot) : Type 0 where
  pub each : (e : ℕ) → e ≢ 0 → numerator_at e new ≡ numerator_at e old +ℤ numerator_at e other

-- whether one of two tables holds the denominator e
abbrev pub one_holds : ℕ → List Slot → List Slot → Bool
one_holds e left right = if holds e left then true else holds e right

-- the table holds the denominators of both tables, and no others
-- Example: 36, 28 merged with 36, 12: 36, 28, 12
pub record HoldsBoth (old other new : List Slot) : Type 0 where
  pub each : (e : ℕ) → e ≢ 0 → holds e new ≡ one_holds e old other

-- the sum of the new table has the value of both sums together
-- Example: 1/36 merged with 5/36: 6/36
pub record SumAdds (old other new : List Slot) : Type 0 where
  pub same : SameSum (pair_sum (sum_of_slots old) (sum_of_slots other)) (sum_of_slots new)

-- each denominator that is new takes an empty slot, and no more of these are taken
-- Example: 36, 28, empty, empty merged with 36, 12: one slot is empty afterwards
pub record TakesSlots (old other new : List Slot) : Type 0 where
  pub free : free_of new + new_of old other ≡ free_of old

-- Inner: each fraction of the other table went into the old one, or out of it, and all that this changes is said
pub record IsMerged (out : Bool) (old other new : List Slot) : Type 0 where
  pub numerators : AddsEach old (turned_slots out other) new
  pub sum : SumAdds old (turned_slots out other) new
  pub held : HoldsBoth old other new
  pub free : TakesSlots old other new

-- the weights leave room for each other, and there is an empty slot for each denominator that is new
pub record CanMerge (slots : List Slot) (weight : ℕ) (other : List Slot) (more : ℕ) : Type 0 where
  pub light : weight + more ≤ most_weight
  pub room : new_of slots other ≤ free_of slots

-- why a total was refused: the sum of the weights is above the greatest one, or the new denominators are more than the empty slots
abbrev pub IsMergeRefusedFor : List Slot → ℕ → List Slot → ℕ → Refusal → Type 0
IsMergeRefusedFor slots weight other more MoreRoom = free_of slots < new_of slots other
IsMergeRefusedFor slots weight other more TooMany = most_weight < weight + more

-- no denominator is in two slots
-- Example: the table 36, empty, 28
abbrev pub AreApart : List Slot → Type 0
AreApart [] = Unit {0}
AreApart (slot ∷ rest) = (slot.denom ≢ 0 → holds slot.denom rest ≡ false) × AreApart rest

-- on the way: `rest` of the other table is still to come, and nothing is lost
pub record IsPouring (start other now rest : List Slot) (weight more : ℕ) : Type 0 where
  pub table : IsTable now
  pub numerators : (e : ℕ) → e ≢ 0 → numerator_at e now +ℤ numerator_at e rest ≡ numerator_at e start +ℤ numerator_at e other
  pub sum : SameSum (pair_sum (sum_of_slots now) (sum_of_slots rest)) (pair_sum (sum_of_slots start) (sum_of_slots other))
  pub held : (e : ℕ) → e ≢ 0 → one_holds e now rest ≡ one_holds e start other
  pub room : new_of now rest ≤ free_of now
  pub free : free_of now + new_of start other ≡ free_of start + new_of now rest
  pub bounded : (k : ℕ) → unsigned_abs (slot_at now k).numer ≤ (weight + more) * (2 ^ 64 - 1)
  pub fresh : (k : ℕ) → holds (slot_at now k).denom rest ≡ true → unsigned_abs (slot_at now k).numer ≤ weight * (2 ^ 64 - 1)
  pub apart : AreApart rest
  pub small : (k : ℕ) → unsigned_abs (slot_at rest k).numer ≤ more * (2 ^ 64 - 1)
