-- How many different denominators a list of fractions has. `view` gives an item as a numerator and a denominator.
use Rattle.std.specs.Prelude.{◌≡◌, ◌≢◌, ◌+◌, ◌<◌, ◌==◌, ℕ, ℤ, Bool, true, false, List, [], ◌∷◌, if◌then◌else◌, length}
use Rattle.ratio_slots.specs.{Merging.holds, Totals.most_weight}
use Rattle.ratio_slots.specs.declared.tally.Refusal.{Refusal, TheVariants.MoreRoom, TheVariants.TooMany}
use Rattle.ratio_slots.specs.declared.slots.Slot.{Slot}

-- whether an item has the denominator d
-- Example: 28 in 1/36, 1/28: true
abbrev pub has_denominator : {A : Type 0} → (A → ℤ × ℕ) → ℕ → List A → Bool
has_denominator view d [] = false
has_denominator view d (x ∷ xs) = if (view x).1 == d then true else has_denominator view d xs

-- how many different denominators the items have
-- Example: 1/36, 1/28, 5/36: 2
abbrev pub denominators_of : {A : Type 0} → (A → ℤ × ℕ) → List A → ℕ
denominators_of view [] = 0
denominators_of view (x ∷ xs) = if has_denominator view (view x).1 xs then denominators_of view xs else denominators_of view xs + 1

-- why the items did not go into so many empty slots: they have more denominators than that, or they are more than 2^63 - 1
-- Example: 1/36, 1/28 and 1 slot: `MoreRoom`
abbrev pub AreRefusedFor : {A : Type 0} → (A → ℤ × ℕ) → List A → ℕ → Refusal → Type 0
AreRefusedFor view items room MoreRoom = room < denominators_of view items
AreRefusedFor view items room TooMany = most_weight < length items

-- the table holds the denominators of the items, and no others
-- Example: the table 28, empty, 36 for 1/36, 1/28, 5/36
pub record HoldsItems {A : Type 0} (view : A → ℤ × ℕ) (items : List A) (slots : List Slot) : Type 0 where
  pub each : (d : ℕ) → d ≢ 0 → holds d slots ≡ has_denominator view d items
