-- Laws of totals, over what their calls promise.
use Rattle.std.specs.Prelude.{◌≡◌, ◌≢◌, ◌<◌, ℕ, ℤ, List, length, neg_ℤ}
use Rattle.ratio_slots.specs.{Merging.AddsEach, Merging.holds, Slots.IsTable, Slots.slot_at}
use Rattle.ratio_slots.specs.Sums.{GrowsAt, numerator_at, sum_of_slots}
use Rattle.ratio_slots.specs.Turning.{negated}
use Rattle.ratio_slots.specs.declared.slots.Slot.{Slot}

-- both tables have the same numerator over each denominator
-- Example: 1/36, 1/28 and 1/28, empty, 1/36
pub record SameNumerators (left right : List Slot) : Type 0 where
  pub each : (e : ℕ) → e ≢ 0 → numerator_at e left ≡ numerator_at e right

-- both tables hold the same denominators
-- Example: 1/36, 1/28 and 1/28, empty, 5/36
pub record SameDenominators (left right : List Slot) : Type 0 where
  pub each : (e : ℕ) → e ≢ 0 → holds e left ≡ holds e right

-- two fractions, added in both orders, give the same numerators
-- Example: 1/36 and then 1/28; 1/28 and then 1/36
abbrev pub AdditionsCommute : Type 0
AdditionsCommute = (d e : ℕ) (n m : ℤ) (start first both other again : List Slot)
    → GrowsAt d n start first → GrowsAt e m first both → GrowsAt e m start other → GrowsAt d n other again → SameNumerators both again

-- a fraction that goes in and then out leaves each numerator as it was
-- Example: 1/36, and then -1/36
abbrev pub TakingOutUndoes : Type 0
TakingOutUndoes = (d : ℕ) (n : ℤ) (start added after : List Slot) → GrowsAt d n start added → GrowsAt d (neg_ℤ n) added after → SameNumerators start after

-- two tables, merged in both orders, give the same numerators
abbrev pub TableMergesCommute : Type 0
TableMergesCommute = (left right both again : List Slot) → AddsEach left right both → AddsEach right left again → SameNumerators both again

-- three tables, merged in both groupings, give the same numerators
abbrev pub TableMergesAssociate : Type 0
TableMergesAssociate = (a b c ab ab_c bc a_bc : List Slot)
    → AddsEach a b ab → AddsEach ab c ab_c → AddsEach b c bc → AddsEach a bc a_bc → SameNumerators ab_c a_bc

-- a merge is one addition after another: if the other table has n/d more, the merged one has n/d more
-- Example: with 1/28 and then 5/36, merged at once or one after the other
abbrev pub MergesAddEach : Type 0
MergesAddEach = (d : ℕ) (n : ℤ) (start other more merged merged_more : List Slot)
    → GrowsAt d n other more → AddsEach start other merged → AddsEach start more merged_more → GrowsAt d n merged merged_more

-- a total that is merged and then taken out leaves each numerator as it was
-- Example: 1/36 and 1/28, and then -1/36 and -1/28
abbrev pub MergesUndone : Type 0
MergesUndone = (start other merged after : List Slot) → AddsEach start other merged → AddsEach merged (negated other) after → SameNumerators start after

-- a negated table has each numerator with its sign turned
-- Example: over 36, 1/36 negated: -1
abbrev pub NegatedNumerators : Type 0
NegatedNumerators = (e : ℕ) (slots : List Slot) → numerator_at e (negated slots) ≡ neg_ℤ (numerator_at e slots)

-- the sum of a negated table is its sum with the sign turned
-- Example: 1/36, 1/28: -64/1008
abbrev pub NegatedSums : Type 0
NegatedSums = (slots : List Slot) → sum_of_slots (negated slots) ≡ (neg_ℤ (sum_of_slots slots).0, (sum_of_slots slots).1)

-- no denominator is in two slots of a table
abbrev pub DenominatorsDiffer : Type 0
DenominatorsDiffer = (slots : List Slot) (i j : ℕ) → IsTable slots → i < length slots → j < length slots
    → (slot_at slots i).denom ≢ 0 → (slot_at slots i).denom ≡ (slot_at slots j).denom → i ≡ j
