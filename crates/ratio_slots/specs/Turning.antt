-- What goes in, or out: each numerator as it is, or with its sign turned.
use Rattle.std.specs.Prelude.{Bool, true, false, ℤ, neg_ℤ, List, [], ◌∷◌}
use Rattle.ratio_slots.specs.declared.slots.Slot.{Slot}

-- a number that goes in as it is, and out with its sign turned
-- Example: out, 5: -5
abbrev pub turned : Bool → ℤ → ℤ
turned false n = n
turned true n = neg_ℤ n

-- the table with the sign of each numerator turned
-- Example: 1/36, -1/28: -1/36, 1/28
abbrev pub negated : List Slot → List Slot
negated [] = []
negated (slot ∷ rest) = record { denom = slot.denom; numer = neg_ℤ slot.numer } ∷ negated rest

-- a table that goes in as it is, and out negated
-- Example: out, 1/36: -1/36
abbrev pub turned_slots : Bool → List Slot → List Slot
turned_slots false slots = slots
turned_slots true slots = negated slots
