-- What a table means: a numerator for each denominator, and the sum of its fractions.
use Rattle.std.specs.Prelude.{◌≡◌, ◌≢◌, ◌*◌, ◌==◌, ◌+ℤ◌, ◌*ℤ◌, ◌≤ℤ◌, ℕ, ℤ, pos, List, [], ◌∷◌, if◌then◌else◌, slice_set}
use Rattle.ratio_integer.specs.Fraction.{SameValue}
use Rattle.ratio_integer.specs.SignedBits.{greatest128, least128}
use Rattle.ratio_slots.specs.Slots.{IsPlaceOf, slot_at}
use Rattle.ratio_slots.specs.declared.slots.Slot.{Slot}

-- n if d and e are the same denominator; elsewhere 0
abbrev pub numerator_over : ℕ → ℕ → ℤ → ℤ
numerator_over e d n = if d == e then n else pos 0

-- the numerator over the denominator e in a table; 0 if no slot holds e
-- Example: over 36 in the table 5/36, 1/28: 5
abbrev pub numerator_at : ℕ → List Slot → ℤ
numerator_at e [] = pos 0
numerator_at e (slot ∷ rest) = numerator_over e slot.denom slot.numer +ℤ numerator_at e rest

-- the sum of two fractions, not reduced: n/d + a/b is (nb + ad)/(db)
-- Example: 1/36 and 1/28: 64/1008
abbrev pub pair_sum : ℤ × ℕ → ℤ × ℕ → ℤ × ℕ
pair_sum p q = (p.0 *ℤ pos q.1 +ℤ q.0 *ℤ pos p.1, p.1 * q.1)

-- two fractions have the same value
-- Example: 64/1008 and 4/63
abbrev pub SameSum : ℤ × ℕ → ℤ × ℕ → Type 0
SameSum p q = SameValue p.0 (pos p.1) q.0 (pos q.1)

-- the sum of the fractions in a table, not reduced: its numerator and its denominator. An empty slot counts nothing
-- Example: 1/36, 1/28: 64/1008
abbrev pub sum_of_slots : List Slot → ℤ × ℕ
sum_of_slots [] = (pos 0, 1)
sum_of_slots (slot ∷ rest) =
    if slot.denom == 0 then sum_of_slots rest else pair_sum (slot.numer, slot.denom) (sum_of_slots rest)

-- the number is one of 128 bits
-- Example: -2^127; not 2^127
pub record Has128Bits (n : ℤ) : Type 0 where
  pub least : least128 ≤ℤ n
  pub greatest : n ≤ℤ greatest128

-- the slot with n added over d
abbrev pub grown : ℕ → ℤ → Slot → Slot
grown d n slot = record { denom = d; numer = slot.numer +ℤ n }

-- n/d was added to the slot where the search for d ends, and no other slot changed
pub record Puts (d : ℕ) (n : ℤ) (old new : List Slot) : Type 0 where
  pub index : ℕ
  pub place : IsPlaceOf old d index
  pub written : new ≡ slice_set old index (grown d n (slot_at old index))

-- the numerator over d grew by n, and no other changed
-- Example: 1/36 added to 5/36, 1/28: 6/36, 1/28
pub record GrowsAt (d : ℕ) (n : ℤ) (old new : List Slot) : Type 0 where
  pub each : (e : ℕ) → e ≢ 0 → numerator_at e new ≡ numerator_at e old +ℤ numerator_over e d n

-- the sum of the new table has the value of the old sum plus n/d
-- Example: 1/36 added to 5/36, 1/28: 6/36 + 1/28
pub record SumGrows (d : ℕ) (n : ℤ) (old new : List Slot) : Type 0 where
  pub same : SameSum (pair_sum (sum_of_slots old) (n, d)) (sum_of_slots new)
