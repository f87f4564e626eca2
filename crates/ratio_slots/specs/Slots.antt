-- Tables of slots, and where a denominator is in a table. A slot is empty if its denominator is 0.
use Rattle.std.specs.Prelude.{◌≡◌, ◌≢◌, ◌+◌, ◌*◌, ◌/◌, ◌%◌, ◌^◌, ◌<◌, ◌≤◌, ◌⊎◌, ℕ, pos, List, length, slice_index_or}
use Rattle.ratio_slots.specs.declared.slots.Slot.{Slot}

-- a slot without a fraction
abbrev pub empty_slot : Slot
empty_slot = record { denom = 0; numer = pos 0 }

-- the slot at index k; past the end it is empty
abbrev pub slot_at : List Slot → ℕ → Slot
slot_at slots k = slice_index_or slots k empty_slot

-- if the slot is not empty, it holds the denominator d
abbrev pub IsOpenTo : ℕ → Slot → Type 0
IsOpenTo d slot = slot.denom ≢ 0 → slot.denom ≡ d

-- what denominators are stretched by in a table of this length, in parts of 2^32: above 1 and below 5/4, and unlike for most lengths
-- Example: 5360504449 for 8 slots, which is 1.248 of 2^32
unfoldable pub factor_of : ℕ → ℕ
factor_of length = 2 ^ 32 + 1 + length * length * 0x08fe_0b3a % 2 ^ 30

-- the index where the search for d begins, in a table of this length: d is stretched modulo 2^64 and rounded down, and the index is where
-- that number·SPREAD, modulo 2^64, is among the numbers below 2^64
-- Example: 12 in a table of 8 slots: it is stretched to 14, and SPREAD is 0.618 of 2^64. 14·0.618 is 8.652, and 0.652·8 is 5.2: the index is 5
unfoldable pub home_of : ℕ → ℕ → ℕ
home_of d length = (d * factor_of length % 2 ^ 64 / 2 ^ 32 * 0x9e37_79b9_7f4a_7c15 % 2 ^ 64) * length / 2 ^ 64

-- k comes before i in a search that begins at start, goes to the end, and then goes on from index 0
-- Example: from 5 on, 6 comes before 7, and 6 and 0 come before 1
pub record ComesBefore (start k i : ℕ) : Type 0 where
  pub order : ((start ≤ k) × (k < i)) ⊎ (((i < start) × (start ≤ k)) ⊎ ((i < start) × (k < i)))

-- the search for d ends at index i: this slot is open to d, and none before it is
-- Example: in the table 36, 28, empty, empty, if the search for 12 begins at 1: index 2
pub record IsPlaceOf (slots : List Slot) (d i : ℕ) : Type 0 where
  pub within : i < length slots
  pub here : IsOpenTo d (slot_at slots i)
  pub first : (k : ℕ) → k < length slots → ComesBefore (home_of d (length slots)) k i → ¬ (IsOpenTo d (slot_at slots k))

-- each slot is taken by another denominator than d
-- Example: 12 in the table 36, 28
pub record HasNoPlaceFor (slots : List Slot) (d : ℕ) : Type 0 where
  pub all_taken : (k : ℕ) → k < length slots → ¬ (IsOpenTo d (slot_at slots k))

-- the search for each denominator ends at the slot that holds it, and an empty slot has the numerator 0
pub record IsTable (slots : List Slot) : Type 0 where
  pub place : (k : ℕ) → k < length slots → (slot_at slots k).denom ≢ 0 → IsPlaceOf slots (slot_at slots k).denom k
  pub empty : (k : ℕ) → k < length slots → (slot_at slots k).denom ≡ 0 → (slot_at slots k).numer ≡ pos 0
