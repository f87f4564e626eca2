-- Steps on slots that may hold anything.
use Rattle.std.specs.Prelude.{◌≡◌, ◌≢◌, ◌+ℤ◌, ℕ, ℤ, pos, List}
use Rattle.ratio_slots.specs.Slots.{HasNoPlaceFor, IsPlaceOf, slot_at}
use Rattle.ratio_slots.specs.Sums.{Has128Bits}
use Rattle.ratio_slots.specs.declared.changes.LooseRefusal.{LooseRefusal, TheVariants.MoreRoom, TheVariants.NotEmpty, TheVariants.TooGreat}
use Rattle.ratio_slots.specs.declared.slots.Slot.{Slot}

-- an empty slot has the numerator 0
abbrev pub IsClean : Slot → Type 0
IsClean slot = slot.denom ≡ 0 → slot.numer ≡ pos 0

-- the slot where the search for d ends takes n/d: it is clean, and its numerator with n is a number of 128 bits
pub record TakesLoose (slots : List Slot) (d : ℕ) (n : ℤ) : Type 0 where
  pub index : ℕ
  pub place : IsPlaceOf slots d index
  pub clean : IsClean (slot_at slots index)
  pub held : Has128Bits ((slot_at slots index).numer +ℤ n)

-- the search for d ends at an empty slot with a numerator that is not 0
pub record HasDirtyPlace (slots : List Slot) (d : ℕ) : Type 0 where
  pub index : ℕ
  pub place : IsPlaceOf slots d index
  pub empty : (slot_at slots index).denom ≡ 0
  pub dirty : (slot_at slots index).numer ≢ pos 0

-- the search for d ends at a clean slot, and its numerator with n is no number of 128 bits
pub record HasFullPlace (slots : List Slot) (d : ℕ) (n : ℤ) : Type 0 where
  pub index : ℕ
  pub place : IsPlaceOf slots d index
  pub clean : IsClean (slot_at slots index)
  pub great : ¬ (Has128Bits ((slot_at slots index).numer +ℤ n))

-- why n/d did not go in
-- Example: 1/12 into 1/36, 1/28 without an empty slot: `MoreRoom`
abbrev pub IsLooseRefusedFor : List Slot → ℕ → ℤ → LooseRefusal → Type 0
IsLooseRefusedFor slots d n MoreRoom = HasNoPlaceFor slots d
IsLooseRefusedFor slots d n NotEmpty = HasDirtyPlace slots d
IsLooseRefusedFor slots d n TooGreat = HasFullPlace slots d n
