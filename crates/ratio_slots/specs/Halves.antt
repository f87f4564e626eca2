-- A numerator of 128 bits as its two halves, which is how a slot keeps it.
use Rattle.std.specs.Prelude.{◌≡◌, ◌^◌, ◌+◌, ◌*◌, ◌-◌, ◌/◌, ◌%◌, ◌<◌, ◌+ℤ◌, ◌*ℤ◌, ℕ, ℤ, pos, negsuc}
use Rattle.std.proofs.Common.{arith, refl, ap, ◌∙◌}
use Rattle.std.proofs.lemmas.Int.{ints}
use Rattle.std.proofs.lemmas.Nat.{div-mul-add, mod-mul-add}
use Rattle.ratio_slots.specs.Entry.{Entry}
use Rattle.ratio_slots.specs.declared.slots.Slot.TheInside.{Inside}

-- the number with this lower and this upper half: the upper one times 2^64, and the lower one
-- Example: 2^64 - 5 and -1: -5
abbrev pub number_of_halves : ℕ → ℤ → ℤ
number_of_halves low high = high *ℤ pos (2 ^ 64) +ℤ pos low

-- the upper half of a number, which has its sign
-- Example: -5: -1
abbrev pub upper_half : ℤ → ℤ
upper_half (pos n) = pos (n / 2 ^ 64)
upper_half (negsuc n) = negsuc (n / 2 ^ 64)

-- the lower half of a number
-- Example: -5: 2^64 - 5
abbrev pub lower_half : ℤ → ℕ
lower_half (pos n) = n % 2 ^ 64
lower_half (negsuc n) = 2 ^ 64 - 1 - n % 2 ^ 64

-- what the fields of a slot hold
abbrev pub entry_of : Inside → Entry
entry_of fields = record { denom = fields.denom; numer = number_of_halves fields.low fields.high }

-- the fields that hold it
abbrev pub fields_of : Entry → Inside
fields_of entry = record { denom = entry.denom; low = lower_half entry.numer; high = upper_half entry.numer }

-- the lower half has 64 bits
abbrev pub HasHalves : Inside → Type 0
HasHalves fields = fields.low < 2 ^ 64

-- ---- the halves of a number with these halves are these

number_of_pos : (low high : ℕ) → number_of_halves low (pos high) ≡ pos (high * 2 ^ 64 + low)
number_of_pos low high = omega (arith, ints)

number_of_negsuc : (low high : ℕ) → low < 2 ^ 64 → number_of_halves low (negsuc high) ≡ negsuc (high * 2 ^ 64 + (2 ^ 64 - 1 - low))
number_of_negsuc low high small = omega (arith, ints)

upper_half_is : (low : ℕ) (high : ℤ) → low < 2 ^ 64 → upper_half (number_of_halves low high) ≡ high
upper_half_is low (pos high) small = ap upper_half (number_of_pos low high) ∙ ap pos (div-mul-add high (2 ^ 64) low small)
upper_half_is low (negsuc high) small =
    ap upper_half (number_of_negsuc low high small) ∙ ap negsuc (div-mul-add high (2 ^ 64) (2 ^ 64 - 1 - low) (omega (arith, small)))

lower_half_is : (low : ℕ) (high : ℤ) → low < 2 ^ 64 → lower_half (number_of_halves low high) ≡ low
lower_half_is low (pos high) small = ap lower_half (number_of_pos low high) ∙ mod-mul-add high (2 ^ 64) low small
lower_half_is low (negsuc high) small =
    let rest = mod-mul-add high (2 ^ 64) (2 ^ 64 - 1 - low) (omega (arith, small)) in
    ap lower_half (number_of_negsuc low high small) ∙ omega (arith, rest, small)

-- the fields come back from what they hold
pub fields_back : (fields : Inside) → HasHalves fields → fields_of (entry_of fields) ≡ fields
fields_back fields small = rw (upper_half_is fields.low fields.high small, lower_half_is fields.low fields.high small) refl
