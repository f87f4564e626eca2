-- Keys of 64 bits, whose order never contradicts that of the values.
use Rattle.std.specs.Prelude.{◌≡◌, ◌<ℤ◌, ◌≤ℤ◌, ◌*ℤ◌, ℕ, ℤ, pos, negsuc, neg_ℤ, to_bits, unsigned_abs}
use Rattle.std.specs.Float.{binary64, ◌<ᶠ◌}
use Rattle.ratio_decimal.specs.Floats.{nearest_float}
use Rattle.ratio_c.specs.{Calls.Tested, Codes.code_answered, Codes.code_denominator_not_positive}

-- the bits of the float of 64 bits nearest to n/d
-- Example: 1/1, which is 1.0: 1023·2^52
abbrev pub nearest_bits : ℕ → ℤ → ℕ
nearest_bits n d = to_bits binary64 (nearest_float binary64 (pos n) d)

-- a number with the sign of another
-- Example: 5 and -2: -5
abbrev pub with_sign_of : ℤ → ℕ → ℤ
with_sign_of (pos n) size = pos size
with_sign_of (negsuc n) size = neg_ℤ (pos size)

-- the key of a fraction: the bits of the float nearest to its size, with its sign
-- Example: -1/1: -1023·2^52
abbrev pub key_of : ℤ × ℤ → ℤ
key_of x = with_sign_of x.0 (nearest_bits (unsigned_abs x.0) x.1)

-- the key (`key_of`), or the code 3 where the denominator is not positive
abbrev pub IsKeyAnswer : ℤ × ℤ → ℕ → ℤ → Type 0
IsKeyAnswer x code key = Tested (pos 0 <ℤ x.1) ((code ≡ code_answered) × (key ≡ key_of x)) ((code ≡ code_denominator_not_positive) × (key ≡ pos 0))

-- Law: if one value is at most another, so is its key. So equal values have equal keys
abbrev pub KeysKeepOrder : Type 0
KeysKeepOrder = (x y : ℤ × ℤ) → pos 0 <ℤ x.1 → pos 0 <ℤ y.1 → (x.0 *ℤ y.1) ≤ℤ (y.0 *ℤ x.1) → key_of x ≤ℤ key_of y

-- Law: if the nearest float of one value is below that of another, so is its key. So values whose nearest floats differ have unlike keys
abbrev pub KeysTellFloats : Type 0
KeysTellFloats = (x y : ℤ × ℤ) → pos 0 <ℤ x.1 → pos 0 <ℤ y.1 → nearest_float binary64 x.0 x.1 <ᶠ nearest_float binary64 y.0 y.1 → key_of x <ℤ key_of y
