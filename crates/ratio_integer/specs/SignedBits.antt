-- The whole numbers of 32, of 64 and of 128 bits with a sign, as an `i32`, an `i64` and an `i128` hold them.
use Rattle.std.specs.Prelude.{◌-◌, ◌^◌, ℤ, pos, negsuc}
use Rattle.ratio_integer.specs.Fraction.{Fits}
use Rattle.ratio_integer.specs.Range.{IsHeld}

-- the least number of 32 bits: -2^31
abbrev pub least32 : ℤ
least32 = negsuc (2 ^ 31 - 1)

-- the greatest number of 32 bits: 2^31-1
abbrev pub greatest32 : ℤ
greatest32 = pos (2 ^ 31 - 1)

-- the least number of 64 bits: -2^63
abbrev pub least64 : ℤ
least64 = negsuc (2 ^ 63 - 1)

-- the greatest number of 64 bits: 2^63-1
abbrev pub greatest64 : ℤ
greatest64 = pos (2 ^ 63 - 1)

-- the least number of 128 bits: -2^127
abbrev pub least128 : ℤ
least128 = negsuc (2 ^ 127 - 1)

-- the greatest number of 128 bits: 2^127-1
abbrev pub greatest128 : ℤ
greatest128 = pos (2 ^ 127 - 1)

-- z has 64 bits: it lies from -2^63 to 2^63-1
-- Example: not 2^63
abbrev pub IsHeld64 : ℤ → Type 0
IsHeld64 z = IsHeld least64 greatest64 z

-- z has 128 bits: it lies from -2^127 to 2^127-1
abbrev pub IsHeld128 : ℤ → Type 0
IsHeld128 z = IsHeld least128 greatest128 z

-- the lowest terms of the pair have 64 bits
-- Example: 2^64/2; not 1/2^63
abbrev pub Fits64 : ℤ × ℤ → Type 0
Fits64 x = Fits least64 greatest64 x.0 x.1
