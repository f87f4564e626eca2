-- The conditions of sums, differences, products and quotients, and what the calls return.
use Rattle.std.specs.Prelude.{◌≢◌, ℤ, pos, Bool, true, false, Option, Some, None}
use Rattle.ratio_integer.specs.Arithmetic.{DifferenceHeld, IsHeldScaled, RemainderHeld, ScaledHeld, SumHeld, difference_of, product_of, quotient_of, remainder_of, sum_of}
use Rattle.ratio_integer.specs.Fraction.{Fits, IsHeldLowest}

-- a/b is the lowest terms of the pair x, and both numbers are in range: `IsHeldLowest`, with n and d given as one pair
abbrev pub IsHeldLowestOf : ℤ → ℤ → ℤ × ℤ → ℤ → ℤ → Type 0
IsHeldLowestOf lo hi x a b = IsHeldLowest lo hi x.0 x.1 a b

-- Inner: the result is the numerators of a/b and c/d over their least common denominator, and then this denominator (p, q and l of
-- `IsScaled`), where all three are in range; elsewhere it is `None`
abbrev pub ChecksScaled : {T : Type 0} → (T → ℤ) → ℤ → ℤ → ℤ → ℤ → ℤ → ℤ → Option (T × T × T) → Type 0
ChecksScaled value lo hi a b c d None = ¬ (ScaledHeld lo hi a b c d)
ChecksScaled value lo hi a b c d (Some s) = IsHeldScaled lo hi a b c d (value s.2) (value s.0) (value s.1)

-- where a/b + c/d is `Some`. Over a type of *exact sums*, such as `i32` and `i64`: its lowest terms fit. Over another: `SumHeld`
-- Example: 1/30 + 1/70 is 1/21: not over `i8`, but over `i32`, whose sums are exact
abbrev pub SumCondition : Bool → ℤ → ℤ → ℤ → ℤ → ℤ → ℤ → Type 0
SumCondition true lo hi a b c d = Fits lo hi (sum_of a b c d).0 (sum_of a b c d).1
SumCondition false lo hi a b c d = SumHeld lo hi a b c d

-- where a/b - c/d is `Some`. Over a type of *exact sums*, such as `i32` and `i64`: its lowest terms fit. Over another: `DifferenceHeld`
abbrev pub DifferenceCondition : Bool → ℤ → ℤ → ℤ → ℤ → ℤ → ℤ → Type 0
DifferenceCondition true lo hi a b c d = Fits lo hi (difference_of a b c d).0 (difference_of a b c d).1
DifferenceCondition false lo hi a b c d = DifferenceHeld lo hi a b c d

-- where a/b * c/d is `Some`: its lowest terms fit
-- Example: 100/3 times 3/100 is 1/1
abbrev pub ProductCondition : ℤ → ℤ → ℤ → ℤ → ℤ → ℤ → Type 0
ProductCondition lo hi a b c d = Fits lo hi (product_of a b c d).0 (product_of a b c d).1

-- where a/b divided by c/d is `Some`: its lowest terms fit, so c is not 0
-- Example: not 1/2 by 0/1
abbrev pub QuotientCondition : ℤ → ℤ → ℤ → ℤ → ℤ → ℤ → Type 0
QuotientCondition lo hi a b c d = Fits lo hi (quotient_of a b c d).0 (quotient_of a b c d).1

-- where the remainder of a/b by c/d is `Some` for `Reduced`. Over a type of *exact remainders*, such as each primitive type of at most 64
-- bits: c is not 0, and its lowest terms fit. Over another: `RemainderHeld`
-- Example: 127/1 by 1/127 leaves 0/1: over `i8`, though 127·127 does not fit
abbrev pub RemainderCondition : Bool → ℤ → ℤ → ℤ → ℤ → ℤ → ℤ → Type 0
RemainderCondition true lo hi a b c d = (c ≢ pos 0) × Fits lo hi (remainder_of a b c d).0 (remainder_of a b c d).1
RemainderCondition false lo hi a b c d = RemainderHeld lo hi a b c d
