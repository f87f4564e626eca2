-- Parts of 1, division by a positive number, and the sum of two parts. Two parts below 1 *carry* if they add up to 1 or more.
use Rattle.std.specs.Prelude.{◌≡◌, ◌≤ℤ◌, ◌<ℤ◌, ◌+ℤ◌, ◌*ℤ◌, ℤ, pos, Bool, true, false, Option, Some, None}
use Rattle.ratio_integer.specs.{Fraction.IsLowestTermsOf, Range.IsHeld}

-- Inner: r/d is a part of 1: from 0 to below 1
-- Example: 2/3; not 3/3
pub record IsPart (r d : ℤ) : Type 0 where
  pub above : pos 0 ≤ℤ r
  pub below : r <ℤ d

-- Inner: n is q times d plus r, and r/d is a part of 1
-- Example: 17 is 3 times 5 plus 2
pub record IsDivided (n d q r : ℤ) : Type 0 where
  pub sum : n ≡ q *ℤ d +ℤ r
  pub rest : IsPart r d

-- Inner: 1 if two parts carry, and 0 if not
abbrev pub carried : Bool → ℤ
carried true = pos 1
carried false = pos 0

-- Inner: the factor is `count` times the power plus `left`, which is below the power; `count` times x is q times d plus r, and r/d is a part of 1
pub record IsTaken (x power factor d left q r : ℤ) : Type 0 where
  pub count : ℤ
  pub taken : IsDivided factor power count left
  pub multiple : IsDivided (x *ℤ count) d q r

-- Inner: the lowest terms of x, a sum, are u/v or, with a carry, (v + u)/v; u/v is a part of 1, and v is in range
pub record IsPartsSum (lo hi : ℤ) (x : ℤ × ℤ) (carry : Bool) (u v : ℤ) : Type 0 where
  pub terms : IsLowestTermsOf x.0 x.1 (carried carry *ℤ v +ℤ u) v
  pub part : IsPart u v
  pub denom_held : IsHeld lo hi v

-- Inner: the lowest terms of x have a denominator that is out of range
pub record IsDenominatorOut (lo hi : ℤ) (x : ℤ × ℤ) : Type 0 where
  pub each : (n v : ℤ) → IsLowestTermsOf x.0 x.1 n v → ¬ (IsHeld lo hi v)

-- Inner: the result is the sum of two parts of 1 (`IsPartsSum`), and `None` if its denominator is out of range
abbrev pub ChecksPartsSum : {T : Type 0} → (T → ℤ) → ℤ → ℤ → ℤ × ℤ → Option (Bool × T × T) → Type 0
ChecksPartsSum value lo hi x None = IsDenominatorOut lo hi x
ChecksPartsSum value lo hi x (Some s) = IsPartsSum lo hi x s.0 (value s.1) (value s.2)
