-- The laws of the whole numbers near a fraction. P is a kind of number, such as the floor. The denominators are positive.
use Rattle.std.specs.Prelude.{◌≡◌, ◌≤ℤ◌, ◌<ℤ◌, ◌+ℤ◌, ℤ, pos}
use Rattle.ratio_integer.specs.Fraction.{SameValue}
use Rattle.ratio_core.specs.Rounding.{IsCeiling, IsFloor}

-- Law: each fraction has exactly one such number: one floor, ceiling, truncation and rounded value
-- Example: 7/2: 3, 4, 3, 4
abbrev pub EachHasOne : (ℤ → ℤ → ℤ → Type 0) → Type 0
EachHasOne P = (n d : ℤ) → pos 0 <ℤ d → (z : ℤ) × P n d z × ((y : ℤ) → P n d y → y ≡ z)

-- Law: fractions of the same value have the same such number
-- Example: 7/2 and 14/4: 3, 4, 3, 4
abbrev pub IsByValue : (ℤ → ℤ → ℤ → Type 0) → Type 0
IsByValue P = (n d m e z : ℤ) → pos 0 <ℤ d → pos 0 <ℤ e → SameValue n d m e → P n d z → P m e z

-- Law: the ceiling is the floor or one more
-- Example: 7/2: 3 and 4
abbrev pub CeilingsAreNextToFloors : Type 0
CeilingsAreNextToFloors = (n d f c : ℤ) → pos 0 <ℤ d → IsFloor n d f → IsCeiling n d c → (f ≤ℤ c) × (c ≤ℤ (f +ℤ pos 1))
