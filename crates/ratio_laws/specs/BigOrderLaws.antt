-- The laws of the order of fractions of any size. A fraction is a pair here.
use Rattle.std.specs.Prelude.{◌≡◌, ℤ}
use Rattle.std.specs.Cmp.{IsTotalOrder}
use Rattle.std.specs.declared.cmp.Ordering.{Ordering}
use Rattle.ratio_core.specs.Order.{cross_cmp}
use Rattle.ratio_big.specs.Fractions.{big_numbers}
use Rattle.ratio_big.specs.declared.fraction.BigFraction.{BigFraction}

-- the order of x and y, as `compare` returns it
-- Example: 1/2 and 2/3: `Less`
abbrev pub pair_order : ℤ × ℤ → ℤ × ℤ → Ordering
pair_order x y = cross_cmp x.0 x.1 y.0 y.1

-- the order is total: that of y and x is the reverse of that of x and y; if x is below y and y below z, x is below z; equal fractions are
-- ordered alike
abbrev pub OrdersTotally : Type 0
OrdersTotally = IsTotalOrder (λ (x y : BigFraction). pair_order (big_numbers x) (big_numbers y))

-- the call with z keeps the order of x and y
-- Example: x + z and y + z have the order of x and y
abbrev pub KeepsOrder : (ℤ × ℤ → ℤ × ℤ → ℤ × ℤ → Type 0) → ℤ × ℤ → ℤ × ℤ → ℤ × ℤ → Type 0
KeepsOrder Call x y z = (left right : ℤ × ℤ) → Call x z left → Call y z right → pair_order left right ≡ pair_order x y

-- the call with z turns the order of x and y
-- Example: -2x and -2y have the order of y and x
abbrev pub TurnsOrder : (ℤ × ℤ → ℤ × ℤ → ℤ × ℤ → Type 0) → ℤ × ℤ → ℤ × ℤ → ℤ × ℤ → Type 0
TurnsOrder Call x y z = (left right : ℤ × ℤ) → Call x z left → Call y z right → pair_order left right ≡ pair_order y x
