-- Where a part r/d of 1 lies, and what a rule asks of it.
use Rattle.std.specs.Prelude.{◌≡◌, ◌<ℤ◌, ◌+ℤ◌, ℤ, pos}
use Rattle.ratio_decimal.specs.declared.rounding_rule.Side.{Side}
use Rattle.ratio_decimal.specs.declared.rounding_rule.Side.TheVariants.{Zero, BelowHalf, Half, AboveHalf}

-- Inner: r/d lies on the side
-- Example: 1/3 and `BelowHalf`
abbrev pub IsSide : Side → ℤ → ℤ → Type 0
IsSide Zero r d = r ≡ pos 0
IsSide BelowHalf r d = (pos 0 <ℤ r) × ((r +ℤ r) <ℤ d)
IsSide Half r d = r +ℤ r ≡ d
IsSide AboveHalf r d = d <ℤ (r +ℤ r)

-- Inner: a number of quarters that lies on the side
abbrev pub quarters : Side → ℤ
quarters Zero = pos 0
quarters BelowHalf = pos 1
quarters Half = pos 2
quarters AboveHalf = pos 3
