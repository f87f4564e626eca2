-- The sum of a total, rounded to a whole number or to a multiple of 1/parts.
use Rattle.std.specs.Prelude.{ℕ, ℤ, pos, Option}
use Rattle.ratio_decimal.specs.RoundingRules.{ChecksRounded, IsRoundedBy}
use Rattle.ratio_decimal.specs.declared.rounding_rule.Rounding.{Rounding}
use Rattle.ratio_integer.specs.Range.{Checks}
use Rattle.num_rational.specs.{Ratio.denominator, Ratio.numerator, Reduced.ratio_in}
use Rattle.num_rational.specs.declared.reduced.Reduced.{Reduced}

-- the result is the whole number that the rule gives of the pair x, where it is in range; elsewhere it is `None`
-- Example: -5/2 by `HalfEven`: `Some(-2)`
pub record ChecksRoundedInteger {T : Type 0} (value : T → ℤ) (lo hi : ℤ) (rule : Rounding) (x : ℤ × ℕ) (result : Option T) : Type 0 where
  pub number : ℤ
  pub rounded : IsRoundedBy rule x.0 (pos x.1) number
  pub checks : Checks value lo hi number result

-- the result is z/parts in lowest terms, where z is the pair x times parts, rounded by the rule, if these fit the type; elsewhere it is `None`
-- Example: 16/252 in hundredths by `HalfEven`: 6/100, so `Some(3/50)`
abbrev pub ChecksReducedMultiple : {T : _} {i : _} {o : _} {e : _} {p : _} {h : _} → Rounding → ℤ → ℤ × ℕ → Option (Reduced T i o e p h) → Type 0
ChecksReducedMultiple {i = i} rule parts x result = ChecksRounded numerator denominator i.lo i.hi rule parts x.0 (pos x.1) (ratio_in result)
