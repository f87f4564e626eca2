-- The sum of a table, rounded to a whole number.
use Rattle.std.specs.Prelude.{ℕ, ℤ, pos, Option, SomeIff}
use Rattle.ratio_decimal.specs.RoundingRules.{IsRoundedBy}
use Rattle.ratio_decimal.specs.declared.rounding_rule.Rounding.{Rounding}
use Rattle.ratio_slots.specs.Sums.{Has128Bits}

-- the result is the whole number that the rule gives of the fraction x, if that is a number of 128 bits; elsewhere it is `None`
-- Example: -5/2 by `HalfEven`: `Some(-2)`
pub record ChecksInteger (rule : Rounding) (x : ℤ × ℕ) (result : Option ℤ) : Type 0 where
  pub number : ℤ
  pub rounded : IsRoundedBy rule x.0 (pos x.1) number
  pub held : SomeIff result (Has128Bits number) number
