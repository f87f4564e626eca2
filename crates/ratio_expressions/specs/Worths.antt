-- What a value is worth, as whole numbers.
use Rattle.std.specs.Prelude.{ℤ, Bool}
use Rattle.ratio_big.specs.Fractions.{big_numbers}
use Rattle.ratio_big.specs.Values.{IsShort}
use Rattle.ratio_expressions.specs.declared.value.Value.{Value}
use Rattle.ratio_expressions.specs.declared.value.Value.TheVariants as values

-- a number, by its numerator and its denominator in lowest terms, or true or false
-- Example: 2/4: 1 and 2
pub data Worth : Type 0 where
  Amount : ℤ × ℤ → Worth
  Truth : Bool → Worth

-- what a value is worth
abbrev pub worth : Value → Worth
worth (values.Number x) = Amount (big_numbers x)
worth (values.Truth b) = Truth b

-- a number whose two parts lie from -2^63 to 2^63-1, or true or false
-- Example: 1/2; not 1/2^63
abbrev pub IsShortWorth : Worth → Type 0
IsShortWorth (Amount x) = IsShort x
IsShortWorth (Truth b) = Unit {0}
