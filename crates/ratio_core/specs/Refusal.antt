-- The texts of the refusals.
use Rattle.std.specs.Prelude.{ℕ, List, codes}
use Rattle.ratio_core.specs.declared.parse_error.RatioErrorKind.{RatioErrorKind}
use Rattle.ratio_core.specs.declared.parse_error.RatioErrorKind.TheVariants.{ParseError, ZeroDenominator}

-- the text that a refusal of each kind prints: `failed to parse integer` and `zero value denominator`
abbrev pub refusal_text : RatioErrorKind → List ℕ
refusal_text ParseError = codes "failed to parse integer"
refusal_text ZeroDenominator = codes "zero value denominator"
