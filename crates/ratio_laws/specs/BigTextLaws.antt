-- The law of the texts of fractions of any size. A fraction is a pair here.
use Rattle.std.specs.Prelude.{◌≡◌, ℕ, ℤ, List, Result, IsOkAnd}
use Rattle.ratio_core.specs.declared.parse_error.RatioErrorKind.{RatioErrorKind}
use Rattle.ratio_big.specs.Fractions.{big_numbers}
use Rattle.ratio_big.specs.Texts.{AnswersBigText}
use Rattle.ratio_big.specs.declared.fraction.BigFraction.{BigFraction}

-- reading the text returns `Ok` of x
-- Example: `6/-4`, for -3/2
abbrev pub ReadsOnlyAs : List ℕ → ℤ × ℤ → Type 0
ReadsOnlyAs text x = (result : Result BigFraction RatioErrorKind) → AnswersBigText text result → IsOkAnd result (λ r. big_numbers r ≡ x)
