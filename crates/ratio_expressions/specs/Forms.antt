-- What a value is written as, in each form.
use Rattle.std.specs.Prelude.{◌≡◌, ◌≢◌, ◌⊎◌, ◌<◌, ◌≤ℤ◌, ◌==◌, ◌||◌, ◌-◌, ◌%◌, ◌^◌, ◌++◌, ◌∷◌, [], ℕ, zero, suc, ℤ, pos, unsigned_abs, Bool, true, false, List, Option, None, Some, codes, length, replicate, take, reverse, take_while, if◌then◌else◌}
use Rattle.std.specs.Float.{binary64}
use Rattle.std.specs.Ordering.{int_eq}
use Rattle.ratio_core.specs.Rounding.{IsFractionalPart, IsTruncation}
use Rattle.ratio_decimal.specs.Decimal.{IsDecimalOf, point}
use Rattle.ratio_decimal.specs.declared.rounding_rule.Rounding.TheVariants.{HalfAway}
use Rattle.ratio_decimal.specs.Floats.{nearest_float}
use Rattle.ratio_big.specs.Texts.{fraction_text}
use Rattle.ratio_big.specs.Values.{absolute_pair}
use Rattle.ratio_expressions.specs.Worths.{Worth, Amount, Truth}
use Rattle.ratio_expressions.specs.Floats.{IsFloatText}
use Rattle.ratio_expressions.specs.declared.replies.form.Form.{Form}
use Rattle.ratio_expressions.specs.declared.replies.form.Form.TheVariants as forms

-- the text of true or of false
abbrev pub truth_text : Bool → List ℕ
truth_text true = codes "true"
truth_text false = codes "false"

-- a whole part and the rest of a fraction, without its sign, and a space between; the fraction alone, if one of them is 0
-- Example: -17/12, of -1 and -5/12: `-1 5/12`; 2/3, of 0 and 2/3: `2/3`
abbrev pub parts_text : ℤ × ℤ → ℤ → ℤ → List ℕ
parts_text x whole rest =
    if int_eq whole (pos 0) || int_eq rest (pos 0) then fraction_text x
    else fraction_text (whole, pos 1) ++ 32 ∷ [] ++ fraction_text (absolute_pair (rest, x.1))

-- the text is a fraction as its whole part, which is cut towards zero, and the rest (`parts_text`)
-- Example: 17/12: `1 5/12`
pub record IsInMixedForm (x : ℤ × ℤ) (text : List ℕ) : Type 0 where
  pub whole : ℤ
  pub rest : ℤ
  pub truncation : IsTruncation x.0 x.1 whole
  pub part : IsFractionalPart x.0 x.1 rest
  pub written : text ≡ parts_text x whole rest

-- a text without the zeros at its end
-- Example: `0.250000`: `0.25`
abbrev pub without_zeros : List ℕ → List ℕ
without_zeros text = take (length text - length (take_while (λ b. b == 48) (reverse text))) text

-- whether six places are all of a fraction over d in lowest terms
-- Example: 4; not 12
abbrev pub ends_in_six : ℤ → Bool
ends_in_six d = 10 ^ 6 % unsigned_abs d == 0

-- what comes behind a fraction whose decimal with six places is this text, exactly or not
-- Example: `0.250000`: ` = 0.25`; `0.583333`: ` ≈ 0.583333`
abbrev pub beside : Bool → List ℕ → List ℕ
beside true six = codes " = " ++ without_zeros six
beside false six = 32 ∷ 226 ∷ 137 ∷ 136 ∷ 32 ∷ [] ++ six

-- the text is a fraction and its decimal, which is exact or not (`beside`)
-- Example: 1/4, exactly: `1/4 = 0.25`
pub record IsWithDecimal (x : ℤ × ℤ) (exact : Bool) (text : List ℕ) : Type 0 where
  pub six : List ℕ
  pub decimal : IsDecimalOf HalfAway 6 x.0 x.1 six
  pub written : text ≡ fraction_text x ++ beside exact six

-- the text is a whole number alone, or a fraction and its decimal
-- Example: 3/1: `3`; 1/4: `1/4 = 0.25`
abbrev pub IsInBothForm : ℤ × ℤ → List ℕ → Type 0
IsInBothForm x text = ((x.1 ≡ pos 1) × (text ≡ fraction_text x)) ⊎ ((x.1 ≢ pos 1) × IsWithDecimal x (ends_in_six x.1) text)

-- Inner: the result is d, if it is below 2^64, and else `None`
abbrev pub ChecksShortDenominator : ℤ → Option ℕ → Type 0
ChecksShortDenominator d None = pos (2 ^ 64) ≤ℤ d
ChecksShortDenominator d (Some n) = (0 < n) × (d ≡ pos n)

-- Inner: the text of a whole number with so many places, which are zeros
-- Example: `5` with two: `5.00`
abbrev pub with_zeros : ℕ → List ℕ → List ℕ
with_zeros zero text = text
with_zeros (suc k) text = text ++ point ∷ replicate (suc k) 48

-- the text is a fraction, its decimal with so many places and its mixed number, with tabs between
-- Example: 17/12 with two places: `17/12`, `1.42` and `1 5/12`
pub record IsInFields (x : ℤ × ℤ) (places : ℕ) (text : List ℕ) : Type 0 where
  pub rounded : List ℕ
  pub mixed : List ℕ
  pub decimal : IsDecimalOf HalfAway places x.0 x.1 rounded
  pub whole_part : IsInMixedForm x mixed
  pub written : text ≡ fraction_text x ++ 9 ∷ [] ++ rounded ++ 9 ∷ [] ++ mixed

-- the text is a number in a form
-- Example: 17/12 in `Decimal 4`: `1.4167`
abbrev pub IsNumberInForm : ℤ × ℤ → Form → List ℕ → Type 0
IsNumberInForm x forms.Fraction text = text ≡ fraction_text x
IsNumberInForm x (forms.Decimal places) text = IsDecimalOf HalfAway places x.0 x.1 text
IsNumberInForm x forms.Mixed text = IsInMixedForm x text
IsNumberInForm x (forms.Fields places) text = IsInFields x places text
IsNumberInForm x forms.Both text = IsInBothForm x text
IsNumberInForm x forms.Float text = IsFloatText (nearest_float binary64 x.0 x.1) text

-- the text is a value in a form
-- Example: true, in each form: `true`
abbrev pub IsValueInForm : Worth → Form → List ℕ → Type 0
IsValueInForm (Amount x) form text = IsNumberInForm x form text
IsValueInForm (Truth b) form text = text ≡ truth_text b
