-- What a call answers for fractions, which are pairs of whole numbers here, and what a call over slices does.
use Rattle.std.specs.Prelude.{◌≡◌, ◌≢◌, ◌==◌, ◌<ℤ◌, ◌≤ℤ◌, ◌<◌, ◌≤◌, ◌^◌, ℕ, ℤ, pos, neg_ℤ, unsigned_abs, Bool, List, length, Option, MatchBool, Result, Ok, Err, fold, slice_get, slice_range}
use Rattle.std.specs.List.{AllZip}
use Rattle.std.specs.Float.{Float, binary64, float_zero}
use Rattle.std.specs.Str.{IsUtf8}
use Rattle.ratio_core.specs.Reading.{AnswersText, IsFractionText}
use Rattle.ratio_core.specs.declared.parse_error.RatioErrorKind.{RatioErrorKind, TheVariants.ParseError, TheVariants.ZeroDenominator}
use Rattle.ratio_integer.specs.Arithmetic.{difference_of, product_of, quotient_of, remainder_of, sum_of}
use Rattle.ratio_integer.specs.Fraction.{AnswersLowest, ChecksLowest, SameValue}
use Rattle.ratio_integer.specs.SignedBits.{greatest128, least128}
use Rattle.ratio_core.specs.{Conditions.RemainderCondition, ContinuedFraction.IsCodesOf}
use Rattle.ratio_decimal.specs.DecimalReading.{AnswersDecimal}
use Rattle.ratio_decimal.specs.Floats.{fraction_of_float, nearest_float}
use Rattle.ratio_approximation.specs.Nearest.{IsNearest}
use Rattle.ratio_core.specs.{Order.cross_cmp, Power.ChecksBoth, Power.ChecksPower}
use Rattle.ratio_decimal.specs.Rationalize.{ChecksRationalized}
use Rattle.ratio_decimal.specs.RoundingRules.{ChecksRounded}
use Rattle.ratio_approximation.specs.SimplestWithin.{ChecksSimplestWithin}
use Rattle.ratio_decimal.specs.TypedText.{AnswersTyped}
use Rattle.ratio_decimal.specs.declared.typed.TextRefusal.{TextRefusal}
use Rattle.ratio_decimal.specs.declared.reading.DecimalRefusal.{DecimalRefusal}
use Rattle.num_rational.specs.ContinuedFractions.{AreConvergents}
use Rattle.ratio_c.specs.Bounds.{AreFlags, HavePositiveDenominators, flagged_high, flagged_low}
use Rattle.ratio_core.specs.Rounding.{IsCeiling, IsFloor, IsRounded, IsTruncation}
use Rattle.ratio_c.specs.Crossing.{Said, Says, code_of_wide, mixed, order_number, refused, rule_of, said_of_decimal, said_of_typed}
use Rattle.ratio_c.specs.Codes.{code_answered, code_bad_option, code_bound_not_positive, code_denominator_not_positive, code_division_by_zero, code_no_text, code_parse_error, code_zero_denominator, return_bad_length, return_done}

-- each answer is right for the item at its place, and the call returns 0. If the lengths are unlike, it returns 1 and writes nothing
abbrev pub AnswersEach : {A B : Type 0} → (A → B → Type 0) → List A → List B → List B → ℕ → Type 0
AnswersEach Gives asked old new result =
    MatchBool (length asked == length old) ((result ≡ return_done) × AllZip Gives asked new) ((result ≡ return_bad_length) × (new ≡ old))

-- `Then` holds if `P` does, and `Else` if it does not
pub record Tested (P Then Else : Type 0) : Type 0 where
  pub yes : P → Then
  pub no : ¬ P → Else

-- both denominators are positive
abbrev pub BothPositive : ℤ × ℤ → ℤ × ℤ → Type 0
BothPositive x y = (pos 0 <ℤ x.1) × (pos 0 <ℤ y.1)

-- if both denominators are positive, `Is` holds. Otherwise the answer has the code 3, `code_denominator_not_positive`
abbrev pub OfPositive : ℤ × ℤ → ℤ × ℤ → Said → Type 0 → Type 0
OfPositive x y answer Is = Tested (BothPositive x y) Is (answer ≡ refused code_denominator_not_positive)

-- `OfPositive`: x + y in lowest terms, or the code 1 where these do not fit
-- Example: 1/2 + 1/3: 5/6
abbrev pub IsSumAnswer : ℤ → ℤ → ℤ × ℤ → ℤ × ℤ → Said → Type 0
IsSumAnswer lo hi x y answer = OfPositive x y answer (Says (ChecksLowest (λ z. z.0) (λ z. z.1) lo hi (sum_of x.0 x.1 y.0 y.1)) answer)

-- `OfPositive`: x - y in lowest terms, or the code 1 where these do not fit
-- Example: 1/2 - 1/3: 1/6
abbrev pub IsDifferenceAnswer : ℤ → ℤ → ℤ × ℤ → ℤ × ℤ → Said → Type 0
IsDifferenceAnswer lo hi x y answer = OfPositive x y answer (Says (ChecksLowest (λ z. z.0) (λ z. z.1) lo hi (difference_of x.0 x.1 y.0 y.1)) answer)

-- `OfPositive`: x * y in lowest terms, or the code 1 where these do not fit
-- Example: 1/2 times 1/3: 1/6
abbrev pub IsProductAnswer : ℤ → ℤ → ℤ × ℤ → ℤ × ℤ → Said → Type 0
IsProductAnswer lo hi x y answer = OfPositive x y answer (Says (ChecksLowest (λ z. z.0) (λ z. z.1) lo hi (product_of x.0 x.1 y.0 y.1)) answer)

-- the answer has the code 2, `code_division_by_zero`, where the divisor is 0. Otherwise it says a result of which `Is` holds
-- Example: 1/2 by 0/1: code 2
abbrev pub OfDivisor : ℤ × ℤ → Said → (Option (ℤ × ℤ) → Type 0) → Type 0
OfDivisor y answer Is = Tested (y.0 ≡ pos 0) (answer ≡ refused code_division_by_zero) (Says Is answer)

-- `OfPositive` and `OfDivisor`: x / y in lowest terms, or the code 1 where these do not fit
-- Example: 1/2 by 1/3: 3/2
abbrev pub IsQuotientAnswer : ℤ → ℤ → ℤ × ℤ → ℤ × ℤ → Said → Type 0
IsQuotientAnswer lo hi x y answer = OfPositive x y answer (OfDivisor y answer (ChecksLowest (λ z. z.0) (λ z. z.1) lo hi (quotient_of x.0 x.1 y.0 y.1)))

-- `OfPositive` and `OfDivisor`: x % y in lowest terms, or the code 1 where these do not fit (if `exact` is false: without `RemainderHeld`)
abbrev pub IsRemainderAnswer : Bool → ℤ → ℤ → ℤ × ℤ → ℤ × ℤ → Said → Type 0
IsRemainderAnswer exact lo hi x y answer =
    OfPositive x y answer
    (OfDivisor y answer (AnswersLowest (λ z. z.0) (λ z. z.1) lo hi (RemainderCondition exact lo hi x.0 x.1 y.0 y.1) (remainder_of x.0 x.1 y.0 y.1)))

-- the order of two fractions, if no denominator is 0; else the code 4, `code_zero_denominator`
-- Example: 1/2, 1/3: 1
abbrev pub IsOrderAnswer : ℤ × ℤ → ℤ × ℤ → ℕ → ℤ → Type 0
IsOrderAnswer x y code order =
    Tested ((x.1 ≢ pos 0) × (y.1 ≢ pos 0)) ((code ≡ code_answered) × (order ≡ order_number (cross_cmp x.0 x.1 y.0 y.1))) ((code ≡ code_zero_denominator) × (order ≡ pos 0))

-- `holds` is 1 if P does, and 0 if it does not
abbrev pub IsTruth : Type 0 → ℕ → Type 0
IsTruth P holds = Tested P (holds ≡ 1) (holds ≡ 0)

-- whether two fractions have the same value, if no denominator is 0; else the code 4, `code_zero_denominator`
-- Example: 1/2 and -2/-4: 1
abbrev pub IsEqualAnswer : ℤ × ℤ → ℤ × ℤ → ℕ → ℕ → Type 0
IsEqualAnswer x y code holds =
    Tested ((x.1 ≢ pos 0) × (y.1 ≢ pos 0)) ((code ≡ code_answered) × IsTruth (SameValue x.0 x.1 y.0 y.1) holds) ((code ≡ code_zero_denominator) × (holds ≡ 0))

-- the lowest terms of a fraction, or the code 1 where these do not fit, or the code 4 where the denominator is 0
-- Example: 2/4: 1/2
abbrev pub IsLowestAnswer : ℤ → ℤ → ℤ × ℤ → Said → Type 0
IsLowestAnswer lo hi x answer = Tested (x.1 ≡ pos 0) (answer ≡ refused code_zero_denominator) (Says (ChecksLowest (λ z. z.0) (λ z. z.1) lo hi x) answer)

-- if the denominator is positive, `Is` holds. Otherwise the answer has the code 3, `code_denominator_not_positive`
abbrev pub OfOne : ℤ × ℤ → Said → Type 0 → Type 0
OfOne x answer Is = Tested (pos 0 <ℤ x.1) Is (answer ≡ refused code_denominator_not_positive)

-- the answer is a whole number over 1, of which `Is` holds
pub record SaysWhole (Is : ℤ → Type 0) (answer : Said) : Type 0 where
  pub number : ℤ
  pub is_number : Is number
  pub is_said : answer ≡ (code_answered, (number, pos 1))

-- `OfOne`: the floor, over 1
-- Example: -7/2: -4/1
abbrev pub IsFloorAnswer : ℤ × ℤ → Said → Type 0
IsFloorAnswer x answer = OfOne x answer (SaysWhole (IsFloor x.0 x.1) answer)

-- `OfOne`: the ceiling, over 1
-- Example: -7/2: -3/1
abbrev pub IsCeilingAnswer : ℤ × ℤ → Said → Type 0
IsCeilingAnswer x answer = OfOne x answer (SaysWhole (IsCeiling x.0 x.1) answer)

-- `OfOne`: the fraction cut towards zero, over 1
-- Example: -7/2: -3/1
abbrev pub IsTruncationAnswer : ℤ × ℤ → Said → Type 0
IsTruncationAnswer x answer = OfOne x answer (SaysWhole (IsTruncation x.0 x.1) answer)

-- `OfOne`: the nearest whole number, a half away from 0, over 1
-- Example: -7/2: -4/1
abbrev pub IsRoundAnswer : ℤ × ℤ → Said → Type 0
IsRoundAnswer x answer = OfOne x answer (SaysWhole (IsRounded x.0 x.1) answer)

-- the answer says both numbers of the pair as they are, if they fit the type from lo to hi; else it is the code 1
-- Example: 2/4: 2/4
abbrev pub SaysPair : ℤ → ℤ → ℤ × ℤ → Said → Type 0
SaysPair lo hi x answer = Says (ChecksBoth (λ z. z.0) (λ z. z.1) lo hi x.0 x.1) answer

-- `OfOne`: the negative over the same denominator, or the code 1 where the numerator does not fit
-- Example: 2/4: -2/4
abbrev pub IsNegationAnswer : ℤ → ℤ → ℤ × ℤ → Said → Type 0
IsNegationAnswer lo hi x answer = OfOne x answer (SaysPair lo hi (neg_ℤ x.0, x.1) answer)

-- `OfOne`: the absolute value over the same denominator, or the code 1 where the numerator does not fit
-- Example: -2/4: 2/4
abbrev pub IsAbsoluteAnswer : ℤ → ℤ → ℤ × ℤ → Said → Type 0
IsAbsoluteAnswer lo hi x answer = OfOne x answer (SaysPair lo hi (pos (unsigned_abs x.0), x.1) answer)

-- `OfOne`: the same two numbers over another type, from lo to hi, or the code 1 where they do not fit
abbrev pub IsCastAnswer : ℤ → ℤ → ℤ × ℤ → Said → Type 0
IsCastAnswer lo hi x answer = OfOne x answer (SaysPair lo hi x answer)

-- the answer is the nearest fraction with a denominator from 1 to `most` (`IsNearest`)
-- Example: 355/113 within 10: 22/7
pub record SaysNearest (x : ℤ × ℤ) (most : ℤ) (answer : Said) : Type 0 where
  pub nearest : ℤ × ℤ
  pub is_nearest : IsNearest x.0 x.1 most nearest.0 nearest.1
  pub is_said : answer ≡ (code_answered, nearest)

-- `OfOne`: the nearest fraction (`SaysNearest`), or the code 7, `code_bound_not_positive`, where the bound is not positive
-- Example: 355/113 within 10: 22/7
abbrev pub IsNearestAnswer : ℤ × ℤ → ℤ → Said → Type 0
IsNearestAnswer x most answer = OfOne x answer (Tested (pos 0 <ℤ most) (SaysNearest x most answer) (answer ≡ refused code_bound_not_positive))

-- the simplest fraction within two bounds, or the code 1 where the type has none there. The flags say which bounds are included, and which
-- are open. The numbers of an open one do not matter. Without `HavePositiveDenominators` the code is 3, and then without `AreFlags` 9
-- Example: 1/3 and 1/2: 2/5; with both included: 1/2
abbrev pub IsBetweenAnswer : ℤ → ℤ → ℤ × ℤ → ℤ × ℤ → ℕ → Said → Type 0
IsBetweenAnswer lo hi x y flags answer =
    let low = flagged_low flags x in
    let high = flagged_high flags y in
    Tested (HavePositiveDenominators low high)
    (Tested (AreFlags flags) (Says (ChecksSimplestWithin (λ z. z) lo hi low high) answer) (answer ≡ refused code_bad_option))
    (answer ≡ refused code_denominator_not_positive)

-- the convergent of x at a place, from 0 on, and `None` if there are not so many
-- Example: 415/93 has 4/1, 9/2, 58/13 and 415/93; at 1: 9/2
pub record ChecksConvergent (x : ℤ × ℤ) (place : ℕ) (result : Option (ℤ × ℤ)) : Type 0 where
  pub convergents : List (ℤ × ℤ)
  pub are : AreConvergents x.0 x.1 convergents
  pub is : result ≡ slice_get convergents place

-- `OfOne`: the convergent at a place (`ChecksConvergent`), or the code 1 if there are not so many
-- Example: 415/93 at 1: 9/2
abbrev pub IsConvergentAnswer : ℤ × ℤ → ℕ → Said → Type 0
IsConvergentAnswer x place answer = OfOne x answer (Says (ChecksConvergent x place) answer)

-- the lowest terms of exactly the value of a float, or the code 1 where these do not fit
-- Example: 0.75: 3/4; the infinity 1.0/0.0 has none
abbrev pub IsFromFloatAnswer : ℤ → ℤ → Float → Said → Type 0
IsFromFloatAnswer lo hi value answer = Says (ChecksLowest (λ z. z.0) (λ z. z.1) lo hi (fraction_of_float value)) answer

-- the simplest fraction that rounds to a float (`ChecksRationalized`), or the code 1 where it does not fit
-- Example: 0.1: 1/10; the infinity 1.0/0.0 has none
abbrev pub IsRationalAnswer : ℤ → ℤ → Float → Said → Type 0
IsRationalAnswer lo hi value answer = Says (ChecksRationalized (λ z. z) lo hi binary64 value) answer

-- the float nearest to a fraction, or the code 3 where the denominator is not positive
-- Example: 1/3: 0.3333333333333333
abbrev pub IsToFloatAnswer : ℤ × ℤ → ℕ → Float → Type 0
IsToFloatAnswer x code value =
    Tested (pos 0 <ℤ x.1) ((code ≡ code_answered) × (value ≡ nearest_float binary64 x.0 x.1)) ((code ≡ code_denominator_not_positive) × (value ≡ float_zero))

-- `OfOne`: the multiple of 1/parts by a rule, in lowest terms, or the code 1 where these do not fit. For parts below 1 or a rule above 5 it is 9
-- Example: 2/3, 100 parts, rule 1: 67/100
abbrev pub IsRoundToAnswer : ℤ → ℤ → ℤ × ℤ → ℤ → ℕ → Said → Type 0
IsRoundToAnswer lo hi x parts rule answer =
    OfOne x answer
    (Tested (pos 0 <ℤ parts)
    (Tested (rule < 6) (Says (ChecksRounded (λ z. z.0) (λ z. z.1) lo hi (rule_of rule) parts x.0 x.1) answer) (answer ≡ refused code_bad_option))
    (answer ≡ refused code_bad_option))

-- the lowest terms of n over 10^scale, or the code 1 where these do not fit. The code 9 is for a scale below 0 or above 38
-- Example: 1250, scale 2: 25/2
abbrev pub IsScaledAnswer : ℤ → ℤ → ℤ → ℤ → Said → Type 0
IsScaledAnswer lo hi n scale answer =
    Tested ((pos 0 ≤ℤ scale) × (scale ≤ℤ pos 38)) (Says (ChecksLowest (λ z. z.0) (λ z. z.1) lo hi (n, pos (10 ^ unsigned_abs scale))) answer) (answer ≡ refused code_bad_option)

-- `OfOne`: the power, not reduced, under `PowerCondition`, and else the code 1. 0 to an exponent below 0 is a division by 0: the code 2
-- Example: 2/4 to the 2: 4/16
abbrev pub IsPowerAnswer : ℤ → ℤ → ℤ × ℤ → ℤ → Said → Type 0
IsPowerAnswer lo hi x exponent answer =
    OfOne x answer
    (Tested ((x.0 ≡ pos 0) × (exponent <ℤ pos 0)) (answer ≡ refused code_division_by_zero)
    (Says (ChecksPower (λ z. z.0) (λ z. z.1) lo hi x.0 x.1 exponent) answer))

-- the hash of a fraction: from 0 on, it takes each code (`IsCodesOf`) by `mixed`. All fractions of one value have the same codes
-- Example: 1/2 and 2/4 have the same
pub record IsHashOf (lo hi : ℤ) (x : ℤ × ℤ) (hash : ℕ) : Type 0 where
  pub codes : List ℤ
  pub are_codes : IsCodesOf lo hi x.0 x.1 codes
  pub is_hash : hash ≡ fold mixed 0 codes

-- Law: over one type, fractions of equal value have one hash
-- Example: 1/2 and -2/-4 over `int32_t`
abbrev pub EqualValuesHaveOneHash : Type 0
EqualValuesHaveOneHash =
    (lo hi : ℤ) (x y : ℤ × ℤ) (h k : ℕ) → x.1 ≢ pos 0 → y.1 ≢ pos 0 → SameValue x.0 x.1 y.0 y.1 → IsHashOf lo hi x h → IsHashOf lo hi y k → h ≡ k

-- the hash of a fraction (`IsHashOf`), or the code 4 where the denominator is 0
abbrev pub IsHashAnswer : ℤ → ℤ → ℤ × ℤ → ℕ → ℕ → Type 0
IsHashAnswer lo hi x code hash = Tested (x.1 ≡ pos 0) ((code ≡ code_zero_denominator) × (hash ≡ 0)) ((code ≡ code_answered) × IsHashOf lo hi x hash)

-- the code says why a text has no fraction over a narrower type: what it reads as over 128 bits (`code_of_wide`)
-- Example: 2^63 over 64 bits: code 1
pub record IsWideRefusal (text : List ℕ) (code : ℕ) : Type 0 where
  pub wide : Result (ℤ × ℤ) RatioErrorKind
  pub is_wide : AnswersText (λ z. z.0) (λ z. z.1) least128 greatest128 (IsFractionText least128 greatest128 text) wide
  pub is_code : code ≡ code_of_wide wide

-- the answer says what a text reads as: a fraction, or the code 4 for a denominator of 0, or the code by `code_of_wide`
-- Example: over 64 bits `x`: code 5; `1/9223372036854775808`: code 1
abbrev pub SaysRead : List ℕ → Result (ℤ × ℤ) RatioErrorKind → Said → Type 0
SaysRead text (Ok x) answer = answer ≡ (code_answered, x)
SaysRead text (Err ParseError) answer = (code : ℕ) × IsWideRefusal text code × (answer ≡ refused code)
SaysRead text (Err ZeroDenominator) answer = answer ≡ refused code_zero_denominator

-- the answer is the fraction of a text in lowest terms, or the code of its refusal
-- Example: `6/4`: 3/2
pub record SaysText (lo hi : ℤ) (text : List ℕ) (answer : Said) : Type 0 where
  pub read : Result (ℤ × ℤ) RatioErrorKind
  pub is_read : AnswersText (λ z. z.0) (λ z. z.1) lo hi (IsFractionText lo hi text) read
  pub is_said : SaysRead text read answer

-- the answer says what a text reads as a decimal: its fraction in lowest terms, or the code of its refusal
-- Example: `12.375`: 99/8; `1.2.3`: code 5; over 32 bits `1e10`: code 1
pub record SaysDecimal (lo hi : ℤ) (text : List ℕ) (answer : Said) : Type 0 where
  pub read : Result (ℤ × ℤ) DecimalRefusal
  pub is_read : AnswersDecimal (λ z. z.0) (λ z. z.1) lo hi text read
  pub is_said : answer ≡ said_of_decimal read

-- the answer says what a typed text reads as: its fraction in lowest terms, or the code of its refusal
-- Example: `-1 1/2`: -3/2; `12.5%`: 1/8; `1/0`: code 4; `1.5/2`: code 5
pub record SaysTyped (lo hi : ℤ) (text : List ℕ) (answer : Said) : Type 0 where
  pub read : Result (ℤ × ℤ) TextRefusal
  pub is_read : AnswersTyped (λ z. z.0) (λ z. z.1) lo hi text read
  pub is_said : answer ≡ said_of_typed read

-- the text from `start` to `end` is read. The code is 6, `code_no_text`, if it is not in `texts`, and 5, `code_parse_error`, if it is not UTF-8
abbrev pub IsReadAnswer : (List ℕ → Said → Type 0) → List ℕ → ℕ → ℕ → Said → Type 0
IsReadAnswer SaysText texts start end answer =
    let text = slice_range texts start end in
    Tested ((start ≤ end) × (end ≤ length texts)) (Tested (IsUtf8 text) (SaysText text answer) (answer ≡ refused code_parse_error)) (answer ≡ refused code_no_text)
