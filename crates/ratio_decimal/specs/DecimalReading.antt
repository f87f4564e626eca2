-- What a decimal text says, and what reading one returns. `-1.50e3` says -150 * 10^3 over 10^2.
use Rattle.std.specs.Prelude.{◌≡◌, ◌⊎◌, ◌<◌, ◌*◌, ◌/◌, ◌^◌, ℕ, ℤ, pos, unsigned_abs, Bool, true, false, List, [], ◌∷◌, ◌++◌, codes, length, Result, Ok, Err}
use Rattle.std.specs.Str.Parse.{IsNumeral}
use Rattle.ratio_integer.specs.Fraction.{Fits}
use Rattle.ratio_decimal.specs.Decimal.{places_text, point}
use Rattle.ratio_core.specs.Signs.{with_sign}
use Rattle.ratio_core.specs.Reading.{ReadsLowest, digits_sum, minus, plus}
use Rattle.ratio_decimal.specs.declared.reading.DecimalRefusal.{DecimalRefusal, TheVariants.NotDecimal, TheVariants.NotHeld}

-- a sign is a minus, or else a plus or nothing; `below` says whether it is a minus
-- Example: none, in `.5`
abbrev pub IsWrittenSign : List ℕ → Bool → Type 0
IsWrittenSign sign true = sign ≡ minus ∷ []
IsWrittenSign sign false = (sign ≡ []) ⊎ (sign ≡ plus ∷ [])

-- the text is digits with at most one point, and one digit at least. Some digits come before the point, and `part` comes behind it
-- Example: `12.5`, `.5`, `5.` and `5`
pub record IsPointed (text whole part : List ℕ) : Type 0 where
  pub cut : (text ≡ whole ++ point ∷ part) ⊎ ((text ≡ whole) × (part ≡ []))
  pub digits : IsNumeral 10 (whole ++ part)

-- the byte of an e in either case: `e` or `E`
abbrev pub IsLetterE : ℕ → Type 0
IsLetterE c = (c ≡ 101) ⊎ (c ≡ 69)

-- the text is an e, a sign or none, and one digit or more
-- Example: `E-3`: below 0, `3`
pub record IsWrittenExponent (text : List ℕ) (below : Bool) (digits : List ℕ) : Type 0 where
  pub letter : ℕ
  pub sign : List ℕ
  pub cut : text ≡ letter ∷ (sign ++ digits)
  pub is_e : IsLetterE letter
  pub signed : IsWrittenSign sign below
  pub numeral : IsNumeral 10 digits

-- the text is an `IsWrittenExponent`, or no text at all, which has no digits
-- Example: `E-3`: below 0, `3`
abbrev pub IsExponent : List ℕ → Bool → List ℕ → Type 0
IsExponent text below digits = IsWrittenExponent text below digits ⊎ ((text ≡ []) × (below ≡ false) × (digits ≡ []))

-- the text is a sign, digits with at most one point, and an exponent or nothing
-- Example: `-12.5e3`: below 0, `12`, `5`, not below 0, `3`
pub record HasDecimalParts (text : List ℕ) (below : Bool) (whole part : List ℕ) (down : Bool) (exponent : List ℕ) : Type 0 where
  pub sign : List ℕ
  pub pointed : List ℕ
  pub scale : List ℕ
  pub cut : text ≡ sign ++ (pointed ++ scale)
  pub signed : IsWrittenSign sign below
  pub number : IsPointed pointed whole part
  pub scaled : IsExponent scale down exponent

-- 10 to the exponent e or -e, as a numerator
-- Example: 3: 1000; -3: 1
abbrev pub tens_above : Bool → ℕ → ℕ
tens_above false e = 10 ^ e
tens_above true e = 1

-- 10 to the exponent e or -e, as a denominator
-- Example: 3: 1; -3: 1000
abbrev pub tens_below : Bool → ℕ → ℕ
tens_below false e = 1
tens_below true e = 10 ^ e

-- the text is a decimal of n/d: all digits as one number, over 10 to the count of those behind the point, times 10 to the exponent
-- Example: `-1.50e3`: -150000/100
pub record IsDecimalText (text : List ℕ) (n d : ℤ) : Type 0 where
  pub below : Bool
  pub whole : List ℕ
  pub part : List ℕ
  pub down : Bool
  pub exponent : List ℕ
  pub parts : HasDecimalParts text below whole part down exponent
  pub numer : n ≡ with_sign below (digits_sum 10 (whole ++ part) * tens_above down (digits_sum 10 exponent))
  pub denom : d ≡ pos (10 ^ length part * tens_below down (digits_sum 10 exponent))

-- some n/d is read, and its lowest terms are not in range
-- Example: `128`
pub record ReadsNotHeld (lo hi : ℤ) (Reads : ℤ → ℤ → Type 0) : Type 0 where
  pub n : ℤ
  pub d : ℤ
  pub reads : Reads n d
  pub out : ¬ (Fits lo hi n d)

-- the result is the lowest terms of what the text says. Or the text is no decimal. Or it is one, and its lowest terms are not in range
-- Example: `128`: `NotHeld`
abbrev pub AnswersDecimal : {R : Type 0} → (R → ℤ) → (R → ℤ) → ℤ → ℤ → List ℕ → Result R DecimalRefusal → Type 0
AnswersDecimal numer denom lo hi text (Ok r) = ReadsLowest lo hi (IsDecimalText text) (numer r) (denom r)
AnswersDecimal numer denom lo hi text (Err NotDecimal) = (n d : ℤ) → ¬ (IsDecimalText text n d)
AnswersDecimal numer denom lo hi text (Err NotHeld) = ReadsNotHeld lo hi (IsDecimalText text)

-- the text that a refusal prints
-- Example: `NotHeld`: `the lowest terms of the decimal do not fit the type`
abbrev pub decimal_refusal_text : DecimalRefusal → List ℕ
decimal_refusal_text NotDecimal = codes "the text is not a decimal such as -12.5 or 1.5e-3"
decimal_refusal_text NotHeld = codes "the lowest terms of the decimal do not fit the type"

-- Law: each text has at most one reading as a decimal
-- Example: `0.67`: 67/100
abbrev pub DecimalsHaveOneReading : Type 0
DecimalsHaveOneReading = (text : List ℕ) (n d m e : ℤ) → IsDecimalText text n d → IsDecimalText text m e → (n ≡ m) × (d ≡ e)

-- Law: a printed decimal whose whole part is below 2^128 reads as the multiple of 1/10^places that it shows
-- Example: `0.67`: 67/100
abbrev pub PrintedDecimalsRead : Type 0
PrintedDecimalsRead = (places : ℕ) (z : ℤ) → unsigned_abs z / 10 ^ places < 2 ^ 128 → IsDecimalText (places_text places z) z (pos (10 ^ places))

-- the result of reading has the two numbers n and d
abbrev pub IsReadDecimal : {R : Type 0} → (R → ℤ) → (R → ℤ) → ℤ → ℤ → Result R DecimalRefusal → Type 0
IsReadDecimal numer denom n d (Ok r) = (numer r ≡ n) × (denom r ≡ d)
IsReadDecimal numer denom n d (Err refusal) = ⊥
