-- What a person types into one field, and what reading it returns: `-0.5`, `3/4`, `-1 1/2`, `12.5%` and `1/2%`. The `numbers` of a fraction
-- or a mixed number are its whole numbers, without signs.
use Rattle.std.specs.Prelude.{◌≡◌, ◌≢◌, ◌⊎◌, ◌<◌, ◌+◌, ◌*◌, ◌^◌, ◌*ℤ◌, ℕ, ℤ, pos, Bool, true, false, List, [], ◌∷◌, ◌++◌, codes, Result, Ok, Err}
use Rattle.std.specs.Str.Parse.{IsNumeral}
use Rattle.ratio_integer.specs.Fraction.{Fits, IsHeldLowest}
use Rattle.ratio_decimal.specs.DecimalReading.{IsDecimalText, IsWrittenSign}
use Rattle.ratio_core.specs.{Signs.with_sign, Reading.digits_sum, Reading.slash}
use Rattle.ratio_decimal.specs.declared.typed.TextRefusal.{TextRefusal, TheVariants.NotNumber, TheVariants.ZeroDenominator, TheVariants.NotHeld}

-- the byte of a space, which is 32
-- Example: ` `
abbrev pub space : ℕ
space = 32

-- the byte of a percent sign, which is 37
-- Example: `%`
abbrev pub percent_sign : ℕ
percent_sign = 37

-- the text is a sign or none, and one digit or more
-- Example: `-12`
pub record IsWholeText (text : List ℕ) (below : Bool) (digits : List ℕ) : Type 0 where
  pub sign : List ℕ
  pub cut : text ≡ sign ++ digits
  pub signed : IsWrittenSign sign below
  pub numeral : IsNumeral 10 digits

-- the text is two whole numbers with a slash between them
-- Example: `3/-4`
pub record HasQuotientParts (text : List ℕ) (below : Bool) (numer : List ℕ) (under : Bool) (denom : List ℕ) : Type 0 where
  pub front : List ℕ
  pub back : List ℕ
  pub cut : text ≡ front ++ slash ∷ back
  pub first : IsWholeText front below numer
  pub second : IsWholeText back under denom

-- the text is a whole number, one space, and two numbers without a sign with a slash between them
-- Example: `-1 1/2`
pub record HasMixedParts (text : List ℕ) (below : Bool) (whole numer denom : List ℕ) : Type 0 where
  pub front : List ℕ
  pub cut : text ≡ front ++ space ∷ (numer ++ slash ∷ denom)
  pub first : IsWholeText front below whole
  pub second : IsNumeral 10 numer
  pub third : IsNumeral 10 denom

-- the text is a fraction, n over d. `numbers` are its two numbers without signs
-- Example: `-3/4`: -3 over 4, and 3 and 4
pub record IsQuotientText (text : List ℕ) (n d : ℤ) (numbers : List ℕ) : Type 0 where
  pub below : Bool
  pub over : List ℕ
  pub under : Bool
  pub base : List ℕ
  pub parts : HasQuotientParts text below over under base
  pub numer : n ≡ with_sign below (digits_sum 10 over)
  pub denom : d ≡ with_sign under (digits_sum 10 base)
  pub written : numbers ≡ digits_sum 10 over ∷ digits_sum 10 base ∷ []

-- the text is a mixed number, n over d, where the sign counts for the whole. `numbers` are its three numbers without signs
-- Example: `-1 1/2`: -3 over 2, and 1, 1 and 2
pub record IsMixedText (text : List ℕ) (n d : ℤ) (numbers : List ℕ) : Type 0 where
  pub below : Bool
  pub whole : List ℕ
  pub over : List ℕ
  pub base : List ℕ
  pub parts : HasMixedParts text below whole over base
  pub numer : n ≡ with_sign below (digits_sum 10 whole * digits_sum 10 base + digits_sum 10 over)
  pub denom : d ≡ pos (digits_sum 10 base)
  pub written : numbers ≡ digits_sum 10 whole ∷ digits_sum 10 over ∷ digits_sum 10 base ∷ []

-- the text is a decimal or a fraction, n over d. A decimal has no `numbers`
abbrev pub IsPlainText : List ℕ → ℤ → ℤ → List ℕ → Type 0
IsPlainText text n d numbers = (IsDecimalText text n d × (numbers ≡ [])) ⊎ IsQuotientText text n d numbers

-- what a number is divided by: 100 if it is a percentage, else 1
-- Example: `%`: 100
abbrev pub share : Bool → ℕ
share false = 1
share true = 100

-- the text is a decimal or a fraction, and n over d is its value, or its 100th part if `percent` (its value over the `share`)
-- Example: `12.5` as a percentage: 125/1000
pub record IsShareText (percent : Bool) (text : List ℕ) (n d : ℤ) (numbers : List ℕ) : Type 0 where
  pub base : ℤ
  pub plain : IsPlainText text n base numbers
  pub denom : d ≡ pos (share percent) *ℤ base

-- the text is a decimal or a fraction with a percent sign behind it, and n over d is its 100th part
-- Example: `12.5%`: 125/1000
pub record IsPercentText (text : List ℕ) (n d : ℤ) (numbers : List ℕ) : Type 0 where
  pub front : List ℕ
  pub cut : text ≡ front ++ percent_sign ∷ []
  pub value : IsShareText true front n d numbers

-- the text is a fraction, a mixed number or a decimal, or a percentage (`IsPercentText`); n over d is what it says
-- Example: `12.5%`: 125/1000
abbrev pub IsTypedText : List ℕ → ℤ → ℤ → List ℕ → Type 0
IsTypedText text n d numbers = IsShareText false text n d numbers ⊎ (IsMixedText text n d numbers ⊎ IsPercentText text n d numbers)

-- each of the numbers is below 2^128
abbrev pub AreSmall : List ℕ → Type 0
AreSmall [] = Unit {0}
AreSmall (n ∷ ns) = (n < 2 ^ 128) × AreSmall ns

-- some n/d is read, its `numbers` are below 2^128, and a/b is its lowest terms, which are in range
pub record ReadsTyped (lo hi : ℤ) (text : List ℕ) (a b : ℤ) : Type 0 where
  pub n : ℤ
  pub d : ℤ
  pub numbers : List ℕ
  pub reads : IsTypedText text n d numbers
  pub small : AreSmall numbers
  pub low : IsHeldLowest lo hi n d a b

-- some n/d is read, and d is not 0. One of its `numbers` is 2^128 or more, or its lowest terms are not in range
pub record TypedNotHeld (lo hi : ℤ) (text : List ℕ) : Type 0 where
  pub n : ℤ
  pub d : ℤ
  pub numbers : List ℕ
  pub reads : IsTypedText text n d numbers
  pub some : d ≢ pos 0
  pub out : ¬ (AreSmall numbers × Fits lo hi n d)

-- the result is the lowest terms of what the text says, or the first refusal that applies: the text says nothing; or it says n over 0; or
-- what it says is not in range (`TypedNotHeld`)
-- Example: `x/0`: `NotNumber`
abbrev pub AnswersTyped : {R : Type 0} → (R → ℤ) → (R → ℤ) → ℤ → ℤ → List ℕ → Result R TextRefusal → Type 0
AnswersTyped numer denom lo hi text (Ok r) = ReadsTyped lo hi text (numer r) (denom r)
AnswersTyped numer denom lo hi text (Err NotNumber) = (n d : ℤ) (numbers : List ℕ) → ¬ (IsTypedText text n d numbers)
AnswersTyped numer denom lo hi text (Err ZeroDenominator) = (n : ℤ) × (numbers : List ℕ) × IsTypedText text n (pos 0) numbers
AnswersTyped numer denom lo hi text (Err NotHeld) = TypedNotHeld lo hi text

-- the text that a refusal prints
-- Example: `ZeroDenominator`: `the denominator is 0`
abbrev pub text_refusal_text : TextRefusal → List ℕ
text_refusal_text NotNumber = codes "the text is not a number such as -0.5, 3/4, -1 1/2 or 12.5%"
text_refusal_text ZeroDenominator = codes "the denominator is 0"
text_refusal_text NotHeld = codes "the lowest terms do not fit the type, or a whole number of the fraction is 2^128 or more"
