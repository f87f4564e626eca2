-- A fraction of any size as a JSON value, and what reading such a value returns.
use Rattle.std.specs.Prelude.{◌≡◌, ◌≢◌, ◌⊎◌, ◌^◌, ℕ, ℤ, pos, negsuc, unsigned_abs, nat_lt, List, Result, Ok, Err, Option, Some, None, option_and_then, if◌then◌else◌}
use Rattle.serde_json.specs.Data.{Data, number, string}
use Rattle.serde_json.specs.Find.{as_integer, as_number, of_integer}
use Rattle.ratio_core.specs.Reading.{IsNumberText}
use Rattle.ratio_decimal.specs.Decimal.{places_text}
use Rattle.num_rational.specs.Json.{list_of_two}
use Rattle.num_rational.specs.declared.json.JsonRatioError.{JsonRatioError}
use Rattle.num_rational.specs.declared.json.JsonRatioError.TheVariants.{NotAPair, NotAnInteger, ZeroDenominator}
use Rattle.ratio_big.specs.Fractions.{big_numbers}
use Rattle.ratio_big.specs.Texts.{ReadsBig}
use Rattle.ratio_big.specs.declared.fraction.BigFraction.{BigFraction}

-- ---- writing

-- the whole number in JSON: a number from -2^53 to 2^53, and else the text of its decimal digits, after a minus if it is below 0
-- Example: 2^53: `9007199254740992`; 2^53 + 1: `"9007199254740993"`
abbrev pub json_whole : ℤ → Data
json_whole z = if nat_lt (2 ^ 53) (unsigned_abs z) then string (places_text 0 z) else number (of_integer z)

-- the JSON list of the two numbers of x
-- Example: -1/2^64: `[-1,"18446744073709551616"]`
abbrev pub ratio_json : ℤ × ℤ → Data
ratio_json x = list_of_two (json_whole x.0) (json_whole x.1)

-- ---- reading

-- the text reads as the whole number z (`IsNumberText` in base 10, with a minus for numbers below 0)
-- Example: `-007`: -7; not `6/2`
abbrev pub ReadsWhole : List ℕ → ℤ → Type 0
ReadsWhole text z = IsNumberText (negsuc 0) 10 text z

-- the JSON value is a text that reads as z
-- Example: `"-007"`: -7
pub record IsJsonText (v : Data) (z : ℤ) : Type 0 where
  pub text : List ℕ
  pub kept : v ≡ string text
  pub reads : ReadsWhole text z

-- the JSON value is the whole number z, or a text that reads as z; a number that is kept as a float is none
-- Example: `3`; `"+3"`; not `3.0`
abbrev pub IsJsonWhole : Data → ℤ → Type 0
IsJsonWhole v z = (option_and_then as_integer (as_number v) ≡ Some z) ⊎ IsJsonText v z

-- the JSON value is the list of two whole numbers n and d
-- Example: `[6,"-4"]`: 6 and -4
pub record IsJsonFraction (v : Data) (n d : ℤ) : Type 0 where
  pub first : Data
  pub second : Data
  pub list : v ≡ list_of_two first second
  pub numer : IsJsonWhole first n
  pub denom : IsJsonWhole second d

-- the JSON value is a list of two values, of which one is no whole number
-- Example: `[3,4.5]`; `[3,"1/2"]`
pub record HasNoJsonWhole (v : Data) : Type 0 where
  pub first : Data
  pub second : Data
  pub list : v ≡ list_of_two first second
  pub other : ((z : ℤ) → ¬ (IsJsonWhole first z)) ⊎ ((z : ℤ) → ¬ (IsJsonWhole second z))

-- some n over d is read, and d is not 0
pub record ReadsSome (Reads : ℤ → ℤ → Type 0) : Type 0 where
  pub n : ℤ
  pub d : ℤ
  pub reads : Reads n d
  pub some : d ≢ pos 0

-- the result is the lowest terms of the list's two numbers. Or it is the refusal that applies: the value is no list of two; or
-- `HasNoJsonWhole`; or the second number is 0
-- Example: `[6,"-4"]`: `Ok(-3/2)`
abbrev pub AnswersBigJson : Data → Result BigFraction JsonRatioError → Type 0
AnswersBigJson v (Ok r) = ReadsBig (IsJsonFraction v) r
AnswersBigJson v (Err NotAPair) = (a b : Data) → v ≢ list_of_two a b
AnswersBigJson v (Err NotAnInteger) = HasNoJsonWhole v
AnswersBigJson v (Err ZeroDenominator) = (n : ℤ) × IsJsonFraction v n (pos 0)

-- ---- inner words

-- Inner: some whole number is read
abbrev pub HasWhole : (ℤ → Type 0) → Type 0
HasWhole Reads = (z : ℤ) × Reads z

-- Inner: some whole number other than 0 is read
abbrev pub HasNonzero : (ℤ → Type 0) → Type 0
HasNonzero Reads = (z : ℤ) × Reads z × (z ≢ pos 0)

-- Inner: some whole number is read, and r is that number over 1
abbrev pub GivesWhole : (ℤ → Type 0) → BigFraction → Type 0
GivesWhole Reads r = (z : ℤ) × Reads z × (big_numbers r ≡ (z, pos 1))

-- Inner: the JSON values are the whole numbers n and d
abbrev pub AreJsonWholes : Data → Data → ℤ → ℤ → Type 0
AreJsonWholes a b n d = IsJsonWhole a n × IsJsonWhole b d

-- Inner: the result is the lowest terms of the two whole numbers, and `None` if the second is 0
abbrev pub DividesJsonWholes : Data → Data → Option BigFraction → Type 0
DividesJsonWholes a b None = (n : ℤ) × AreJsonWholes a b n (pos 0)
DividesJsonWholes a b (Some r) = ReadsBig (AreJsonWholes a b) r
