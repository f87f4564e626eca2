-- A fraction as a JSON value, and what reading such a value returns.
use Rattle.std.specs.Prelude.{◌≡◌, ◌≢◌, ◌⊎◌, ℕ, ℤ, pos, List, codes, Result, Ok, Err, Option, Some, None, option_and_then}
use Rattle.serde_json.specs.Data.{Data, array, item, no_items, number}
use Rattle.serde_json.specs.Find.{as_integer, as_number, of_integer}
use Rattle.ratio_integer.specs.Range.{IsHeld}
use Rattle.num_rational.specs.Ratio.{denominator, numerator}
use Rattle.num_rational.specs.declared.json.JsonRatioError.{JsonRatioError}
use Rattle.num_rational.specs.declared.json.JsonRatioError.TheVariants.{NotAPair, NotAnInteger, ZeroDenominator}
use Rattle.num_rational.specs.declared.ratio.Ratio.{Ratio}

-- the JSON list of two values
-- Example: `[3,4]`
abbrev pub list_of_two : Data → Data → Data
list_of_two a b = array (item a (item b no_items))

-- the JSON list of two whole numbers
-- Example: `[3,4]`
abbrev pub json_pair : ℤ → ℤ → Data
json_pair n d = list_of_two (number (of_integer n)) (number (of_integer d))

-- the JSON value is the whole number z, which is in range; a number that is kept as a float is none
-- Example: `3`; not `3.0`
pub record IsJsonInteger (lo hi : ℤ) (v : Data) (z : ℤ) : Type 0 where
  pub whole : option_and_then as_integer (as_number v) ≡ Some z
  pub held : IsHeld lo hi z

-- the JSON value is the list of two whole numbers n and d, which are in range
-- Example: `[3,4]`
pub record IsJsonPair (lo hi : ℤ) (v : Data) (n d : ℤ) : Type 0 where
  pub first : Data
  pub second : Data
  pub list : v ≡ list_of_two first second
  pub numer : IsJsonInteger lo hi first n
  pub denom : IsJsonInteger lo hi second d

-- the JSON value is a list of two values, of which one is no whole number in range
-- Example: `[3,4.5]`
pub record HasNoJsonInteger (lo hi : ℤ) (v : Data) : Type 0 where
  pub first : Data
  pub second : Data
  pub list : v ≡ list_of_two first second
  pub other : ((z : ℤ) → ¬ (IsJsonInteger lo hi first z)) ⊎ ((z : ℤ) → ¬ (IsJsonInteger lo hi second z))

-- the result has the two numbers of the list, not reduced, and the second is not 0. Or it is the refusal that applies: the value is no list
-- of two; or `HasNoJsonInteger`; or the second number is 0. `numer` and `denom` read the result
-- Example: `[2,4]`: 2/4
abbrev pub AnswersJson : {R : Type 0} → (R → ℤ) → (R → ℤ) → ℤ → ℤ → Data → Result R JsonRatioError → Type 0
AnswersJson numer denom lo hi v (Ok r) = IsJsonPair lo hi v (numer r) (denom r) × (denom r ≢ pos 0)
AnswersJson numer denom lo hi v (Err NotAPair) = (a b : Data) → v ≢ list_of_two a b
AnswersJson numer denom lo hi v (Err NotAnInteger) = HasNoJsonInteger lo hi v
AnswersJson numer denom lo hi v (Err ZeroDenominator) = (n : ℤ) × IsJsonPair lo hi v n (pos 0)

-- Inner: the result is the whole number that the JSON value is, and `None` if it is none
abbrev pub AnswersJsonInteger : {T : Type 0} → (T → ℤ) → ℤ → ℤ → Data → Option T → Type 0
AnswersJsonInteger value lo hi v None = (z : ℤ) → ¬ (IsJsonInteger lo hi v z)
AnswersJsonInteger value lo hi v (Some y) = IsJsonInteger lo hi v (value y)

-- the result has the list's two numbers, not reduced, or is the refusal that applies
-- Example: `[2,4]`: 2/4
abbrev pub ReadsJson : {T : _} {i : _} {o : _} {e : _} {p : _} {h : _} → Data → Result (Ratio T i o e p h) JsonRatioError → Type 0
ReadsJson {i = i} v result = AnswersJson numerator denominator i.lo i.hi v result

-- what the refusals print: `not a list of two`, `not a whole number of the type` and `zero value denominator`
abbrev pub json_refusal_text : JsonRatioError → List ℕ
json_refusal_text NotAPair = codes "not a list of two"
json_refusal_text NotAnInteger = codes "not a whole number of the type"
json_refusal_text ZeroDenominator = codes "zero value denominator"
