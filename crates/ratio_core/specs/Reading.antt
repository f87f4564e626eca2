-- What number and what fraction a text reads as, and what the calls return.
use Rattle.std.specs.Prelude.{◌≡◌, ◌≢◌, ◌⊎◌, ◌<ℤ◌, ◌+◌, ◌*◌, ◌^◌, ℕ, ℤ, pos, neg_ℤ, List, [], ◌∷◌, ◌++◌, length, Option, Some, None, Result, Ok, Err}
use Rattle.std.specs.Char.{digit_value}
use Rattle.std.specs.Str.Parse.{IsNumeral}
use Rattle.ratio_integer.specs.{Fraction.Fits, Fraction.IsHeldLowest, Range.IsHeld}
use Rattle.ratio_core.specs.declared.parse_error.RatioErrorKind.{RatioErrorKind, TheVariants.ParseError, TheVariants.ZeroDenominator}

-- the byte of a plus sign, which is 43
-- Example: `+`
abbrev pub plus : ℕ
plus = 43

-- the byte of a minus sign, which is 45
-- Example: `-`
abbrev pub minus : ℕ
minus = 45

-- the byte of a slash, which is 47
-- Example: `/`
abbrev pub slash : ℕ
slash = 47

-- the sum of the digits' values times powers of the radix
-- Example: `ff` in base 16: 15·16 + 15
abbrev pub digits_sum : ℕ → List ℕ → ℕ
digits_sum radix [] = 0
digits_sum radix (c ∷ cs) = digit_value c * radix ^ length cs + digits_sum radix cs

-- the text is one or more digits of the radix, and z is their sum (`digits_sum`). A plus may come first. If the type has numbers below 0, a
-- minus may come first instead; then z is the negative of the sum
-- Example: `-007`; not `--7`
abbrev pub IsNumberText : ℤ → ℕ → List ℕ → ℤ → Type 0
IsNumberText lo radix text z =
    (IsNumeral radix text × (z ≡ pos (digits_sum radix text)))
    ⊎ (((digits : List ℕ) × (text ≡ plus ∷ digits) × IsNumeral radix digits × (z ≡ pos (digits_sum radix digits)))
    ⊎ ((digits : List ℕ) × (lo <ℤ pos 0) × (text ≡ minus ∷ digits) × IsNumeral radix digits × (z ≡ neg_ℤ (pos (digits_sum radix digits)))))

-- the text is a number text of z, and z is in range
-- Example: not `128`
pub record ReadsAs (lo hi : ℤ) (radix : ℕ) (text : List ℕ) (z : ℤ) : Type 0 where
  pub number : IsNumberText lo radix text z
  pub held : IsHeld lo hi z

-- the result is `Some` of the number that the text reads as; it is `None` if the text reads as none
-- Example: `128`: `None`
abbrev pub ReadsNumber : {T : Type 0} → (T → ℤ) → ℤ → ℤ → ℕ → List ℕ → Option T → Type 0
ReadsNumber value lo hi radix text None = (z : ℤ) → ¬ (ReadsAs lo hi radix text z)
ReadsNumber value lo hi radix text (Some y) = ReadsAs lo hi radix text (value y)

-- the text in front reads as n, and the text at the back as d
-- Example: `6` and `-4`: 6 and -4
pub record SidesReadAs (lo hi : ℤ) (radix : ℕ) (front back : List ℕ) (n d : ℤ) : Type 0 where
  pub numer : ReadsAs lo hi radix front n
  pub denom : ReadsAs lo hi radix back d

-- the text is one that reads as n, a slash, and one that reads as d
-- Example: `6/-4`: 6 and -4
pub record IsSlashedText (lo hi : ℤ) (radix : ℕ) (text : List ℕ) (n d : ℤ) : Type 0 where
  pub front : List ℕ
  pub back : List ℕ
  pub cut : text ≡ front ++ slash ∷ back
  pub sides : SidesReadAs lo hi radix front back n d

-- the text in base 10 reads as n over d: with a slash, or as n alone, and then d is 1
-- Example: `6/-4`: 6 and -4; `6`: 6 and 1
abbrev pub IsFractionText : ℤ → ℤ → List ℕ → ℤ → ℤ → Type 0
IsFractionText lo hi text n d = IsSlashedText lo hi 10 text n d ⊎ (ReadsAs lo hi 10 text n × (d ≡ pos 1))

-- some n over d is read, and a/b is its lowest terms, which are in range
-- Example: `6/4`: 3/2
pub record ReadsLowest (lo hi : ℤ) (Reads : ℤ → ℤ → Type 0) (a b : ℤ) : Type 0 where
  pub n : ℤ
  pub d : ℤ
  pub reads : Reads n d
  pub low : IsHeldLowest lo hi n d a b

-- each n over d that is read has a d other than 0, and lowest terms that are not in range; it may be that none is read
-- Example: `x`
pub record NoneFits (lo hi : ℤ) (Reads : ℤ → ℤ → Type 0) : Type 0 where
  pub each : (n d : ℤ) → Reads n d → (d ≢ pos 0) × ¬ (Fits lo hi n d)

-- a refusal of this kind applies: a parse error where `NoneFits`, and a zero denominator where some n over 0 is read
-- Example: `x`; `1/0`
abbrev pub Refuses : ℤ → ℤ → (ℤ → ℤ → Type 0) → RatioErrorKind → Type 0
Refuses lo hi Reads ParseError = NoneFits lo hi Reads
Refuses lo hi Reads ZeroDenominator = (n : ℤ) × Reads n (pos 0)

-- the result is the lowest terms of what is read, or a refusal that applies; `numer` and `denom` give its two numbers
-- Example: `6/4`: `Ok(3/2)`
abbrev pub AnswersText : {R : Type 0} → (R → ℤ) → (R → ℤ) → ℤ → ℤ → (ℤ → ℤ → Type 0) → Result R RatioErrorKind → Type 0
AnswersText numer denom lo hi Reads (Ok r) = ReadsLowest lo hi Reads (numer r) (denom r)
AnswersText numer denom lo hi Reads (Err kind) = Refuses lo hi Reads kind

-- Inner: the result is the two numbers that are read, not reduced, and the second is not 0. Or it is a parse error, and none are read. Or
-- it is a zero denominator, and the second is 0
abbrev pub AnswersFields : {T : Type 0} → (T → ℤ) → (ℤ → ℤ → Type 0) → Result (T × T) RatioErrorKind → Type 0
AnswersFields value Reads (Ok p) = Reads (value p.0) (value p.1) × (value p.1 ≢ pos 0)
AnswersFields value Reads (Err ParseError) = (n d : ℤ) → ¬ (Reads n d)
AnswersFields value Reads (Err ZeroDenominator) = (n : ℤ) × Reads n (pos 0)

-- Inner: the result is the lowest terms of n/d, or a parse error if they are not in range
abbrev pub AnswersFraction : {T : Type 0} → (T → ℤ) → ℤ → ℤ → ℤ → ℤ → Result (T × T) RatioErrorKind → Type 0
AnswersFraction value lo hi n d (Ok r) = IsHeldLowest lo hi n d (value r.0) (value r.1)
AnswersFraction value lo hi n d (Err kind) = (kind ≡ ParseError) × ¬ (Fits lo hi n d)
