-- Inner: how a decimal text is cut from the left, and the lowest terms of its digits in 128 bits.
use Rattle.std.specs.Prelude.{◌≡◌, ◌≢◌, ◌⊎◌, ◌<◌, ◌≤◌, ◌-◌, ◌*◌, ◌%◌, ◌^◌, ℕ, ℤ, pos, Bool, true, false, List, [], ◌∷◌, ◌++◌, Option, Some, None}
use Rattle.std.specs.Char.{digit_value}
use Rattle.std.specs.Str.Parse.{AllDigits}
use Rattle.ratio_integer.specs.{Fraction.IsLowestTermsOf, Range.Checks, Range.IsHeld}
use Rattle.ratio_decimal.specs.Decimal.{point}
use Rattle.ratio_core.specs.{Signs.with_sign, Reading.minus, Reading.plus}
use Rattle.ratio_decimal.specs.declared.reading.terms.Terms.{Terms}

-- Inner: the text does not begin with a sign
abbrev pub HasNoSign : List ℕ → Type 0
HasNoSign [] = Unit {0}
HasNoSign (c ∷ cs) = (c ≢ minus) × (c ≢ plus)

-- Inner: the text does not begin with a point
abbrev pub HasNoPoint : List ℕ → Type 0
HasNoPoint [] = Unit {0}
HasNoPoint (c ∷ cs) = c ≢ point

-- Inner: the text does not begin with a digit
abbrev pub HasNoDigit : List ℕ → Type 0
HasNoDigit [] = Unit {0}
HasNoDigit (c ∷ cs) = 10 ≤ digit_value c

-- Inner: the sign that the text begins with is taken off: a minus, a plus, or none
-- Example: `-5`: a minus, and `5`
abbrev pub IsSignCut : List ℕ → Bool → List ℕ → Type 0
IsSignCut text below rest =
    ((text ≡ minus ∷ rest) × (below ≡ true)) ⊎ (((text ≡ plus ∷ rest) × (below ≡ false)) ⊎ ((text ≡ rest) × (below ≡ false) × HasNoSign text))

-- Inner: all digits that the text begins with are taken off
pub record IsDigitsCut (text digits rest : List ℕ) : Type 0 where
  pub cut : text ≡ digits ++ rest
  pub all : AllDigits 10 digits
  pub end : HasNoDigit rest

-- Inner: a point and all digits behind it are taken off, or nothing is, if the text begins with no point
abbrev pub IsPointCut : List ℕ → List ℕ → List ℕ → Type 0
IsPointCut text part rest = ((behind : List ℕ) × (text ≡ point ∷ behind) × IsDigitsCut behind part rest) ⊎ ((text ≡ rest) × (part ≡ []) × HasNoPoint text)

-- Inner: a sign, digits, a point and the digits behind it are taken off
pub record IsDecimalCut (text : List ℕ) (below : Bool) (whole part rest : List ℕ) : Type 0 where
  pub unsigned : List ℕ
  pub later : List ℕ
  pub sign : IsSignCut text below unsigned
  pub first : IsDigitsCut unsigned whole later
  pub second : IsPointCut later part rest

-- Inner: p/q is the lowest terms of n/d, and below 1
pub record IsPartTerms (n d p q : ℕ) : Type 0 where
  pub terms : IsLowestTermsOf (pos n) (pos d) (pos p) (pos q)
  pub below : p < q

-- Inner: the number is `rest` times a power of the prime, of at most `most`. `left` more could be taken out, but there are none in `rest`
pub record IsWithout (prime number most rest left : ℕ) : Type 0 where
  pub few : left ≤ most
  pub same : number ≡ rest * prime ^ (most - left)
  pub done : (left ≡ 0) ⊎ (rest % prime ≢ 0)

-- Inner: each denominator with which n/d can be written is 2^128 or more
pub record IsFine (n d : ℕ) : Type 0 where
  pub each : (a b : ℕ) → 0 < b → a * d ≡ n * b → 2 ^ 128 ≤ b

-- Inner: of each two numbers with which n/d can be written, one is 2^128 or more
pub record IsWide (n d : ℕ) : Type 0 where
  pub each : (a b : ℕ) → 0 < b → a * d ≡ n * b → (2 ^ 128 ≤ a) ⊎ (2 ^ 128 ≤ b)

-- Inner: the result is the lowest terms of n/d, which is below 1, and `None` if their denominator is 2^128 or more
abbrev pub ChecksPart : ℕ → ℕ → Option Terms → Type 0
ChecksPart n d None = IsFine n d
ChecksPart n d (Some r) = IsPartTerms n d r.numer r.denom

-- Inner: the result is the lowest terms of n/d, and `None` if one of them is 2^128 or more
abbrev pub ChecksTerms : ℕ → ℕ → Option Terms → Type 0
ChecksTerms n d None = IsWide n d
ChecksTerms n d (Some r) = IsLowestTermsOf (pos n) (pos d) (pos r.numer) (pos r.denom)

-- Inner: the result is n, and `None` if n is 2^128 or more
abbrev pub ChecksNumber : ℕ → Option ℕ → Type 0
ChecksNumber n None = 2 ^ 128 ≤ n
ChecksNumber n (Some m) = m ≡ n

-- Inner: the result is 0/1, and `None` if n is not 0
abbrev pub ChecksZero : ℕ → Option Terms → Type 0
ChecksZero n None = 0 < n
ChecksZero n (Some r) = (n ≡ 0) × (r.numer ≡ 0) × (r.denom ≡ 1)

-- Inner: the result is p and q in the type, p negated if `below`, and `None` if one of them is not in range
abbrev pub ChecksSigned : {T : Type 0} → (T → ℤ) → ℤ → ℤ → Bool → ℕ → ℕ → Option (T × T) → Type 0
ChecksSigned value lo hi below p q None = ¬ (IsHeld lo hi (with_sign below p) × IsHeld lo hi (pos q))
ChecksSigned value lo hi below p q (Some r) = Checks value lo hi (with_sign below p) (Some r.0) × Checks value lo hi (pos q) (Some r.1)
