-- Inner: how a typed text is cut from the left, and the lowest terms of what it says in 128 bits.
use Rattle.std.specs.Prelude.{◌≡◌, ◌≢◌, ◌<◌, ℕ, ℤ, pos, unsigned_abs, Bool, true, false, not, List, length, Result, Ok, Err}
use Rattle.ratio_integer.specs.Fraction.{IsLowestTermsOf}
use Rattle.ratio_decimal.specs.DecimalCuts.{IsDigitsCut, IsWide}
use Rattle.ratio_core.specs.Signs.{with_sign}
use Rattle.ratio_decimal.specs.TypedText.{AreSmall}
use Rattle.ratio_decimal.specs.declared.reading.terms.Terms.{Terms}
use Rattle.ratio_decimal.specs.declared.typed.TextRefusal.{TextRefusal, TheVariants.NotNumber, TheVariants.ZeroDenominator, TheVariants.NotHeld}
use Rattle.ratio_decimal.specs.declared.typed.signed.SignedTerms.{SignedTerms}

-- Inner: all digits that the text begins with are taken off (`IsDigitsCut`), and there is one at least
pub record IsSomeDigitsCut (text digits rest : List ℕ) : Type 0 where
  pub some : 0 < length digits
  pub cut : IsDigitsCut text digits rest

-- Inner: the result is the lowest terms of n/d, in 128 bits. Or d is 0. Or it is not, and one of the numbers or of the lowest terms is
-- 2^128 or more
abbrev pub ChecksTyped : List ℕ → ℕ → ℕ → Result Terms TextRefusal → Type 0
ChecksTyped numbers n d (Ok r) = AreSmall numbers × IsLowestTermsOf (pos n) (pos d) (pos r.numer) (pos r.denom)
ChecksTyped numbers n d (Err NotNumber) = ⊥
ChecksTyped numbers n d (Err ZeroDenominator) = d ≡ 0
ChecksTyped numbers n d (Err NotHeld) = (0 < d) × (AreSmall numbers → IsWide n d)

-- Inner: one of the two is true, and the other is false
abbrev pub differ : Bool → Bool → Bool
differ false other = other
differ true other = not other

-- Inner: some n/d is read, its `numbers` are below 2^128, and a/b is its lowest terms
pub record ReadsTerms (Reads : ℤ → ℤ → List ℕ → Type 0) (a b : ℤ) : Type 0 where
  pub n : ℤ
  pub d : ℤ
  pub numbers : List ℕ
  pub reads : Reads n d numbers
  pub small : AreSmall numbers
  pub terms : IsLowestTermsOf n d a b

-- Inner: some n/d is read, and d is not 0. One of its `numbers` or of its lowest terms is 2^128 or more
pub record ReadsWide (Reads : ℤ → ℤ → List ℕ → Type 0) : Type 0 where
  pub n : ℤ
  pub d : ℤ
  pub numbers : List ℕ
  pub reads : Reads n d numbers
  pub some : d ≢ pos 0
  pub out : AreSmall numbers → IsWide (unsigned_abs n) (unsigned_abs d)

-- Inner: the result is the lowest terms of what is read. Or nothing is read. Or n over 0 is. Or what is read is too wide
abbrev pub AnswersTerms : (ℤ → ℤ → List ℕ → Type 0) → Result SignedTerms TextRefusal → Type 0
AnswersTerms Reads (Ok r) = ReadsTerms Reads (with_sign r.below r.terms.numer) (pos r.terms.denom)
AnswersTerms Reads (Err NotNumber) = (n d : ℤ) (numbers : List ℕ) → ¬ (Reads n d numbers)
AnswersTerms Reads (Err ZeroDenominator) = (n : ℤ) × (numbers : List ℕ) × Reads n (pos 0) numbers
AnswersTerms Reads (Err NotHeld) = ReadsWide Reads
