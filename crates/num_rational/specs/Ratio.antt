-- The two numbers of a fraction.
use Rattle.std.specs.Prelude.{◌≡◌, ℕ, ℤ, pos, List, Option, None, Some, Result}
use Rattle.ratio_integer.specs.Fraction.{ChecksLowest, Fits, IsHeldLowest, IsLowestTermsOf}
use Rattle.ratio_integer.specs.Range.{IsHeld}
use Rattle.ratio_integer.proofs.LowestTerms.{over_one}
use Rattle.ratio_integer.proofs.Whole.{positive_nonzero}
use Rattle.ratio_core.specs.declared.parse_error.RatioErrorKind.{RatioErrorKind}
use Rattle.ratio_core.specs.Reading.{AnswersText, IsFractionText}
use Rattle.num_rational.specs.declared.ratio.Ratio.{Ratio}

-- the two fields of a fraction: the numerator and the denominator, as values of the integer type
-- Example: 2/4: 2, 4
abbrev pub fields : {T : _} {i : _} {o : _} {e : _} {p : _} {h : _} → Ratio T i o e p h → T × T
fields r = (r.numer, r.denom)

-- the `Ratio` with c and `ONE` as its fields
-- Example: 5: 5/1
abbrev pub from_integer : {T : Type 0} {i : _} {o : _} {e : _} {p : _} {h : _} → T → Ratio T i o e p h
from_integer {i = i} c = record { numer = c; denom = i.ONE; nonzero = positive_nonzero (i.value i.ONE) (over_one (i.value c) (i.value i.ONE) i.one_number).positive }

-- the numerator, as a whole number
-- Example: 2/4: 2
abbrev pub numerator : {T : _} {i : _} {o : _} {e : _} {p : _} {h : _} → Ratio T i o e p h → ℤ
numerator {i = i} r = i.value r.numer

-- the denominator, as a whole number
-- Example: 2/4: 4
abbrev pub denominator : {T : _} {i : _} {o : _} {e : _} {p : _} {h : _} → Ratio T i o e p h → ℤ
denominator {i = i} r = i.value r.denom

-- r is c over 1
-- Example: 5/1
abbrev pub IsWhole : {T : _} {i : _} {o : _} {e : _} {p : _} {h : _} → ℤ → Ratio T i o e p h → Type 0
IsWhole c r = (numerator r ≡ c) × (denominator r ≡ pos 1)

-- the result is c over 1 if c is in range, and else `None`
-- Example: 128: `None`
abbrev pub ChecksWhole : {T : _} {i : _} {o : _} {e : _} {p : _} {h : _} → ℤ → Option (Ratio T i o e p h) → Type 0
ChecksWhole {i = i} c None = ¬ (IsHeld i.lo i.hi c)
ChecksWhole {i = i} c (Some r) = IsHeld i.lo i.hi c × IsWhole c r

-- r is the lowest terms of the pair x, and they are in range
-- Example: 2/4: 1/2
abbrev pub IsLowestOf : {T : _} {i : _} {o : _} {e : _} {p : _} {h : _} → ℤ × ℤ → Ratio T i o e p h → Type 0
IsLowestOf {i = i} x r = IsHeldLowest i.lo i.hi x.0 x.1 (numerator r) (denominator r)

-- the result is the lowest terms of the pair x if these are in range, and else `None`
-- Example: 2/4: `Some(1/2)`
abbrev pub ChecksRatio : {T : _} {i : _} {o : _} {e : _} {p : _} {h : _} → ℤ × ℤ → Option (Ratio T i o e p h) → Type 0
ChecksRatio {i = i} x result = ChecksLowest numerator denominator i.lo i.hi x result

-- the lowest terms of r are in range, and they are its own two numbers
-- Example: 1/2; not 2/4
pub record IsReduced {T : _} {i : _} {o : _} {e : _} {p : _} {h : _} (r : Ratio T i o e p h) : Type 0 where
  pub fits : Fits i.lo i.hi (numerator r) (denominator r)
  pub same : (a b : ℤ) → IsLowestTermsOf (numerator r) (denominator r) a b → (a ≡ numerator r) × (b ≡ denominator r)

-- the result is the fraction of a text in base 10, in lowest terms, or a refusal that applies
-- Example: `6/4`: `Ok(3/2)`
abbrev pub ReadsRatio : {T : _} {i : _} {o : _} {e : _} {p : _} {h : _} → List ℕ → Result (Ratio T i o e p h) RatioErrorKind → Type 0
ReadsRatio {i = i} text result = AnswersText numerator denominator i.lo i.hi (IsFractionText i.lo i.hi text) result
