-- A fraction that is always in lowest terms, seen as the `Ratio` of its fields.
use Rattle.std.specs.Prelude.{◌≡◌, ◌≤ℤ◌, ◌++◌, ℕ, ℤ, pos, List, Option, None, Some, Result}
use Rattle.ratio_integer.specs.Range.{IsHeld}
use Rattle.ratio_integer.proofs.LowestTerms.{over_one}
use Rattle.ratio_core.specs.declared.parse_error.RatioErrorKind.{RatioErrorKind}
use Rattle.ratio_approximation.specs.Nearest.{IsNearest}
use Rattle.ratio_core.specs.Reading.{AnswersText, IsFractionText}
use Rattle.ratio_approximation.specs.Simplest.{HoldsNoneBetween, IsSimplest}
use Rattle.num_rational.specs.declared.ratio.Ratio.{Ratio}
use Rattle.num_rational.specs.declared.reduced.Reduced.{Reduced}
use Rattle.num_rational.specs.Operators.{numbers}
use Rattle.num_rational.specs.Ratio.{denominator, from_integer, numerator}

-- a `Reduced` as the `Ratio` of the same fields
abbrev pub ratio_of : {T : _} {i : _} {o : _} {e : _} {p : _} {h : _} → Reduced T i o e p h → Ratio T i o e p h
ratio_of x = x.ratio

-- the `Reduced` in an `Option` as the `Ratio` of the same fields
abbrev pub ratio_in : {T : _} {i : _} {o : _} {e : _} {p : _} {h : _} → Option (Reduced T i o e p h) → Option (Ratio T i o e p h)
ratio_in None = None
ratio_in (Some x) = Some x.ratio

-- the two numbers of a fraction in lowest terms (a `Reduced`)
-- Example: 1/2: (1, 2)
abbrev pub lowest_numbers : {T : _} {i : _} {o : _} {e : _} {p : _} {h : _} → Reduced T i o e p h → ℤ × ℤ
lowest_numbers x = numbers (ratio_of x)

-- the `Reduced` with c and `ONE` as its fields
-- Example: 5: 5/1
abbrev pub reduced_from_integer : {T : Type 0} {i : _} {o : _} {e : _} {p : _} {h : _} → T → Reduced T i o e p h
reduced_from_integer {i = i} c = record { ratio = from_integer c; lowest = over_one (i.value c) (i.value i.ONE) i.one_number }

-- what the two fields feed a hasher, each by the element's own hash
abbrev pub writes_of_fields : {T : _} {i : _} {o : _} {e : _} {p : _} {h : _} → Reduced T i o e p h → List (List ℕ)
writes_of_fields {i = i} x = i.number_hash_input (numerator x.ratio) ++ i.number_hash_input (denominator x.ratio)

-- the result is the fraction of a text in base 10, in lowest terms, or a refusal that applies
-- Example: `6/4`: `Ok(3/2)`
abbrev pub ReadsReduced : {T : _} {i : _} {o : _} {e : _} {p : _} {h : _} → List ℕ → Result (Reduced T i o e p h) RatioErrorKind → Type 0
ReadsReduced {i = i} text result = AnswersText (λ x. numerator (ratio_of x)) (λ x. denominator (ratio_of x)) i.lo i.hi (IsFractionText i.lo i.hi text) result

-- the result is the nearest fraction to x (`IsNearest`) with a denominator from 1 to most, and `None` if most is below 1
-- Example: 355/113 within 10: `Some(22/7)`
abbrev pub ChecksNearest : {T : _} {i : _} {o : _} {e : _} {p : _} {h : _} → Reduced T i o e p h → ℤ → Option (Reduced T i o e p h) → Type 0
ChecksNearest x most None = most ≤ℤ pos 0
ChecksNearest x most (Some r) = IsNearest (numerator x.ratio) (denominator x.ratio) most (numerator r.ratio) (denominator r.ratio)

-- the result is the simplest fraction strictly between low and high (`IsSimplest`), and `None` exactly if their type has none there
-- Example: 1/3 and 1/2: `Some(2/5)`; 0/1 and 1/127: `None`
abbrev pub ChecksSimplestBetween : {T : _} {i : _} {o : _} {e : _} {p : _} {h : _} → Reduced T i o e p h → Reduced T i o e p h → Option (Reduced T i o e p h) → Type 0
ChecksSimplestBetween {i = i} low high None = HoldsNoneBetween i.lo i.hi (numerator low.ratio) (denominator low.ratio) (numerator high.ratio) (denominator high.ratio)
ChecksSimplestBetween low high (Some r) =
    IsSimplest (numerator low.ratio) (denominator low.ratio) (numerator high.ratio) (denominator high.ratio) (numerator r.ratio) (denominator r.ratio)

-- the result, over another type, has the two whole numbers of x, if both are in the range of that type, and else is `None`
-- Example: 1/127 to `i8`: `Some(1/127)`; 1/128 to `i8`: `None`
abbrev pub ChecksCast : {T U : _} {i : _} {o : _} {e : _} {p : _} {h : _} {j : _} {o' : _} {e' : _} {p' : _} {h' : _}
    → Reduced T i o e p h → Option (Reduced U j o' e' p' h') → Type 0
ChecksCast {j = j} x None = ¬ (IsHeld j.lo j.hi (numerator x.ratio) × IsHeld j.lo j.hi (denominator x.ratio))
ChecksCast {j = j} x (Some r) =
    IsHeld j.lo j.hi (numerator x.ratio) × IsHeld j.lo j.hi (denominator x.ratio) × (numerator r.ratio ≡ numerator x.ratio) × (denominator r.ratio ≡ denominator x.ratio)
