-- Whole numbers near a `Reduced`. A premise only says what a call returned. `floor`, `ceil`, `round` and `trunc` round by `Floor`, `Ceil`,
-- `HalfAway` and `Down`.
use Rattle.std.specs.Prelude.{◌≡◌, ◌≢◌, ◌*◌, ◌≤ℤ◌, ◌<ℤ◌, pos, unsigned_abs, Option, None, Some}
use Rattle.std.specs.declared.cmp.Ordering.TheVariants.{Greater}
use Rattle.ratio_decimal.specs.RoundingRules.{IsRoundedBy}
use Rattle.ratio_decimal.specs.declared.rounding_rule.Rounding.{Rounding, TheVariants.HalfAway, TheVariants.Floor, TheVariants.Ceil}
use Rattle.num_rational.specs.declared.reduced.Reduced.{Reduced}
use Rattle.num_rational.specs.{Comparison.HaveSameFields, Comparison.order_of, Ratio.denominator, Ratio.numerator, Reduced.ratio_of}
use Rattle.ratio_laws.specs.ReducedLaws.{AnswersDifference, AnswersNegative, AnswersSum, AreOneAnswer}

-- r is x rounded to a whole number by the rule
-- Example: -7/2 by `Floor`: -4
abbrev pub IsWholeBy : {T : _} {i : _} {o : _} {e : _} {p : _} {h : _} → Rounding → Reduced T i o e p h → Reduced T i o e p h → Type 0
IsWholeBy rule x r = IsRoundedBy rule (numerator (ratio_of x)) (denominator (ratio_of x)) (numerator (ratio_of r)) × (denominator (ratio_of r) ≡ pos 1)

-- if x is not above y, x rounded is not above y rounded by the same rule
abbrev pub RoundsInOrder : {T : _} {i : _} {o : _} {e : _} {p : _} {h : _} → Reduced T i o e p h → Reduced T i o e p h → Type 0
RoundsInOrder {T} {i} {o} {e} {p} {h} x y =
    (rule : Rounding) (left right : Reduced T i o e p h)
    → order_of (ratio_of x) (ratio_of y) ≢ Greater
    → IsWholeBy rule x left
    → IsWholeBy rule y right
    → order_of (ratio_of left) (ratio_of right) ≢ Greater

-- if x is a whole number, x rounded is x
abbrev pub KeepsWhole : {T : _} {i : _} {o : _} {e : _} {p : _} {h : _} → Reduced T i o e p h → Type 0
KeepsWhole {T} {i} {o} {e} {p} {h} x =
    (rule : Rounding) (r : Reduced T i o e p h) → denominator (ratio_of x) ≡ pos 1 → IsWholeBy rule x r → HaveSameFields (ratio_of r) (ratio_of x)

-- |x - round x| is at most a half, if x - round x is `Some`
-- Example: -7/2 - -4 is 1/2
abbrev pub IsNearRounded : {T : _} {i : _} {o : _} {e : _} {p : _} {h : _} → Reduced T i o e p h → Type 0
IsNearRounded {T} {i} {o} {e} {p} {h} x =
    (rounded rest : Reduced T i o e p h)
    → IsWholeBy HalfAway x rounded
    → AnswersDifference x rounded (Some rest)
    → pos (2 * unsigned_abs (numerator (ratio_of rest))) ≤ℤ denominator (ratio_of rest)

-- the result is `Some`, at least 0 and below 1
abbrev pub IsPartOfOne : {T : _} {i : _} {o : _} {e : _} {p : _} {h : _} → Option (Reduced T i o e p h) → Type 0
IsPartOfOne None = ⊥
IsPartOfOne (Some r) = (pos 0 ≤ℤ numerator (ratio_of r)) × (numerator (ratio_of r) <ℤ denominator (ratio_of r))

-- x - floor x is `Some`, at least 0 and below 1 (`IsPartOfOne`)
-- Example: -7/2 - -4 is 1/2
abbrev pub IsNearFloor : {T : _} {i : _} {o : _} {e : _} {p : _} {h : _} → Reduced T i o e p h → Type 0
IsNearFloor {T} {i} {o} {e} {p} {h} x =
    (floor : Reduced T i o e p h) (rest : Option (Reduced T i o e p h)) → IsWholeBy Floor x floor → AnswersDifference x floor rest → IsPartOfOne rest

-- x rounded by the rule, plus the whole number n, is `Some` of x + n rounded, if x + n is `Some`. The law is for `Floor` and `Ceil`
abbrev pub AddsWhole : {T : _} {i : _} {o : _} {e : _} {p : _} {h : _} → Rounding → Reduced T i o e p h → Reduced T i o e p h → Type 0
AddsWhole {T} {i} {o} {e} {p} {h} rule x n =
    (sum rounded whole : Reduced T i o e p h) (total : Option (Reduced T i o e p h))
    → denominator (ratio_of n) ≡ pos 1
    → AnswersSum x n (Some sum)
    → IsWholeBy rule x rounded
    → IsWholeBy rule sum whole
    → AnswersSum rounded n total
    → AreOneAnswer total (Some whole)

-- -floor(-x) is `Some` of ceil x, if -x is `Some`
-- Example: -7/2: -3
abbrev pub IsCeilingOfNegative : {T : _} {i : _} {o : _} {e : _} {p : _} {h : _} → Reduced T i o e p h → Type 0
IsCeilingOfNegative {T} {i} {o} {e} {p} {h} x =
    (negative floor ceiling : Reduced T i o e p h) (back : Option (Reduced T i o e p h))
    → AnswersNegative x (Some negative)
    → IsWholeBy Floor negative floor
    → IsWholeBy Ceil x ceiling
    → AnswersNegative floor back
    → AreOneAnswer back (Some ceiling)
