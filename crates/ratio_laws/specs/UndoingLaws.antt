-- Calls of `Reduced` that undo one another, or that can stand for one another. A premise only says what a call returned.
use Rattle.std.specs.Prelude.{◌≢◌, pos, Option, Some}
use Rattle.num_rational.specs.declared.reduced.Reduced.{Reduced}
use Rattle.num_rational.specs.{Ratio.IsWhole, Ratio.numerator, Reduced.ratio_of}
use Rattle.ratio_laws.specs.ReducedLaws.{AnswersDifference, AnswersNegative, AnswersProduct, AnswersQuotient, AnswersReciprocal, AnswersSum, AreOneAnswer}

-- (x + y) - y is `Some` of x, if x + y is `Some`
abbrev pub IsSumUndone : {T : _} {i : _} {o : _} {e : _} {p : _} {h : _} → Reduced T i o e p h → Reduced T i o e p h → Type 0
IsSumUndone {T} {i} {o} {e} {p} {h} x y =
    (sum : Reduced T i o e p h) (back : Option (Reduced T i o e p h)) → AnswersSum x y (Some sum) → AnswersDifference sum y back → AreOneAnswer back (Some x)

-- (x - y) + y is `Some` of x, if x - y is `Some`
abbrev pub IsDifferenceUndone : {T : _} {i : _} {o : _} {e : _} {p : _} {h : _} → Reduced T i o e p h → Reduced T i o e p h → Type 0
IsDifferenceUndone {T} {i} {o} {e} {p} {h} x y =
    (difference : Reduced T i o e p h) (back : Option (Reduced T i o e p h)) → AnswersDifference x y (Some difference) → AnswersSum difference y back → AreOneAnswer back (Some x)

-- (x * y) / y is `Some` of x, if x * y is `Some` and y is not 0
abbrev pub IsProductUndone : {T : _} {i : _} {o : _} {e : _} {p : _} {h : _} → Reduced T i o e p h → Reduced T i o e p h → Type 0
IsProductUndone {T} {i} {o} {e} {p} {h} x y =
    (product : Reduced T i o e p h) (back : Option (Reduced T i o e p h))
    → numerator (ratio_of y) ≢ pos 0
    → AnswersProduct x y (Some product)
    → AnswersQuotient product y back
    → AreOneAnswer back (Some x)

-- (x / y) * y is `Some` of x, if x / y is `Some`
abbrev pub IsQuotientUndone : {T : _} {i : _} {o : _} {e : _} {p : _} {h : _} → Reduced T i o e p h → Reduced T i o e p h → Type 0
IsQuotientUndone {T} {i} {o} {e} {p} {h} x y =
    (quotient : Reduced T i o e p h) (back : Option (Reduced T i o e p h)) → AnswersQuotient x y (Some quotient) → AnswersProduct quotient y back → AreOneAnswer back (Some x)

-- x - x is `Some` of 0/1
abbrev pub IsZeroWithoutItself : {T : _} {i : _} {o : _} {e : _} {p : _} {h : _} → Reduced T i o e p h → Type 0
IsZeroWithoutItself {T} {i} {o} {e} {p} {h} x =
    (zero : Reduced T i o e p h) (difference : Option (Reduced T i o e p h)) → IsWhole (pos 0) (ratio_of zero) → AnswersDifference x x difference → AreOneAnswer difference (Some zero)

-- x - y and x + (-y) are one result, `None` included, if -y is `Some`
abbrev pub SubtractsByNegative : {T : _} {i : _} {o : _} {e : _} {p : _} {h : _} → Reduced T i o e p h → Reduced T i o e p h → Type 0
SubtractsByNegative {T} {i} {o} {e} {p} {h} x y =
    (negative : Reduced T i o e p h) (difference sum : Option (Reduced T i o e p h))
    → AnswersNegative y (Some negative)
    → AnswersDifference x y difference
    → AnswersSum x negative sum
    → AreOneAnswer difference sum

-- x / y and x times the reciprocal of y are one result, `None` included, if the reciprocal is `Some`
abbrev pub DividesByReciprocal : {T : _} {i : _} {o : _} {e : _} {p : _} {h : _} → Reduced T i o e p h → Reduced T i o e p h → Type 0
DividesByReciprocal {T} {i} {o} {e} {p} {h} x y =
    (reciprocal : Reduced T i o e p h) (quotient product : Option (Reduced T i o e p h))
    → AnswersReciprocal y (Some reciprocal)
    → AnswersQuotient x y quotient
    → AnswersProduct x reciprocal product
    → AreOneAnswer quotient product
