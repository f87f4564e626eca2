-- Powers of `Reduced`. A premise only says what a call returned.
use Rattle.std.specs.Prelude.{◌≡◌, ◌<ℤ◌, ◌*ℤ◌, ℤ, pos, neg_ℤ, Option, None, Some}
use Rattle.num_rational.specs.declared.reduced.Reduced.{Reduced}
use Rattle.ratio_laws.specs.ReducedLaws.{AnswersPower, AnswersProduct, AnswersReciprocal, AreOneAnswer}

-- (x to the e) to the f and x to the e * f are one result, `None` included, if x to the e is `Some`
abbrev pub MultipliesExponents : {T : _} {i : _} {o : _} {e : _} {p : _} {h : _} → Reduced T i o e p h → Type 0
MultipliesExponents {T} {i} {o} {e} {p} {h} x =
    (first second : ℤ) (power : Reduced T i o e p h) (twice once : Option (Reduced T i o e p h))
    → AnswersPower x first (Some power)
    → AnswersPower power second twice
    → AnswersPower x (first *ℤ second) once
    → AreOneAnswer twice once

-- x * y to the exponent, and the product of the powers of x and y, are one result, `None` included, if x * y and these powers are `Some`
abbrev pub MultipliesPowers : {T : _} {i : _} {o : _} {e : _} {p : _} {h : _} → Reduced T i o e p h → Reduced T i o e p h → Type 0
MultipliesPowers {T} {i} {o} {e} {p} {h} x y =
    (exponent : ℤ) (product left right : Reduced T i o e p h) (power other : Option (Reduced T i o e p h))
    → AnswersProduct x y (Some product)
    → AnswersPower x exponent (Some left)
    → AnswersPower y exponent (Some right)
    → AnswersPower product exponent power
    → AnswersProduct left right other
    → AreOneAnswer power other

-- x to an exponent below 0, and the reciprocal of x to its negative, are one result, `None` included, if the reciprocal is `Some`
abbrev pub IsPowerOfReciprocal : {T : _} {i : _} {o : _} {e : _} {p : _} {h : _} → Reduced T i o e p h → Type 0
IsPowerOfReciprocal {T} {i} {o} {e} {p} {h} x =
    (exponent : ℤ) (reciprocal : Reduced T i o e p h) (power other : Option (Reduced T i o e p h))
    → exponent <ℤ pos 0
    → AnswersReciprocal x (Some reciprocal)
    → AnswersPower x exponent power
    → AnswersPower reciprocal (neg_ℤ exponent) other
    → AreOneAnswer power other

-- x to an exponent below 0 is `None`, if its reciprocal is `None`
abbrev pub HasNoPowerBelowZero : {T : _} {i : _} {o : _} {e : _} {p : _} {h : _} → Reduced T i o e p h → Type 0
HasNoPowerBelowZero {T} {i} {o} {e} {p} {h} x =
    (exponent : ℤ) (power : Option (Reduced T i o e p h)) → exponent <ℤ pos 0 → AnswersReciprocal x None → AnswersPower x exponent power → power ≡ None

-- x to the negative of the exponent, and the reciprocal of x to the exponent, are one result, `None` included, if that power is `Some`
-- Example: not for (-1/2)^7: `None`
abbrev pub IsReciprocalOfPower : {T : _} {i : _} {o : _} {e : _} {p : _} {h : _} → Reduced T i o e p h → Type 0
IsReciprocalOfPower {T} {i} {o} {e} {p} {h} x =
    (exponent : ℤ) (power : Reduced T i o e p h) (negative reciprocal : Option (Reduced T i o e p h))
    → AnswersPower x exponent (Some power)
    → AnswersPower x (neg_ℤ exponent) negative
    → AnswersReciprocal power reciprocal
    → AreOneAnswer negative reciprocal
