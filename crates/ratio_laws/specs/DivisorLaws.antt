-- Greatest common divisors and least common multiples of `Reduced`. A premise only says what a call returned.
use Rattle.std.specs.Prelude.{◌≡◌, ◌≢◌, ◌<ℤ◌, pos, Option, Some}
use Rattle.std.specs.declared.cmp.Ordering.TheVariants.{Greater}
use Rattle.ratio_core.specs.Divisors.{DividesFraction}
use Rattle.num_rational.specs.declared.reduced.Reduced.{Reduced}
use Rattle.num_rational.specs.Comparison.{order_of}
use Rattle.num_rational.specs.Operators.{ChecksFractionGcd, ChecksFractionLcm, numbers}
use Rattle.num_rational.specs.{Ratio.denominator, Ratio.numerator, Reduced.ratio_in, Reduced.ratio_of}
use Rattle.ratio_laws.specs.ReducedLaws.{AnswersAbsolute, AnswersProduct, AnswersQuotient, AreOneAnswer}

-- the checked call for the greatest common divisor of x and y (`checked_gcd`) returns r
abbrev pub AnswersGcd : {T : _} {i : _} {o : _} {e : _} {p : _} {h : _} → Reduced T i o e p h → Reduced T i o e p h → Option (Reduced T i o e p h) → Type 0
AnswersGcd x y r = ChecksFractionGcd (numbers (ratio_of x)) (numbers (ratio_of y)) (ratio_in r)

-- the checked call for the least common multiple of x and y (`checked_lcm`) returns r
abbrev pub AnswersLcm : {T : _} {i : _} {o : _} {e : _} {p : _} {h : _} → Reduced T i o e p h → Reduced T i o e p h → Option (Reduced T i o e p h) → Type 0
AnswersLcm x y r = ChecksFractionLcm (numbers (ratio_of x)) (numbers (ratio_of y)) (ratio_in r)

-- x divides y: y is a whole number times x
-- Example: 1/12 and 1/4
abbrev pub Divides : {T : _} {i : _} {o : _} {e : _} {p : _} {h : _} → Reduced T i o e p h → Reduced T i o e p h → Type 0
Divides x y = DividesFraction (numerator (ratio_of x)) (denominator (ratio_of x)) (numerator (ratio_of y)) (denominator (ratio_of y))

-- the greatest common divisor divides x and y, if it is `Some`
abbrev pub HasDivisorOfBoth : {T : _} {i : _} {o : _} {e : _} {p : _} {h : _} → Reduced T i o e p h → Reduced T i o e p h → Type 0
HasDivisorOfBoth {T} {i} {o} {e} {p} {h} x y = (divisor : Reduced T i o e p h) → AnswersGcd x y (Some divisor) → Divides divisor x × Divides divisor y

-- no fraction above the greatest common divisor divides x and y, if it is `Some` and not 0
abbrev pub HasNoDivisorAbove : {T : _} {i : _} {o : _} {e : _} {p : _} {h : _} → Reduced T i o e p h → Reduced T i o e p h → Type 0
HasNoDivisorAbove {T} {i} {o} {e} {p} {h} x y =
    (divisor other : Reduced T i o e p h)
    → AnswersGcd x y (Some divisor)
    → numerator (ratio_of divisor) ≢ pos 0
    → Divides other x
    → Divides other y
    → order_of (ratio_of other) (ratio_of divisor) ≢ Greater

-- x by the greatest common divisor of x and y is a whole number, if both calls are `Some`
abbrev pub IsWholeByDivisor : {T : _} {i : _} {o : _} {e : _} {p : _} {h : _} → Reduced T i o e p h → Reduced T i o e p h → Type 0
IsWholeByDivisor {T} {i} {o} {e} {p} {h} x y =
    (divisor quotient : Reduced T i o e p h) → AnswersGcd x y (Some divisor) → AnswersQuotient x divisor (Some quotient) → denominator (ratio_of quotient) ≡ pos 1

-- x and y divide the least common multiple, if it is `Some`
abbrev pub HasMultipleOfBoth : {T : _} {i : _} {o : _} {e : _} {p : _} {h : _} → Reduced T i o e p h → Reduced T i o e p h → Type 0
HasMultipleOfBoth {T} {i} {o} {e} {p} {h} x y = (multiple : Reduced T i o e p h) → AnswersLcm x y (Some multiple) → Divides x multiple × Divides y multiple

-- x and y do not both divide a fraction above 0 and below the least common multiple, if it is `Some`
abbrev pub HasNoMultipleBelow : {T : _} {i : _} {o : _} {e : _} {p : _} {h : _} → Reduced T i o e p h → Reduced T i o e p h → Type 0
HasNoMultipleBelow {T} {i} {o} {e} {p} {h} x y =
    (multiple other : Reduced T i o e p h)
    → AnswersLcm x y (Some multiple)
    → pos 0 <ℤ numerator (ratio_of other)
    → Divides x other
    → Divides y other
    → order_of (ratio_of multiple) (ratio_of other) ≢ Greater

-- the greatest common divisor times the least common multiple is |x * y|, `None` included, if these two and x * y are `Some`
-- Example: 1/4 and 1/6: 1/12 times 1/2 is 1/24
abbrev pub MultipliesToProduct : {T : _} {i : _} {o : _} {e : _} {p : _} {h : _} → Reduced T i o e p h → Reduced T i o e p h → Type 0
MultipliesToProduct {T} {i} {o} {e} {p} {h} x y =
    (divisor multiple product : Reduced T i o e p h) (left right : Option (Reduced T i o e p h))
    → AnswersGcd x y (Some divisor)
    → AnswersLcm x y (Some multiple)
    → AnswersProduct x y (Some product)
    → AnswersProduct divisor multiple left
    → AnswersAbsolute product right
    → AreOneAnswer left right
