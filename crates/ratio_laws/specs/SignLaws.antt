-- Negatives, absolute values and signs of `Reduced`. A premise only says what a call returned.
use Rattle.std.specs.Prelude.{◌≡◌, ◌≢◌, ◌*ℤ◌, ℤ, pos, Option, Some}
use Rattle.std.specs.declared.cmp.Ordering.TheVariants.{Greater}
use Rattle.ratio_core.specs.Signs.{IsSign}
use Rattle.num_rational.specs.declared.reduced.Reduced.{Reduced}
use Rattle.num_rational.specs.{Comparison.order_of, Ratio.denominator, Ratio.numerator, Reduced.ratio_of}
use Rattle.ratio_laws.specs.ReducedLaws.{AnswersAbsolute, AnswersNegative, AnswersProduct, AnswersSum, AreOneAnswer}

-- s is the sign of x: -1, 0 or 1
abbrev pub HasSign : {T : _} {i : _} {o : _} {e : _} {p : _} {h : _} → Reduced T i o e p h → ℤ → Type 0
HasSign x s = IsSign (numerator (ratio_of x)) (denominator (ratio_of x)) s

-- -(-x) is `Some` of x, if -x is `Some`
abbrev pub IsDoubleNegative : {T : _} {i : _} {o : _} {e : _} {p : _} {h : _} → Reduced T i o e p h → Type 0
IsDoubleNegative {T} {i} {o} {e} {p} {h} x =
    (negative : Reduced T i o e p h) (back : Option (Reduced T i o e p h)) → AnswersNegative x (Some negative) → AnswersNegative negative back → AreOneAnswer back (Some x)

-- |x * y| and |x| * |y| are one result, `None` included, if x * y, |x| and |y| are `Some`
abbrev pub MultipliesAbsolutes : {T : _} {i : _} {o : _} {e : _} {p : _} {h : _} → Reduced T i o e p h → Reduced T i o e p h → Type 0
MultipliesAbsolutes {T} {i} {o} {e} {p} {h} x y =
    (left right product : Reduced T i o e p h) (absolute other : Option (Reduced T i o e p h))
    → AnswersAbsolute x (Some left)
    → AnswersAbsolute y (Some right)
    → AnswersProduct x y (Some product)
    → AnswersAbsolute product absolute
    → AnswersProduct left right other
    → AreOneAnswer absolute other

-- |x + y| is not above |x| + |y|, if all these calls are `Some`
abbrev pub AddsAbsolutes : {T : _} {i : _} {o : _} {e : _} {p : _} {h : _} → Reduced T i o e p h → Reduced T i o e p h → Type 0
AddsAbsolutes {T} {i} {o} {e} {p} {h} x y =
    (left right sum absolute total : Reduced T i o e p h)
    → AnswersAbsolute x (Some left)
    → AnswersAbsolute y (Some right)
    → AnswersSum x y (Some sum)
    → AnswersAbsolute sum (Some absolute)
    → AnswersSum left right (Some total)
    → order_of (ratio_of absolute) (ratio_of total) ≢ Greater

-- |x| times the sign of x is `Some` of x, if |x| is `Some`
abbrev pub IsAbsoluteTimesSign : {T : _} {i : _} {o : _} {e : _} {p : _} {h : _} → Reduced T i o e p h → Type 0
IsAbsoluteTimesSign {T} {i} {o} {e} {p} {h} x =
    (absolute sign : Reduced T i o e p h) (product : Option (Reduced T i o e p h))
    → AnswersAbsolute x (Some absolute)
    → HasSign x (numerator (ratio_of sign))
    → denominator (ratio_of sign) ≡ pos 1
    → AnswersProduct absolute sign product
    → AreOneAnswer product (Some x)

-- the sign of x * y is the product of the signs, if x * y is `Some`
abbrev pub MultipliesSigns : {T : _} {i : _} {o : _} {e : _} {p : _} {h : _} → Reduced T i o e p h → Reduced T i o e p h → Type 0
MultipliesSigns {T} {i} {o} {e} {p} {h} x y =
    (product : Reduced T i o e p h) (left right sign : ℤ)
    → AnswersProduct x y (Some product)
    → HasSign x left
    → HasSign y right
    → HasSign product sign
    → sign ≡ left *ℤ right
