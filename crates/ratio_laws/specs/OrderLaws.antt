-- The order of results of `Reduced`. A premise only says what a call returned.
use Rattle.std.specs.Prelude.{◌≡◌, ◌<ℤ◌, pos, Some}
use Rattle.num_rational.specs.declared.reduced.Reduced.{Reduced}
use Rattle.num_rational.specs.{Comparison.order_of, Ratio.numerator, Reduced.ratio_of}
use Rattle.ratio_laws.specs.ReducedLaws.{AnswersNegative, AnswersProduct, AnswersSum}

-- x + z and y + z have the order of x and y, if both are `Some`
abbrev pub AddsInOrder : {T : _} {i : _} {o : _} {e : _} {p : _} {h : _} → Reduced T i o e p h → Reduced T i o e p h → Reduced T i o e p h → Type 0
AddsInOrder {T} {i} {o} {e} {p} {h} x y z =
    (left right : Reduced T i o e p h)
    → AnswersSum x z (Some left)
    → AnswersSum y z (Some right)
    → order_of (ratio_of left) (ratio_of right) ≡ order_of (ratio_of x) (ratio_of y)

-- x * z and y * z have the order of x and y, if both are `Some` and z is above 0
abbrev pub MultipliesInOrder : {T : _} {i : _} {o : _} {e : _} {p : _} {h : _} → Reduced T i o e p h → Reduced T i o e p h → Reduced T i o e p h → Type 0
MultipliesInOrder {T} {i} {o} {e} {p} {h} x y z =
    (left right : Reduced T i o e p h)
    → pos 0 <ℤ numerator (ratio_of z)
    → AnswersProduct x z (Some left)
    → AnswersProduct y z (Some right)
    → order_of (ratio_of left) (ratio_of right) ≡ order_of (ratio_of x) (ratio_of y)

-- x * z and y * z have the order of y and x, if both are `Some` and z is below 0
abbrev pub MultipliesInReverse : {T : _} {i : _} {o : _} {e : _} {p : _} {h : _} → Reduced T i o e p h → Reduced T i o e p h → Reduced T i o e p h → Type 0
MultipliesInReverse {T} {i} {o} {e} {p} {h} x y z =
    (left right : Reduced T i o e p h)
    → numerator (ratio_of z) <ℤ pos 0
    → AnswersProduct x z (Some left)
    → AnswersProduct y z (Some right)
    → order_of (ratio_of left) (ratio_of right) ≡ order_of (ratio_of y) (ratio_of x)

-- -x and -y have the order of y and x, if both are `Some`
abbrev pub NegatesInReverse : {T : _} {i : _} {o : _} {e : _} {p : _} {h : _} → Reduced T i o e p h → Reduced T i o e p h → Type 0
NegatesInReverse {T} {i} {o} {e} {p} {h} x y =
    (left right : Reduced T i o e p h)
    → AnswersNegative x (Some left)
    → AnswersNegative y (Some right)
    → order_of (ratio_of left) (ratio_of right) ≡ order_of (ratio_of y) (ratio_of x)
