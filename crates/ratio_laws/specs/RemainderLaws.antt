-- The remainder of `Reduced`. A premise only says what a call returned.
use Rattle.std.specs.Prelude.{◌*◌, ◌<◌, ◌≤ℤ◌, ◌+ℤ◌, ◌*ℤ◌, ℤ, pos, int_div, unsigned_abs, Option, Some}
use Rattle.ratio_integer.specs.Fraction.{SameValue}
use Rattle.num_rational.specs.declared.reduced.Reduced.{Reduced}
use Rattle.num_rational.specs.{Operators.ChecksLowestRemainder, Operators.numbers, Ratio.denominator, Ratio.numerator}
use Rattle.num_rational.specs.Reduced.{ratio_in, ratio_of}

-- the checked call for x % y (`checked_rem`) returns r
abbrev pub AnswersRemainder : {T : _} {i : _} {o : _} {e : _} {p : _} {h : _} → Reduced T i o e p h → Reduced T i o e p h → Option (Reduced T i o e p h) → Type 0
AnswersRemainder x y r = ChecksLowestRemainder (numbers (ratio_of x)) (numbers (ratio_of y)) (ratio_in r)

-- x / y, cut towards 0
-- Example: -7/2 by 2/3: -5
abbrev pub cut_quotient : {T : _} {i : _} {o : _} {e : _} {p : _} {h : _} → Reduced T i o e p h → Reduced T i o e p h → ℤ
cut_quotient x y = int_div (numerator (ratio_of x) *ℤ denominator (ratio_of y)) (denominator (ratio_of x) *ℤ numerator (ratio_of y))

-- x has the value of q * y + r
abbrev pub IsTimesPlus : {T : _} {i : _} {o : _} {e : _} {p : _} {h : _} → Reduced T i o e p h → ℤ → Reduced T i o e p h → Reduced T i o e p h → Type 0
IsTimesPlus x q y r =
    SameValue
    ((q *ℤ numerator (ratio_of y)) *ℤ denominator (ratio_of r) +ℤ numerator (ratio_of r) *ℤ denominator (ratio_of y)) (denominator (ratio_of y) *ℤ denominator (ratio_of r))
    (numerator (ratio_of x)) (denominator (ratio_of x))

-- x is q * y + x % y for the whole number q that is x / y cut towards 0, if x % y is `Some`
abbrev pub IsQuotientAndRest : {T : _} {i : _} {o : _} {e : _} {p : _} {h : _} → Reduced T i o e p h → Reduced T i o e p h → Type 0
IsQuotientAndRest {T} {i} {o} {e} {p} {h} x y = (rest : Reduced T i o e p h) → AnswersRemainder x y (Some rest) → IsTimesPlus x (cut_quotient x y) y rest

-- |x % y| is below |y|, if x % y is `Some`
abbrev pub HasSmallerRest : {T : _} {i : _} {o : _} {e : _} {p : _} {h : _} → Reduced T i o e p h → Reduced T i o e p h → Type 0
HasSmallerRest {T} {i} {o} {e} {p} {h} x y =
    (rest : Reduced T i o e p h)
    → AnswersRemainder x y (Some rest)
    → unsigned_abs (numerator (ratio_of rest)) * unsigned_abs (denominator (ratio_of y)) < unsigned_abs (numerator (ratio_of y)) * unsigned_abs (denominator (ratio_of rest))

-- x % y is 0 or has the sign of x, if x % y is `Some`
abbrev pub HasRestOnItsSide : {T : _} {i : _} {o : _} {e : _} {p : _} {h : _} → Reduced T i o e p h → Reduced T i o e p h → Type 0
HasRestOnItsSide {T} {i} {o} {e} {p} {h} x y =
    (rest : Reduced T i o e p h)
    → AnswersRemainder x y (Some rest)
    → (pos 0 ≤ℤ numerator (ratio_of x) → pos 0 ≤ℤ numerator (ratio_of rest)) × (numerator (ratio_of x) ≤ℤ pos 0 → numerator (ratio_of rest) ≤ℤ pos 0)
