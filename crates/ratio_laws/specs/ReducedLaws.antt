-- The laws of fractions that are always in lowest terms. A premise only says what a call returned.
use Rattle.std.specs.Prelude.{◌≡◌, ◌+ℤ◌, ℤ, pos, neg_ℤ, unsigned_abs, List, Option, None, Some, ⊤}
use Rattle.ratio_core.specs.ContinuedFraction.{IsPartialQuotients}
use Rattle.ratio_approximation.specs.FromQuotients.{ChecksFraction}
use Rattle.ratio_core.specs.{Power.ChecksReciprocal, Rounding.IsFractionalPart, Rounding.IsTruncation}
use Rattle.num_rational.specs.declared.reduced.Reduced.{Reduced}
use Rattle.num_rational.specs.Comparison.{HaveSameFields}
use Rattle.num_rational.specs.Operators.{ChecksExactDifference, ChecksExactSum, ChecksProduct, ChecksQuotient, numbers}
use Rattle.num_rational.specs.Powers.{ChecksExactPower}
use Rattle.num_rational.specs.Ratio.{ChecksRatio, IsWhole, denominator, numerator}
use Rattle.num_rational.specs.Reduced.{ratio_in, ratio_of}

-- the checked call for x + y returns r
abbrev pub AnswersSum : {T : _} {i : _} {o : _} {e : _} {p : _} {h : _} → Reduced T i o e p h → Reduced T i o e p h → Option (Reduced T i o e p h) → Type 0
AnswersSum x y r = ChecksExactSum (numbers (ratio_of x)) (numbers (ratio_of y)) (ratio_in r)

-- the checked call for x - y returns r
abbrev pub AnswersDifference : {T : _} {i : _} {o : _} {e : _} {p : _} {h : _} → Reduced T i o e p h → Reduced T i o e p h → Option (Reduced T i o e p h) → Type 0
AnswersDifference x y r = ChecksExactDifference (numbers (ratio_of x)) (numbers (ratio_of y)) (ratio_in r)

-- the checked call for x * y returns r
abbrev pub AnswersProduct : {T : _} {i : _} {o : _} {e : _} {p : _} {h : _} → Reduced T i o e p h → Reduced T i o e p h → Option (Reduced T i o e p h) → Type 0
AnswersProduct x y r = ChecksProduct (numbers (ratio_of x)) (numbers (ratio_of y)) (ratio_in r)

-- the checked call for x / y returns r
abbrev pub AnswersQuotient : {T : _} {i : _} {o : _} {e : _} {p : _} {h : _} → Reduced T i o e p h → Reduced T i o e p h → Option (Reduced T i o e p h) → Type 0
AnswersQuotient x y r = ChecksQuotient (numbers (ratio_of x)) (numbers (ratio_of y)) (ratio_in r)

-- the checked call for the negative of x returns r
abbrev pub AnswersNegative : {T : _} {i : _} {o : _} {e : _} {p : _} {h : _} → Reduced T i o e p h → Option (Reduced T i o e p h) → Type 0
AnswersNegative x r = ChecksRatio (neg_ℤ (numerator (ratio_of x)), denominator (ratio_of x)) (ratio_in r)

-- the checked call for the absolute value of x returns r
abbrev pub AnswersAbsolute : {T : _} {i : _} {o : _} {e : _} {p : _} {h : _} → Reduced T i o e p h → Option (Reduced T i o e p h) → Type 0
AnswersAbsolute x r = ChecksRatio (pos (unsigned_abs (numerator (ratio_of x))), denominator (ratio_of x)) (ratio_in r)

-- the checked call for x to the exponent returns r
abbrev pub AnswersPower : {T : _} {i : _} {o : _} {e : _} {p : _} {h : _} → Reduced T i o e p h → ℤ → Option (Reduced T i o e p h) → Type 0
AnswersPower x exponent r = ChecksExactPower (ratio_of x) exponent (ratio_in r)

-- the checked call for the reciprocal of x returns r
abbrev pub AnswersReciprocal : {T : _} {i : _} {o : _} {e : _} {p : _} {h : _} → Reduced T i o e p h → Option (Reduced T i o e p h) → Type 0
AnswersReciprocal {i = i} x r = ChecksReciprocal numerator denominator i.lo i.hi (numerator (ratio_of x)) (denominator (ratio_of x)) (ratio_in r)

-- two results are *one*: both are `Some` with the same fields, or both are `None`
abbrev pub AreOneAnswer : {T : _} {i : _} {o : _} {e : _} {p : _} {h : _} → Option (Reduced T i o e p h) → Option (Reduced T i o e p h) → Type 0
AreOneAnswer None None = ⊤
AreOneAnswer None (Some y) = ⊥
AreOneAnswer (Some x) None = ⊥
AreOneAnswer (Some x) (Some y) = HaveSameFields (ratio_of x) (ratio_of y)

-- x + y and y + x are one result, `None` included
abbrev pub CommutesInSum : {T : _} {i : _} {o : _} {e : _} {p : _} {h : _} → Reduced T i o e p h → Reduced T i o e p h → Type 0
CommutesInSum {T} {i} {o} {e} {p} {h} x y =
    (left right : Option (Reduced T i o e p h)) → AnswersSum x y left → AnswersSum y x right → AreOneAnswer left right

-- (x + y) + z and x + (y + z) are one result, `None` included, if x + y and y + z are `Some`
abbrev pub AssociatesInSum : {T : _} {i : _} {o : _} {e : _} {p : _} {h : _} → Reduced T i o e p h → Reduced T i o e p h → Reduced T i o e p h → Type 0
AssociatesInSum {T} {i} {o} {e} {p} {h} x y z =
    (xy yz : Reduced T i o e p h) (left right : Option (Reduced T i o e p h))
    → AnswersSum x y (Some xy)
    → AnswersSum y z (Some yz)
    → AnswersSum xy z left
    → AnswersSum x yz right
    → AreOneAnswer left right

-- x * y and y * x are one result, `None` included
abbrev pub CommutesInProduct : {T : _} {i : _} {o : _} {e : _} {p : _} {h : _} → Reduced T i o e p h → Reduced T i o e p h → Type 0
CommutesInProduct {T} {i} {o} {e} {p} {h} x y =
    (left right : Option (Reduced T i o e p h)) → AnswersProduct x y left → AnswersProduct y x right → AreOneAnswer left right

-- (x * y) * z and x * (y * z) are one result, `None` included, if x * y and y * z are `Some`
abbrev pub AssociatesInProduct : {T : _} {i : _} {o : _} {e : _} {p : _} {h : _} → Reduced T i o e p h → Reduced T i o e p h → Reduced T i o e p h → Type 0
AssociatesInProduct {T} {i} {o} {e} {p} {h} x y z =
    (xy yz : Reduced T i o e p h) (left right : Option (Reduced T i o e p h))
    → AnswersProduct x y (Some xy)
    → AnswersProduct y z (Some yz)
    → AnswersProduct xy z left
    → AnswersProduct x yz right
    → AreOneAnswer left right

-- x * (y + z) is x * y + x * z, if y + z and the right side are `Some`
abbrev pub DistributesOverSum : {T : _} {i : _} {o : _} {e : _} {p : _} {h : _} → Reduced T i o e p h → Reduced T i o e p h → Reduced T i o e p h → Type 0
DistributesOverSum {T} {i} {o} {e} {p} {h} x y z =
    (yz xy xz sum : Reduced T i o e p h) (product : Option (Reduced T i o e p h))
    → AnswersSum y z (Some yz)
    → AnswersProduct x y (Some xy)
    → AnswersProduct x z (Some xz)
    → AnswersSum xy xz (Some sum)
    → AnswersProduct x yz product
    → AreOneAnswer product (Some sum)

-- x to the e times x to the f and x to the e + f are one result, `None` included, if the first two powers are `Some`
-- Example: 2^2·2^3 and 2^5
abbrev pub AddsExponents : {T : _} {i : _} {o : _} {e : _} {p : _} {h : _} → Reduced T i o e p h → Type 0
AddsExponents {T} {i} {o} {e} {p} {h} x =
    (first second : ℤ) (left right : Reduced T i o e p h) (product whole : Option (Reduced T i o e p h))
    → AnswersPower x first (Some left)
    → AnswersPower x second (Some right)
    → AnswersPower x (first +ℤ second) whole
    → AnswersProduct left right product
    → AreOneAnswer product whole

-- x times its reciprocal is 1/1, if the reciprocal is `Some`
abbrev pub IsInvertedByReciprocal : {T : _} {i : _} {o : _} {e : _} {p : _} {h : _} → Reduced T i o e p h → Type 0
IsInvertedByReciprocal {T} {i} {o} {e} {p} {h} x =
    (one r : Reduced T i o e p h) (product : Option (Reduced T i o e p h))
    → IsWhole (pos 1) (ratio_of one)
    → AnswersReciprocal x (Some r)
    → AnswersProduct x r product
    → AreOneAnswer product (Some one)

-- what `trunc` and `fract` give of x add up to `Some` of x
abbrev pub IsSumOfParts : {T : _} {i : _} {o : _} {e : _} {p : _} {h : _} → Reduced T i o e p h → Type 0
IsSumOfParts {T} {i} {o} {e} {p} {h} x =
    (whole part : Reduced T i o e p h) (sum : Option (Reduced T i o e p h))
    → IsTruncation (numerator (ratio_of x)) (denominator (ratio_of x)) (numerator (ratio_of whole))
    → denominator (ratio_of whole) ≡ pos 1
    → IsFractionalPart (numerator (ratio_of x)) (denominator (ratio_of x)) (numerator (ratio_of part))
    → denominator (ratio_of part) ≡ denominator (ratio_of x)
    → AnswersSum whole part sum
    → AreOneAnswer sum (Some x)

-- the fraction with the quotients of x is `Some` of x
-- Example: 4, 2, 6, 7: `Some(415/93)`
abbrev pub ComesFromQuotients : {T : _} {i : _} {o : _} {e : _} {p : _} {h : _} → Reduced T i o e p h → Type 0
ComesFromQuotients {T} {i} {o} {e} {p} {h} x =
    (qs : List ℤ) (r : Option (Reduced T i o e p h))
    → IsPartialQuotients (numerator (ratio_of x)) (denominator (ratio_of x)) qs
    → ChecksFraction numerator denominator i.lo i.hi qs (ratio_in r)
    → AreOneAnswer r (Some x)
