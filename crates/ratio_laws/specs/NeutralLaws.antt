-- 0 and 1 as operands and as exponents of `Reduced`. A premise only says what a call returned.
use Rattle.std.specs.Prelude.{pos, Option, Some}
use Rattle.num_rational.specs.declared.reduced.Reduced.{Reduced}
use Rattle.num_rational.specs.{Ratio.IsWhole, Reduced.ratio_of}
use Rattle.ratio_laws.specs.ReducedLaws.{AnswersPower, AnswersProduct, AnswersQuotient, AnswersSum, AreOneAnswer}

-- x + 0 and 0 + x are `Some` of x
abbrev pub IsKeptByZero : {T : _} {i : _} {o : _} {e : _} {p : _} {h : _} → Reduced T i o e p h → Type 0
IsKeptByZero {T} {i} {o} {e} {p} {h} x =
    (zero : Reduced T i o e p h) (right left : Option (Reduced T i o e p h))
    → IsWhole (pos 0) (ratio_of zero)
    → AnswersSum x zero right
    → AnswersSum zero x left
    → AreOneAnswer right (Some x) × AreOneAnswer left (Some x)

-- x * 1, 1 * x and x / 1 are `Some` of x
abbrev pub IsKeptByOne : {T : _} {i : _} {o : _} {e : _} {p : _} {h : _} → Reduced T i o e p h → Type 0
IsKeptByOne {T} {i} {o} {e} {p} {h} x =
    (one : Reduced T i o e p h) (right left quotient : Option (Reduced T i o e p h))
    → IsWhole (pos 1) (ratio_of one)
    → AnswersProduct x one right
    → AnswersProduct one x left
    → AnswersQuotient x one quotient
    → AreOneAnswer right (Some x) × AreOneAnswer left (Some x) × AreOneAnswer quotient (Some x)

-- x * 0 is `Some` of 0/1
abbrev pub IsZeroTimesZero : {T : _} {i : _} {o : _} {e : _} {p : _} {h : _} → Reduced T i o e p h → Type 0
IsZeroTimesZero {T} {i} {o} {e} {p} {h} x =
    (zero : Reduced T i o e p h) (product : Option (Reduced T i o e p h)) → IsWhole (pos 0) (ratio_of zero) → AnswersProduct x zero product → AreOneAnswer product (Some zero)

-- x to the 1 is `Some` of x, and x to the 0 is `Some` of 1/1
abbrev pub HasFirstPowers : {T : _} {i : _} {o : _} {e : _} {p : _} {h : _} → Reduced T i o e p h → Type 0
HasFirstPowers {T} {i} {o} {e} {p} {h} x =
    (one : Reduced T i o e p h) (first zeroth : Option (Reduced T i o e p h))
    → IsWhole (pos 1) (ratio_of one)
    → AnswersPower x (pos 1) first
    → AnswersPower x (pos 0) zeroth
    → AreOneAnswer first (Some x) × AreOneAnswer zeroth (Some one)
