-- Fractions as `Ratio` with equal values, whatever their fields. A premise only says what a call returned.
use Rattle.std.specs.Prelude.{◌≡◌, ◌<ℤ◌, ℤ, pos, true, Option, None, Some, ⊤}
use Rattle.ratio_approximation.specs.Nearest.{IsNearest}
use Rattle.num_rational.specs.declared.ratio.Ratio.{Ratio}
use Rattle.num_rational.specs.Comparison.{AreEqual, HaveSameFields}
use Rattle.num_rational.specs.Operators.{ChecksDifference, ChecksProduct, ChecksQuotient, ChecksSum, numbers}
use Rattle.num_rational.specs.Ratio.{denominator, numerator}

-- two results that are a `Ratio` are *one*: both are `Some` with the same fields, or both are `None`
abbrev pub AreOneResult : {T : _} {i : _} {o : _} {e : _} {p : _} {h : _} → Option (Ratio T i o e p h) → Option (Ratio T i o e p h) → Type 0
AreOneResult None None = ⊤
AreOneResult None (Some y) = ⊥
AreOneResult (Some x) None = ⊥
AreOneResult (Some x) (Some y) = HaveSameFields x y

-- x * y and u * v are one result, `None` included, if x and u are equal, and y and v are
-- Example: 2/4·4/6 and 1/2·2/3
abbrev pub MultipliesByValue : {T : _} {i : _} {o : _} {e : _} {p : _} {h : _} → (x y u v : Ratio T i o e p h) → Type 0
MultipliesByValue {T} {i} {o} {e} {p} {h} x y u v =
    (first second : Option (Ratio T i o e p h))
    → AreEqual x u
    → AreEqual y v
    → ChecksProduct (numbers x) (numbers y) first
    → ChecksProduct (numbers u) (numbers v) second
    → AreOneResult first second

-- x / y and u / v are one result, `None` included, if x and u are equal, and y and v are
abbrev pub DividesByValue : {T : _} {i : _} {o : _} {e : _} {p : _} {h : _} → (x y u v : Ratio T i o e p h) → Type 0
DividesByValue {T} {i} {o} {e} {p} {h} x y u v =
    (first second : Option (Ratio T i o e p h))
    → AreEqual x u
    → AreEqual y v
    → ChecksQuotient (numbers x) (numbers y) first
    → ChecksQuotient (numbers u) (numbers v) second
    → AreOneResult first second

-- x + y and u + v are one result, `None` included, if x and u are equal, and y and v are, over a type of exact sums (`EXACT_SUMS` is true)
abbrev pub AddsByValue : {T : _} {i : _} {o : _} {e : _} {p : _} {h : _} → (x y u v : Ratio T i o e p h) → Type 0
AddsByValue {T} {i} {o} {e} {p} {h} x y u v =
    (first second : Option (Ratio T i o e p h))
    → i.EXACT_SUMS ≡ true
    → AreEqual x u
    → AreEqual y v
    → ChecksSum (numbers x) (numbers y) first
    → ChecksSum (numbers u) (numbers v) second
    → AreOneResult first second

-- x - y and u - v are one result, `None` included, if x and u are equal, and y and v are, over a type of exact sums (`EXACT_SUMS` is true)
abbrev pub SubtractsByValue : {T : _} {i : _} {o : _} {e : _} {p : _} {h : _} → (x y u v : Ratio T i o e p h) → Type 0
SubtractsByValue {T} {i} {o} {e} {p} {h} x y u v =
    (first second : Option (Ratio T i o e p h))
    → i.EXACT_SUMS ≡ true
    → AreEqual x u
    → AreEqual y v
    → ChecksDifference (numbers x) (numbers y) first
    → ChecksDifference (numbers u) (numbers v) second
    → AreOneResult first second

-- equal fractions with positive denominators have the same nearest fraction, for the same bound
abbrev pub IsNearestByValue : {T : _} {i : _} {o : _} {e : _} {p : _} {h : _} → (x u : Ratio T i o e p h) → Type 0
IsNearestByValue {T} {i} {o} {e} {p} {h} x u =
    (most : ℤ) (first second : Ratio T i o e p h)
    → pos 0 <ℤ denominator x
    → pos 0 <ℤ denominator u
    → AreEqual x u
    → IsNearest (numerator x) (denominator x) most (numerator first) (denominator first)
    → IsNearest (numerator u) (denominator u) most (numerator second) (denominator second)
    → HaveSameFields first second
