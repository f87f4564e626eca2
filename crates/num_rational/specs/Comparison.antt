-- How two fractions compare.
use Rattle.std.specs.Prelude.{◌≡◌, ◌*ℤ◌, Bool}
use Rattle.std.specs.Ordering.{int_eq}
use Rattle.std.specs.declared.cmp.Ordering.{Ordering}
use Rattle.ratio_integer.specs.Fraction.{IsLowestTerms, SameValue}
use Rattle.ratio_core.specs.Order.{cross_cmp}
use Rattle.num_rational.specs.declared.ratio.Ratio.{Ratio}
use Rattle.num_rational.specs.Ratio.{denominator, numerator}

-- the order of two fractions' values, by the cross products (`cross_cmp`)
-- Example: 1/2, 2/4: `Equal`
abbrev pub order_of : {T : _} {i : _} {o : _} {e : _} {p : _} {h : _} → Ratio T i o e p h → Ratio T i o e p h → Ordering
order_of x y = cross_cmp (numerator x) (denominator x) (numerator y) (denominator y)

-- the two have the same value
-- Example: 1/2, 2/4
abbrev pub AreEqual : {T : _} {i : _} {o : _} {e : _} {p : _} {h : _} → Ratio T i o e p h → Ratio T i o e p h → Type 0
AreEqual x y = SameValue (numerator x) (denominator x) (numerator y) (denominator y)

-- `AreEqual` as a `bool`
-- Example: 1/2, 2/4: true
abbrev pub same_value : {T : _} {i : _} {o : _} {e : _} {p : _} {h : _} → Ratio T i o e p h → Ratio T i o e p h → Bool
same_value x y = int_eq (numerator x *ℤ denominator y) (numerator y *ℤ denominator x)

-- the numerators are the same number, and so are the denominators
-- Example: not 1/2, 2/4
abbrev pub HaveSameFields : {T : _} {i : _} {o : _} {e : _} {p : _} {h : _} → Ratio T i o e p h → Ratio T i o e p h → Type 0
HaveSameFields x y = (numerator x ≡ numerator y) × (denominator x ≡ denominator y)

-- the fraction's own two numbers are in lowest terms (`IsLowestTerms`)
-- Example: 1/2; not 2/4
abbrev pub IsInLowestTerms : {T : _} {i : _} {o : _} {e : _} {p : _} {h : _} → Ratio T i o e p h → Type 0
IsInLowestTerms x = IsLowestTerms (numerator x) (denominator x)
