-- The negative of a fraction.
use Rattle.std.specs.Prelude.{◌≡◌, neg_ℤ}
use Rattle.num_rational.specs.declared.ratio.Ratio.{Ratio}
use Rattle.num_rational.specs.Ratio.{denominator, numerator}

-- r is -x over the same denominator
-- Example: 2/4: -2/4
abbrev pub IsNegated : {T : _} {i : _} {o : _} {e : _} {p : _} {h : _} → Ratio T i o e p h → Ratio T i o e p h → Type 0
IsNegated x r = (numerator r ≡ neg_ℤ (numerator x)) × (denominator r ≡ denominator x)
