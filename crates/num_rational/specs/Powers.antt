-- The reciprocal and the powers of a fraction.
use Rattle.std.specs.Prelude.{◌≢◌, ◌<ℤ◌, ℤ, pos, neg_ℤ, Option}
use Rattle.ratio_integer.specs.Range.{IsHeld}
use Rattle.ratio_core.specs.Power.{ChecksPower, IsPower, IsReciprocal, power_of}
use Rattle.num_rational.specs.declared.ratio.Ratio.{Ratio}
use Rattle.num_rational.specs.Ratio.{ChecksRatio, denominator, numerator}

-- what `recip` requires: the denominator is positive, and the numerator has its `ReciprocalCondition`
-- Example: not -128/3
pub record CanInvert {T : _} {i : _} {o : _} {e : _} {p : _} {h : _} (x : Ratio T i o e p h) : Type 0 where
  pub positive : pos 0 <ℤ denominator x
  pub nonzero : numerator x ≢ pos 0
  pub held : numerator x <ℤ pos 0 → IsHeld i.lo i.hi (neg_ℤ (numerator x))

-- r is the reciprocal of x, not reduced (`IsReciprocal`)
abbrev pub GivesReciprocal : {T : _} {i : _} {o : _} {e : _} {p : _} {h : _} → Ratio T i o e p h → Ratio T i o e p h → Type 0
GivesReciprocal x r = IsReciprocal (numerator x) (denominator x) (numerator r) (denominator r)

-- r is x to the exponent, not reduced (`IsPower`)
abbrev pub GivesPower : {T : _} {i : _} {o : _} {e : _} {p : _} {h : _} → Ratio T i o e p h → ℤ → Ratio T i o e p h → Type 0
GivesPower x exponent r = IsPower (numerator x) (denominator x) exponent (numerator r) (denominator r)

-- the result is x to the exponent, not reduced, if `PowerCondition` holds, and else `None` (`ChecksPower`)
abbrev pub ChecksRatioPower : {T : _} {i : _} {o : _} {e : _} {p : _} {h : _} → Ratio T i o e p h → ℤ → Option (Ratio T i o e p h) → Type 0
ChecksRatioPower {i = i} x exponent result = ChecksPower numerator denominator i.lo i.hi (numerator x) (denominator x) exponent result

-- the result is x to the exponent in lowest terms if these are in range, and else `None`. 0 to an exponent below 0 has no lowest terms
-- Example: (-1/2)^-7: `Some(-128/1)`
abbrev pub ChecksExactPower : {T : _} {i : _} {o : _} {e : _} {p : _} {h : _} → Ratio T i o e p h → ℤ → Option (Ratio T i o e p h) → Type 0
ChecksExactPower x exponent result = ChecksRatio (power_of (numerator x) (denominator x) exponent) result
