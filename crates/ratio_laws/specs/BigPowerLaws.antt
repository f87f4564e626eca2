-- The laws of powers of fractions of any size, for all whole numbers as exponents. A fraction is a pair here, and a premise only says what a
-- call returned.
use Rattle.std.specs.Prelude.{◌≡◌, ◌↔◌, ◌+ℤ◌, ◌*ℤ◌, ℤ, pos, neg_ℤ, Option, None}
use Rattle.ratio_core.specs.Laws.{IsProduct}
use Rattle.ratio_core.specs.Power.{power_of}
use Rattle.ratio_big.specs.Powers.{GivesBigPower, HasNoPower}
use Rattle.ratio_big.specs.Values.{HasTerms}
use Rattle.ratio_big.specs.declared.fraction.BigFraction.{BigFraction}
use Rattle.ratio_laws.specs.BigFieldLaws.{IsReciprocalOf}

-- z is x to the exponent in lowest terms, so x is not 0 if the exponent is below 0
-- Example: 2/3 to the -2: 9/4
abbrev pub IsPowerOf : ℤ × ℤ → ℤ → ℤ × ℤ → Type 0
IsPowerOf x exponent z = HasTerms (power_of x.0 x.1 exponent) z

-- x to the 1 is x, and x to the 0 is 1
abbrev pub HasSmallPowers : ℤ × ℤ → Type 0
HasSmallPowers x = (first zeroth : ℤ × ℤ) → IsPowerOf x (pos 1) first → IsPowerOf x (pos 0) zeroth → (first ≡ x) × (zeroth ≡ (pos 1, pos 1))

-- x to the e + f is x to the e times x to the f
-- Example: 2^5 is 2^2·2^3
abbrev pub SplitsExponentSum : ℤ × ℤ → Type 0
SplitsExponentSum x =
    (e f : ℤ) (whole left right product : ℤ × ℤ)
    → IsPowerOf x (e +ℤ f) whole
    → IsPowerOf x e left
    → IsPowerOf x f right
    → IsProduct left right product
    → whole ≡ product

-- x to the e * f is x to the e, to the f
-- Example: 2^6 is 4^3
abbrev pub SplitsExponentProduct : ℤ × ℤ → Type 0
SplitsExponentProduct x = (e f : ℤ) (once power twice : ℤ × ℤ) → IsPowerOf x (e *ℤ f) once → IsPowerOf x e power → IsPowerOf power f twice → once ≡ twice

-- x∘y to an exponent is the power of x ∘ the power of y, where ∘ is the call
-- Example: (x * y)^2 is x^2 * y^2
abbrev pub SplitsPower : (ℤ × ℤ → ℤ × ℤ → ℤ × ℤ → Type 0) → ℤ × ℤ → ℤ × ℤ → Type 0
SplitsPower Call x y =
    (exponent : ℤ) (both power left right other : ℤ × ℤ)
    → Call x y both
    → IsPowerOf both exponent power
    → IsPowerOf x exponent left
    → IsPowerOf y exponent right
    → Call left right other
    → power ≡ other

-- x to the negative of an exponent is the reciprocal of the power
-- Example: 2^-3 is 1/8
abbrev pub TurnsPower : ℤ × ℤ → Type 0
TurnsPower x =
    (exponent : ℤ) (power reciprocal negative : ℤ × ℤ) → IsPowerOf x exponent power → IsReciprocalOf power reciprocal → IsPowerOf x (neg_ℤ exponent) negative → negative ≡ reciprocal

-- x to an exponent is `None` exactly if x is 0 and the exponent below 0
abbrev pub IsRefusedByNoPower : ℤ × ℤ → Type 0
IsRefusedByNoPower x = (exponent : ℤ) (power : Option BigFraction) → GivesBigPower x exponent power → (power ≡ None) ↔ HasNoPower x exponent
