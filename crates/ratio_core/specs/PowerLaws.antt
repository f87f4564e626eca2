-- The laws of reciprocals, powers and the two parts of a fraction. A fraction is a pair here.
use Rattle.std.specs.Prelude.{◌≡◌, ◌≢◌, ◌<ℤ◌, ◌+◌, ◌+ℤ◌, ◌*ℤ◌, ℕ, ℤ, Bool, pos}
use Rattle.std.specs.Int.{int_pow}
use Rattle.ratio_integer.specs.{Arithmetic.product_of, Fraction.SameValue, Range.IsHeld, Range.IsRange}
use Rattle.ratio_core.specs.{Conditions.SumCondition, Laws.IsProduct, Laws.IsSum}
use Rattle.ratio_core.specs.Power.{IsPower, IsReciprocal, PowerCondition}
use Rattle.ratio_core.specs.Rounding.{IsFractionalPart, IsTruncation}

-- Law: z to the 0 is 1, and z to the m + 1 is z to the m times z
-- Example: 2^3 is 2^2·2
abbrev pub PowersAreProducts : Type 0
PowersAreProducts = (z : ℤ) → (int_pow z 0 ≡ pos 1) × ((m : ℕ) → int_pow z (m + 1) ≡ int_pow z m *ℤ z)

-- Law: x to the e + f has the value of x to the e times x to the f, if `PowerCondition` holds of all three
abbrev pub PowersAdd : Type 0
PowersAdd =
    (lo hi n d e f : ℤ) (x y z : ℤ × ℤ)
    → pos 0 <ℤ d
    → PowerCondition lo hi n d e
    → PowerCondition lo hi n d f
    → PowerCondition lo hi n d (e +ℤ f)
    → IsPower n d e x.0 x.1
    → IsPower n d f y.0 y.1
    → IsPower n d (e +ℤ f) z.0 z.1
    → SameValue (product_of x.0 x.1 y.0 y.1).0 (product_of x.0 x.1 y.0 y.1).1 z.0 z.1

-- Law: x times its reciprocal is 1/1, for x not 0
abbrev pub ReciprocalsInvert : Type 0
ReciprocalsInvert = (n d a b : ℤ) → pos 0 <ℤ d → n ≢ pos 0 → IsReciprocal n d a b → IsProduct (n, d) (a, b) (pos 1, pos 1)

-- Law: x, which is n/d, is its truncation plus its fractional part over d
-- Example: -3 + -1/2 is -7/2
abbrev pub PartsAddUp : Type 0
PartsAddUp = (n d t f : ℤ) (z : ℤ × ℤ) → pos 0 <ℤ d → IsTruncation n d t → IsFractionalPart n d f → IsSum (t, pos 1) (f, d) z → SameValue n d z.0 z.1

-- Law: this sum is always `Some` (`SumCondition` holds), if both numbers of x are in range
abbrev pub PartsAreAnswered : Type 0
PartsAreAnswered =
    (exact : Bool) (lo hi n d t f : ℤ)
    → IsRange lo hi
    → IsHeld lo hi n
    → IsHeld lo hi d
    → pos 0 <ℤ d
    → IsTruncation n d t
    → IsFractionalPart n d f
    → SumCondition exact lo hi t (pos 1) f d
