-- The laws of the simplest fraction within two bounds.
use Rattle.std.specs.Prelude.{◌≡◌, ◌↔◌, ℤ, ⊤}
use Rattle.std.specs.declared.ops.Bound.{Bound, TheVariants.Included, TheVariants.Excluded, TheVariants.Unbounded}
use Rattle.ratio_integer.specs.Fraction.{IsLowestTerms, SameValue}
use Rattle.ratio_approximation.specs.{Bounds.HasPositiveDenominator, Simplest.IsSimplest, SimplestWithin.IsSimplestWithin}

-- Law: at most one fraction is the simplest within the bounds
abbrev pub OneIsSimplestWithin : Type 0
OneIsSimplestWithin =
    (low high : Bound (ℤ × ℤ)) (p q a b : ℤ) → HasPositiveDenominator low → HasPositiveDenominator high → IsSimplestWithin low high p q → IsSimplestWithin low high a b
    → (p ≡ a) × (q ≡ b)

-- Law: the simplest fraction within the bounds is in lowest terms
abbrev pub SimplestWithinIsLowest : Type 0
SimplestWithinIsLowest = (low high : Bound (ℤ × ℤ)) (p q : ℤ) → HasPositiveDenominator low → HasPositiveDenominator high → IsSimplestWithin low high p q → IsLowestTerms p q

-- both bounds are included, both are excluded, or both are open, and their fractions have the same value
-- Example: above 1/2 and above 2/4
abbrev pub AreSameBounds : Bound (ℤ × ℤ) → Bound (ℤ × ℤ) → Type 0
AreSameBounds (Included x) (Included y) = SameValue x.0 x.1 y.0 y.1
AreSameBounds (Excluded x) (Excluded y) = SameValue x.0 x.1 y.0 y.1
AreSameBounds Unbounded Unbounded = ⊤
AreSameBounds (Included x) (Excluded y) = ⊥
AreSameBounds (Included x) Unbounded = ⊥
AreSameBounds (Excluded x) (Included y) = ⊥
AreSameBounds (Excluded x) Unbounded = ⊥
AreSameBounds Unbounded (Included y) = ⊥
AreSameBounds Unbounded (Excluded y) = ⊥

-- Law: bounds of the same values have the same simplest fraction within them
abbrev pub SameBoundsSameSimplest : Type 0
SameBoundsSameSimplest =
    (low high low' high' : Bound (ℤ × ℤ)) (p q : ℤ) → HasPositiveDenominator low → HasPositiveDenominator high → HasPositiveDenominator low' → HasPositiveDenominator high'
    → AreSameBounds low low' → AreSameBounds high high' → IsSimplestWithin low high p q → IsSimplestWithin low' high' p q

-- Law: within two excluded bounds, the simplest fraction is the simplest one strictly between them
abbrev pub ExcludedIsBetween : Type 0
ExcludedIsBetween = (n d m e p q : ℤ) → IsSimplestWithin (Excluded (n, d)) (Excluded (m, e)) p q ↔ IsSimplest n d m e p q
