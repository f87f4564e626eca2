-- The laws of the simplest fraction strictly between two fractions with positive denominators.
use Rattle.std.specs.Prelude.{◌≡◌, ◌<ℤ◌, ℤ, pos}
use Rattle.ratio_integer.specs.Fraction.{IsLowestTerms, SameValue}
use Rattle.ratio_approximation.specs.Simplest.{IsSimplest}

-- Law: at most one fraction is the simplest
abbrev pub OneIsSimplest : Type 0
OneIsSimplest = (n d m e p q a b : ℤ) → pos 0 <ℤ d → pos 0 <ℤ e → IsSimplest n d m e p q → IsSimplest n d m e a b → (p ≡ a) × (q ≡ b)

-- Law: the simplest fraction is in lowest terms
abbrev pub SimplestIsLowest : Type 0
SimplestIsLowest = (n d m e p q : ℤ) → pos 0 <ℤ d → pos 0 <ℤ e → IsSimplest n d m e p q → IsLowestTerms p q

-- Law: ends of the same values have the same simplest fraction between them
abbrev pub SameValuesSameSimplest : Type 0
SameValuesSameSimplest =
    (n d m e n' d' m' e' p q : ℤ) → pos 0 <ℤ d → pos 0 <ℤ e → pos 0 <ℤ d' → pos 0 <ℤ e' → SameValue n d n' d' → SameValue m e m' e' → IsSimplest n d m e p q
    → IsSimplest n' d' m' e' p q
