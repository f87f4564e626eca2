-- The laws of the nearest fraction.
use Rattle.std.specs.Prelude.{◌≡◌, ◌≤ℤ◌, ◌<ℤ◌, ℤ, pos}
use Rattle.ratio_integer.specs.Fraction.{IsLowestTerms, IsLowestTermsOf, SameValue}
use Rattle.ratio_approximation.specs.Nearest.{IsNearest}

-- Law: at most one fraction is nearest
abbrev pub OneIsNearest : Type 0
OneIsNearest = (n d most p q m e : ℤ) → IsNearest n d most p q → IsNearest n d most m e → (p ≡ m) × (q ≡ e)

-- Law: a nearest fraction is in lowest terms
-- Example: 6/4 within 10: 3/2
abbrev pub NearestIsLowest : Type 0
NearestIsLowest = (n d most p q : ℤ) → IsNearest n d most p q → IsLowestTerms p q

-- Law: if the denominator of the lowest terms is within the bound, these are nearest
-- Example: 6/4 within 10: 3/2
abbrev pub LowestIsNearest : Type 0
LowestIsNearest = (n d most a b : ℤ) → IsLowestTermsOf n d a b → b ≤ℤ most → IsNearest n d most a b

-- Law: fractions of one value, with positive denominators, have the same nearest fraction
abbrev pub SameValueSameNearest : Type 0
SameValueSameNearest = (n d m e most p q : ℤ) → pos 0 <ℤ d → pos 0 <ℤ e → SameValue n d m e → IsNearest n d most p q → IsNearest m e most p q
