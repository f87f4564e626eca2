-- The laws of sums and products of fractions in lowest terms. A fraction is a pair here.
use Rattle.std.specs.Prelude.{◌≡◌, ◌<ℤ◌, ℤ, Bool, pos}
use Rattle.ratio_integer.specs.Arithmetic.{DifferenceHeld, SumHeld, difference_of, product_of, sum_of}
use Rattle.ratio_integer.specs.{Fraction.Fits, Fraction.IsLowestTermsOf, Range.IsRange}
use Rattle.ratio_core.specs.Conditions.{SumCondition}

-- z is x + y in lowest terms
-- Example: 1/2 and 1/6: 2/3
abbrev pub IsSum : ℤ × ℤ → ℤ × ℤ → ℤ × ℤ → Type 0
IsSum x y z = IsLowestTermsOf (sum_of x.0 x.1 y.0 y.1).0 (sum_of x.0 x.1 y.0 y.1).1 z.0 z.1

-- z is x * y in lowest terms
-- Example: 1/2 and 1/6: 1/12
abbrev pub IsProduct : ℤ × ℤ → ℤ × ℤ → ℤ × ℤ → Type 0
IsProduct x y z = IsLowestTermsOf (product_of x.0 x.1 y.0 y.1).0 (product_of x.0 x.1 y.0 y.1).1 z.0 z.1

-- Law: x + y is y + x, in lowest terms
abbrev pub SumsCommute : Type 0
SumsCommute = (x y left right : ℤ × ℤ) → IsSum x y left → IsSum y x right → left ≡ right

-- Law: (x + y) + z is x + (y + z) in lowest terms, if all four sums are `Some`
abbrev pub SumsAssociate : Type 0
SumsAssociate =
    (x y z xy yz left right : ℤ × ℤ) → IsSum x y xy → IsSum xy z left → IsSum y z yz → IsSum x yz right → left ≡ right

-- Law: x * y is y * x, in lowest terms
abbrev pub ProductsCommute : Type 0
ProductsCommute = (x y left right : ℤ × ℤ) → IsProduct x y left → IsProduct y x right → left ≡ right

-- Law: (x * y) * z is x * (y * z), in lowest terms
abbrev pub ProductsAssociate : Type 0
ProductsAssociate =
    (x y z xy yz left right : ℤ × ℤ) → IsProduct x y xy → IsProduct xy z left → IsProduct y z yz → IsProduct x yz right → left ≡ right

-- Law: x * (y + z) is x * y + x * z, in lowest terms
abbrev pub ProductsDistribute : Type 0
ProductsDistribute =
    (x y z yz left xy xz right : ℤ × ℤ)
    → IsSum y z yz
    → IsProduct x yz left
    → IsProduct x y xy
    → IsProduct x z xz
    → IsSum xy xz right
    → left ≡ right

-- Law: if `SumCondition` holds of x and y, it holds of y and x
abbrev pub SumConditionsCommute : Type 0
SumConditionsCommute = (exact : Bool) (lo hi a b c d : ℤ) → SumCondition exact lo hi a b c d → SumCondition exact lo hi c d a b

-- Law: a sum computed over the least common denominator (`SumHeld`) of positive denominators fits, so a type of exact sums loses no result
abbrev pub FormedSumsFit : Type 0
FormedSumsFit =
    (lo hi a b c d : ℤ)
    → IsRange lo hi
    → pos 0 <ℤ b
    → pos 0 <ℤ d
    → SumHeld lo hi a b c d
    → Fits lo hi (sum_of a b c d).0 (sum_of a b c d).1

-- Law: a difference computed over the least common denominator (`DifferenceHeld`) of positive denominators fits
abbrev pub FormedDifferencesFit : Type 0
FormedDifferencesFit =
    (lo hi a b c d : ℤ)
    → IsRange lo hi
    → pos 0 <ℤ b
    → pos 0 <ℤ d
    → DifferenceHeld lo hi a b c d
    → Fits lo hi (difference_of a b c d).0 (difference_of a b c d).1
