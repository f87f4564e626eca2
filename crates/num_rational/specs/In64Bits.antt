-- Fractions in 64 bits, and the mean of two. A fraction is a pair of whole numbers here.
use Rattle.std.specs.Prelude.{ℤ, pos, Option, None, Some}
use Rattle.ratio_integer.specs.Arithmetic.{quotient_of, sum_of}
use Rattle.ratio_integer.specs.Fraction.{IsLowestTermsOf}
use Rattle.ratio_integer.specs.SignedBits.{Fits64}
use Rattle.num_rational.specs.declared.reduced.Reduced.{Reduced}
use Rattle.num_rational.specs.Reduced.{lowest_numbers}

-- the fraction is the lowest terms of the pair
-- Example: 2/4: 1/2
abbrev pub HasValue : {T : _} {i : _} {o : _} {e : _} {p : _} {h : _} → ℤ × ℤ → Reduced T i o e p h → Type 0
HasValue x r = IsLowestTermsOf x.0 x.1 (lowest_numbers r).0 (lowest_numbers r).1

-- x + y, not reduced
-- Example: 1/2, 1/4: 6/8
abbrev pub sum_of_two : ℤ × ℤ → ℤ × ℤ → ℤ × ℤ
sum_of_two x y = sum_of x.0 x.1 y.0 y.1

-- half of x + y, not reduced
-- Example: 1/2, 1/4: 6/16
abbrev pub half_sum : ℤ × ℤ → ℤ × ℤ → ℤ × ℤ
half_sum x y = quotient_of (sum_of_two x y).0 (sum_of_two x y).1 (pos 2) (pos 1)

-- the result is half of x + y in lowest terms, if x + y and its half fit in 64 bits, else `None`
-- Example: 1/2, 1/4: 3/8
abbrev pub ChecksMean : {T : _} {i : _} {o : _} {e : _} {p : _} {h : _} → ℤ × ℤ → ℤ × ℤ → Option (Reduced T i o e p h) → Type 0
ChecksMean x y None = ¬ (Fits64 (sum_of_two x y) × Fits64 (half_sum x y))
ChecksMean x y (Some mean) = Fits64 (sum_of_two x y) × Fits64 (half_sum x y) × HasValue (half_sum x y) mean
