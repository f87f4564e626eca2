-- What each operator requires of two fractions, and what it gives. An operand is a pair of two whole numbers.
use Rattle.std.specs.Prelude.{◌<ℤ◌, ℤ, pos, Bool, Option}
use Rattle.ratio_integer.specs.Arithmetic.{RemainderHeld, difference_of, product_of, quotient_of, remainder_of, sum_of}
use Rattle.ratio_integer.specs.Fraction.{AnswersLowest}
use Rattle.ratio_core.specs.Conditions.{DifferenceCondition, ProductCondition, QuotientCondition, RemainderCondition, SumCondition}
use Rattle.ratio_core.specs.Divisors.{ChecksPair, IsGcdOfFractions, IsLcmOfFractions}
use Rattle.num_rational.specs.declared.ratio.Ratio.{Ratio}
use Rattle.num_rational.specs.Ratio.{ChecksRatio, IsLowestOf, denominator, numerator}

-- the two numbers of a fraction
-- Example: 2/4: (2, 4)
abbrev pub numbers : {T : _} {i : _} {o : _} {e : _} {p : _} {h : _} → Ratio T i o e p h → ℤ × ℤ
numbers r = (numerator r, denominator r)

-- the two numbers of c over 1
-- Example: 5: (5, 1)
abbrev pub whole : ℤ → ℤ × ℤ
whole c = (c, pos 1)

-- what x + y requires over a type with the numbers from lo to hi, whose sums are exact or not: positive denominators and `SumCondition`
-- Example: not 127/1 + 1/1
pub record CanAdd (exact : Bool) (lo hi : ℤ) (x y : ℤ × ℤ) : Type 0 where
  pub left_positive : pos 0 <ℤ x.1
  pub right_positive : pos 0 <ℤ y.1
  pub answered : SumCondition exact lo hi x.0 x.1 y.0 y.1

-- r is x + y in lowest terms, in range
abbrev pub GivesSum : {T : _} {i : _} {o : _} {e : _} {p : _} {h : _} → ℤ × ℤ → ℤ × ℤ → Ratio T i o e p h → Type 0
GivesSum x y r = IsLowestOf (sum_of x.0 x.1 y.0 y.1) r

-- the result is x + y in lowest terms if its condition holds (`SumCondition`), and else `None`
-- Example: 127/1 + 1/1: `None`
abbrev pub ChecksSum : {T : _} {i : _} {o : _} {e : _} {p : _} {h : _} → ℤ × ℤ → ℤ × ℤ → Option (Ratio T i o e p h) → Type 0
ChecksSum {i = i} x y result = AnswersLowest numerator denominator i.lo i.hi (SumCondition i.EXACT_SUMS i.lo i.hi x.0 x.1 y.0 y.1) (sum_of x.0 x.1 y.0 y.1) result

-- for `Reduced`: the result is x + y in lowest terms if these are in range, and else `None`, whether the type's sums are exact or not
-- Example: 1/36 + 1/28: `Some(4/63)`
abbrev pub ChecksExactSum : {T : _} {i : _} {o : _} {e : _} {p : _} {h : _} → ℤ × ℤ → ℤ × ℤ → Option (Ratio T i o e p h) → Type 0
ChecksExactSum x y result = ChecksRatio (sum_of x.0 x.1 y.0 y.1) result

-- what x - y requires: positive denominators and `DifferenceCondition`
pub record CanSubtract (exact : Bool) (lo hi : ℤ) (x y : ℤ × ℤ) : Type 0 where
  pub left_positive : pos 0 <ℤ x.1
  pub right_positive : pos 0 <ℤ y.1
  pub answered : DifferenceCondition exact lo hi x.0 x.1 y.0 y.1

-- r is x - y in lowest terms, in range
abbrev pub GivesDifference : {T : _} {i : _} {o : _} {e : _} {p : _} {h : _} → ℤ × ℤ → ℤ × ℤ → Ratio T i o e p h → Type 0
GivesDifference x y r = IsLowestOf (difference_of x.0 x.1 y.0 y.1) r

-- the result is x - y in lowest terms if its condition holds (`DifferenceCondition`), and else `None`
abbrev pub ChecksDifference : {T : _} {i : _} {o : _} {e : _} {p : _} {h : _} → ℤ × ℤ → ℤ × ℤ → Option (Ratio T i o e p h) → Type 0
ChecksDifference {i = i} x y result = AnswersLowest numerator denominator i.lo i.hi (DifferenceCondition i.EXACT_SUMS i.lo i.hi x.0 x.1 y.0 y.1) (difference_of x.0 x.1 y.0 y.1) result

-- for `Reduced`: the result is x - y in lowest terms if these are in range, and else `None`, whether the type's sums are exact or not
abbrev pub ChecksExactDifference : {T : _} {i : _} {o : _} {e : _} {p : _} {h : _} → ℤ × ℤ → ℤ × ℤ → Option (Ratio T i o e p h) → Type 0
ChecksExactDifference x y result = ChecksRatio (difference_of x.0 x.1 y.0 y.1) result

-- what x * y requires: positive denominators and `ProductCondition`
pub record CanMultiply (lo hi : ℤ) (x y : ℤ × ℤ) : Type 0 where
  pub left_positive : pos 0 <ℤ x.1
  pub right_positive : pos 0 <ℤ y.1
  pub answered : ProductCondition lo hi x.0 x.1 y.0 y.1

-- r is x * y in lowest terms, in range
abbrev pub GivesProduct : {T : _} {i : _} {o : _} {e : _} {p : _} {h : _} → ℤ × ℤ → ℤ × ℤ → Ratio T i o e p h → Type 0
GivesProduct x y r = IsLowestOf (product_of x.0 x.1 y.0 y.1) r

-- the result is x * y in lowest terms if these are in range, and else `None`
abbrev pub ChecksProduct : {T : _} {i : _} {o : _} {e : _} {p : _} {h : _} → ℤ × ℤ → ℤ × ℤ → Option (Ratio T i o e p h) → Type 0
ChecksProduct x y result = ChecksRatio (product_of x.0 x.1 y.0 y.1) result

-- what x / y requires: positive denominators and `QuotientCondition`
pub record CanDivide (lo hi : ℤ) (x y : ℤ × ℤ) : Type 0 where
  pub left_positive : pos 0 <ℤ x.1
  pub right_positive : pos 0 <ℤ y.1
  pub answered : QuotientCondition lo hi x.0 x.1 y.0 y.1

-- r is x / y in lowest terms, in range
abbrev pub GivesQuotient : {T : _} {i : _} {o : _} {e : _} {p : _} {h : _} → ℤ × ℤ → ℤ × ℤ → Ratio T i o e p h → Type 0
GivesQuotient x y r = IsLowestOf (quotient_of x.0 x.1 y.0 y.1) r

-- the result is x / y in lowest terms if these are in range, and else `None`
abbrev pub ChecksQuotient : {T : _} {i : _} {o : _} {e : _} {p : _} {h : _} → ℤ × ℤ → ℤ × ℤ → Option (Ratio T i o e p h) → Type 0
ChecksQuotient x y result = ChecksRatio (quotient_of x.0 x.1 y.0 y.1) result

-- what x % y requires: positive denominators and `RemainderHeld`
pub record CanTakeRemainder (lo hi : ℤ) (x y : ℤ × ℤ) : Type 0 where
  pub left_positive : pos 0 <ℤ x.1
  pub right_positive : pos 0 <ℤ y.1
  pub answered : RemainderHeld lo hi x.0 x.1 y.0 y.1

-- r is x % y in lowest terms, in range
abbrev pub GivesRemainder : {T : _} {i : _} {o : _} {e : _} {p : _} {h : _} → ℤ × ℤ → ℤ × ℤ → Ratio T i o e p h → Type 0
GivesRemainder x y r = IsLowestOf (remainder_of x.0 x.1 y.0 y.1) r

-- the result is x % y in lowest terms if its condition holds (`RemainderHeld`), and else `None`
abbrev pub ChecksRemainder : {T : _} {i : _} {o : _} {e : _} {p : _} {h : _} → ℤ × ℤ → ℤ × ℤ → Option (Ratio T i o e p h) → Type 0
ChecksRemainder {i = i} x y result = AnswersLowest numerator denominator i.lo i.hi (RemainderHeld i.lo i.hi x.0 x.1 y.0 y.1) (remainder_of x.0 x.1 y.0 y.1) result

-- for `Reduced`: the result is x % y in lowest terms if `RemainderCondition` (over exact remainders: y is not 0, and they fit), and else `None`
-- Example: 127/1 % 1/127: `Some(0/1)`
abbrev pub ChecksLowestRemainder : {T : _} {i : _} {o : _} {e : _} {p : _} {h : _} → ℤ × ℤ → ℤ × ℤ → Option (Ratio T i o e p h) → Type 0
ChecksLowestRemainder {i = i} x y result = AnswersLowest numerator denominator i.lo i.hi (RemainderCondition i.EXACT_REMAINDERS i.lo i.hi x.0 x.1 y.0 y.1) (remainder_of x.0 x.1 y.0 y.1) result

-- for `Reduced`: the result is the greatest common divisor of x and y in lowest terms if these are in range, and else `None`
-- Example: 1/4 and 1/6: `Some(1/12)`
abbrev pub ChecksFractionGcd : {T : _} {i : _} {o : _} {e : _} {p : _} {h : _} → ℤ × ℤ → ℤ × ℤ → Option (Ratio T i o e p h) → Type 0
ChecksFractionGcd {i = i} x y result = ChecksPair numerator denominator i.lo i.hi (IsGcdOfFractions x.0 x.1 y.0 y.1) result

-- for `Reduced`: the result is the least common multiple of x and y in lowest terms if these are in range, and else `None`
-- Example: 1/4 and 1/6: `Some(1/2)`
abbrev pub ChecksFractionLcm : {T : _} {i : _} {o : _} {e : _} {p : _} {h : _} → ℤ × ℤ → ℤ × ℤ → Option (Ratio T i o e p h) → Type 0
ChecksFractionLcm {i = i} x y result = ChecksPair numerator denominator i.lo i.hi (IsLcmOfFractions x.0 x.1 y.0 y.1) result
