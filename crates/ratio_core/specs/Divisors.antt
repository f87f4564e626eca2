-- Divisors and multiples of fractions, as pairs of whole numbers. The second number of each pair is not 0.
use Rattle.std.specs.Prelude.{◌≢◌, ◌≤ℤ◌, ◌*ℤ◌, ℤ, pos, Option, None, Some}
use Rattle.ratio_integer.specs.{Division.GcdHeld, Division.IsGcdOf, Fraction.IsLowestTerms, Fraction.SameValue, Range.IsHeld}

-- u/v divides a/b: a/b is a whole number times u/v
-- Example: 1/12 divides 1/4, which is 3 times 1/12; 0/1 divides only 0
abbrev pub DividesFraction : ℤ → ℤ → ℤ → ℤ → Type 0
DividesFraction u v a b = (k : ℤ) × SameValue a b (k *ℤ u) v

-- g/h is the greatest common divisor of a/b and c/d in lowest terms, not below 0: it divides both, and what divides both divides it. For 0 and 0: 0
-- Example: 1/4 and 1/6: 1/12
pub record IsGcdOfFractions (a b c d g h : ℤ) : Type 0 where
  pub lowest : IsLowestTerms g h
  pub sign : pos 0 ≤ℤ g
  pub first : DividesFraction g h a b
  pub second : DividesFraction g h c d
  pub greatest : (u v : ℤ) → v ≢ pos 0 → DividesFraction u v a b → DividesFraction u v c d → DividesFraction u v g h

-- l/m is the least common multiple of a/b and c/d in lowest terms, not below 0: both divide it, and it divides what both divide. If one is 0: 0
-- Example: 1/4 and 1/6: 1/2
pub record IsLcmOfFractions (a b c d l m : ℤ) : Type 0 where
  pub lowest : IsLowestTerms l m
  pub sign : pos 0 ≤ℤ l
  pub first : DividesFraction a b l m
  pub second : DividesFraction c d l m
  pub least : (u v : ℤ) → v ≢ pos 0 → DividesFraction a b u v → DividesFraction c d u v → DividesFraction l m u v

-- n and m have the property P, and both are in range
pub record IsHeldPair (lo hi : ℤ) (P : ℤ → ℤ → Type 0) (n m : ℤ) : Type 0 where
  pub pair : P n m
  pub first_held : IsHeld lo hi n
  pub second_held : IsHeld lo hi m

-- some two numbers in range have the property P
pub record HasHeldPair (lo hi : ℤ) (P : ℤ → ℤ → Type 0) : Type 0 where
  pub first : ℤ
  pub second : ℤ
  pub held : IsHeldPair lo hi P first second

-- the result is two numbers in range with the property P, by `first` and `second`, where there are such; elsewhere it is `None`
-- Example: over `i8`, the least common multiple of 127/2 and 126/1: `None`
abbrev pub ChecksPair : {R : Type 0} → (R → ℤ) → (R → ℤ) → ℤ → ℤ → (ℤ → ℤ → Type 0) → Option R → Type 0
ChecksPair first second lo hi P None = ¬ (HasHeldPair lo hi P)
ChecksPair first second lo hi P (Some r) = IsHeldPair lo hi P (first r) (second r)

-- Inner: the result is the greatest common divisor of two whole numbers where it is in range, and else `None`
-- Example: over `i8`, -128 and 0: `None`
abbrev pub ChecksGcd : {T : Type 0} → (T → ℤ) → ℤ → ℤ → ℤ → ℤ → Option T → Type 0
ChecksGcd value lo hi a b None = ¬ (GcdHeld lo hi a b)
ChecksGcd value lo hi a b (Some y) = IsGcdOf a b (value y)
