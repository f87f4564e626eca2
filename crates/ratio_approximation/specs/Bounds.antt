-- Bounds of a range of fractions, the three of std's `Bound`: a fraction that is included or excluded, or none (*open*).
use Rattle.std.specs.Prelude.{◌≤ℤ◌, ◌<ℤ◌, ◌*ℤ◌, ℤ, pos, ⊤}
use Rattle.std.specs.declared.ops.Bound.{Bound, TheVariants.Included, TheVariants.Excluded, TheVariants.Unbounded}

-- the bound with the numbers of its values
-- Example: excluded 5/2
abbrev pub numbers_in : {T : Type 0} → (T → ℤ) → Bound (T × T) → Bound (ℤ × ℤ)
numbers_in value (Included x) = Included (value x.0, value x.1)
numbers_in value (Excluded x) = Excluded (value x.0, value x.1)
numbers_in value Unbounded = Unbounded

-- a bound is open, or its denominator is positive
-- Example: excluded 5/2
abbrev pub HasPositiveDenominator : Bound (ℤ × ℤ) → Type 0
HasPositiveDenominator (Included x) = pos 0 <ℤ x.1
HasPositiveDenominator (Excluded x) = pos 0 <ℤ x.1
HasPositiveDenominator Unbounded = ⊤

-- a/b is within a low bound
-- Example: above 5/2: 8/3; from 1/2, included: 1/2; open: each fraction
abbrev pub IsWithinLow : Bound (ℤ × ℤ) → ℤ → ℤ → Type 0
IsWithinLow (Included x) a b = (x.0 *ℤ b) ≤ℤ (a *ℤ x.1)
IsWithinLow (Excluded x) a b = (x.0 *ℤ b) <ℤ (a *ℤ x.1)
IsWithinLow Unbounded a b = ⊤

-- a/b is within a high bound
-- Example: up to 1/2, included: 1/2
abbrev pub IsWithinHigh : Bound (ℤ × ℤ) → ℤ → ℤ → Type 0
IsWithinHigh (Included x) a b = (a *ℤ x.1) ≤ℤ (x.0 *ℤ b)
IsWithinHigh (Excluded x) a b = (a *ℤ x.1) <ℤ (x.0 *ℤ b)
IsWithinHigh Unbounded a b = ⊤

-- a/b, with a positive denominator, is within both bounds
-- Example: above 5/2, without a high bound: 8/3 and 3/1
pub record IsWithin (low high : Bound (ℤ × ℤ)) (a b : ℤ) : Type 0 where
  pub positive : pos 0 <ℤ b
  pub above : IsWithinLow low a b
  pub below : IsWithinHigh high a b
