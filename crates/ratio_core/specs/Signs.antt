-- Signs of n/d, where d may have either sign, and differences that are not below 0.
use Rattle.std.specs.Prelude.{◌≡◌, ◌≢◌, ◌<ℤ◌, ◌*ℤ◌, ℕ, ℤ, Bool, false, true, pos, negsuc, neg_ℤ}
use Rattle.std.specs.declared.cmp.Ordering.TheVariants.{Greater}
use Rattle.ratio_integer.specs.Arithmetic.{difference_of}
use Rattle.ratio_core.specs.{Conditions.DifferenceCondition, Conditions.IsHeldLowestOf, Order.cross_cmp}

-- a natural number n, negated if the sign s is set
-- Example: 3 with the sign: -3
abbrev pub with_sign : Bool → ℕ → ℤ
with_sign false n = pos n
with_sign true n = neg_ℤ (pos n)

-- the value of n/d is below 0
-- Example: 1/-2
abbrev pub IsNegative : ℤ → ℤ → Type 0
IsNegative n d = (n *ℤ d) <ℤ pos 0

-- the value of n/d is above 0
-- Example: -1/-2
abbrev pub IsPositive : ℤ → ℤ → Type 0
IsPositive n d = pos 0 <ℤ (n *ℤ d)

-- s is the sign of n/d: 1, 0 or -1, as its value is above 0, 0 or below 0
-- Example: 1/-2: -1
pub record IsSign (n d s : ℤ) : Type 0 where
  pub above : IsPositive n d → s ≡ pos 1
  pub zero : n ≡ pos 0 → s ≡ pos 0
  pub below : IsNegative n d → s ≡ negsuc 0

-- a/d is the absolute value of n/d: a is -n if n/d is below 0, and else n
-- Example: 1/-2: -1, so -1/-2
pub record IsAbsolute (n d a : ℤ) : Type 0 where
  pub below : IsNegative n d → a ≡ neg_ℤ n
  pub not_below : ¬ (IsNegative n d) → a ≡ n

-- if a/b is above c/d, their `DifferenceCondition` holds
-- Example: 3/4, 1/2
abbrev pub PositiveDifferenceCondition : Bool → ℤ → ℤ → ℤ → ℤ → ℤ → ℤ → Type 0
PositiveDifferenceCondition exact lo hi a b c d = cross_cmp a b c d ≡ Greater → DifferenceCondition exact lo hi a b c d

-- x/y is the lowest terms of a/b - c/d, in range, if a/b is above c/d; else it is 0/1
-- Example: 3/4, 1/2: 1/4
pub record IsPositiveDifference (lo hi a b c d x y : ℤ) : Type 0 where
  pub above : cross_cmp a b c d ≡ Greater → IsHeldLowestOf lo hi (difference_of a b c d) x y
  pub not_above : cross_cmp a b c d ≢ Greater → (x ≡ pos 0) × (y ≡ pos 1)
