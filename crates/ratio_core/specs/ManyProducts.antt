-- The product of many numbers, and numbers divided by a common factor.
use Rattle.std.specs.Prelude.{◌≡◌, ◌*ℤ◌, ℕ, ℤ, pos, unsigned_abs, List, [], ◌∷◌}
use Rattle.std.specs.Int.{◌∣◌}
use Rattle.ratio_integer.specs.Fraction.{SameValue}

-- the product of the numbers of a list. `value` gives the number of an item
-- Example: 2, 3, -4: -24
abbrev pub product_by : {A : Type 0} → (A → ℤ) → List A → ℤ
product_by value [] = pos 1
product_by value (x ∷ xs) = value x *ℤ product_by value xs

-- a and b are n and d, divided by one number
-- Example: 12, 18: 6, 9
pub record HasCommonFactor (n d a b : ℤ) : Type 0 where
  pub factor : ℤ
  pub numer : a *ℤ factor ≡ n
  pub denom : b *ℤ factor ≡ d

-- no number above 1 divides both a and b
-- Example: 4 and -9
pub record IsCoprimeTo (a b : ℤ) : Type 0 where
  pub only_one : (k : ℕ) → k ∣ unsigned_abs a → k ∣ unsigned_abs b → k ≡ 1

-- s is -1 if a/b is below 0, and else 1. So s times the magnitude of a, over the magnitude of b, has the value of a/b
-- Example: 6 and -4: -1
pub record IsQuotientSign (a b s : ℤ) : Type 0 where
  pub unit : unsigned_abs s ≡ 1
  pub same : SameValue a b (s *ℤ pos (unsigned_abs a)) (pos (unsigned_abs b))
