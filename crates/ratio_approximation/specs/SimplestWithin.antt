-- The simplest fraction within two bounds.
use Rattle.std.specs.Prelude.{◌≤◌, ◌≤ℤ◌, ℤ, unsigned_abs, Option, Some, None}
use Rattle.std.specs.declared.ops.Bound.{Bound}
use Rattle.ratio_integer.specs.Range.{IsHeld}
use Rattle.ratio_approximation.specs.Bounds.{IsWithin}

-- p/q is within the bounds. No fraction that is has a smaller denominator, or a numerator nearer to 0
-- Example: from 1/3 to 1/2, both included: 1/2; above 5/2: 3/1
pub record IsSimplestWithin (low high : Bound (ℤ × ℤ)) (p q : ℤ) : Type 0 where
  pub within : IsWithin low high p q
  pub denom : (a b : ℤ) → IsWithin low high a b → q ≤ℤ b
  pub numer : (a b : ℤ) → IsWithin low high a b → unsigned_abs p ≤ unsigned_abs a

-- a type from lo to hi has no fraction within the bounds
-- Example: above 127/1
pub record HoldsNoneWithin (lo hi : ℤ) (low high : Bound (ℤ × ℤ)) : Type 0 where
  pub each : (a b : ℤ) → IsHeld lo hi a → IsHeld lo hi b → ¬ (IsWithin low high a b)

-- the result is the simplest fraction within the bounds, and `None` exactly if the type has no fraction there
-- Example: above 126/1: `Some((127, 1))`
abbrev pub ChecksSimplestWithin : {T : Type 0} → (T → ℤ) → ℤ → ℤ → Bound (ℤ × ℤ) → Bound (ℤ × ℤ) → Option (T × T) → Type 0
ChecksSimplestWithin value lo hi low high None = HoldsNoneWithin lo hi low high
ChecksSimplestWithin value lo hi low high (Some r) = IsSimplestWithin low high (value r.0) (value r.1)
