-- The simplest fraction strictly between n/d and m/e, where d and e are above 0.
use Rattle.std.specs.Prelude.{◌≤◌, ◌≤ℤ◌, ◌<ℤ◌, ◌*ℤ◌, ℤ, pos, unsigned_abs, Option, Some, None}
use Rattle.ratio_integer.specs.Range.{IsHeld}

-- a/b, with a positive denominator, lies strictly between n/d and m/e
-- Example: 1/3 and 1/2: 4/10 and 2/5
pub record IsBetween (n d m e a b : ℤ) : Type 0 where
  pub positive : pos 0 <ℤ b
  pub above : (n *ℤ b) <ℤ (a *ℤ d)
  pub below : (a *ℤ e) <ℤ (m *ℤ b)

-- p/q lies strictly between n/d and m/e. No fraction that does has a smaller denominator, or a numerator nearer to 0
-- Example: between 1/3 and 1/2: 2/5; between -7/2 and -5/3: -2/1
pub record IsSimplest (n d m e p q : ℤ) : Type 0 where
  pub between : IsBetween n d m e p q
  pub denom : (a b : ℤ) → IsBetween n d m e a b → q ≤ℤ b
  pub numer : (a b : ℤ) → IsBetween n d m e a b → unsigned_abs p ≤ unsigned_abs a

-- a type from lo to hi has no fraction strictly between n/d and m/e
-- Example: 0/1 and 1/127
pub record HoldsNoneBetween (lo hi n d m e : ℤ) : Type 0 where
  pub each : (a b : ℤ) → IsHeld lo hi a → IsHeld lo hi b → ¬ (IsBetween n d m e a b)

-- the result is the simplest fraction strictly between n/d and m/e, and `None` exactly if the type has no fraction between them
-- Example: 0/1 and 1/126: `Some((1, 127))`
abbrev pub ChecksSimplest : {T : Type 0} → (T → ℤ) → ℤ → ℤ → ℤ → ℤ → ℤ → ℤ → Option (T × T) → Type 0
ChecksSimplest value lo hi n d m e None = HoldsNoneBetween lo hi n d m e
ChecksSimplest value lo hi n d m e (Some r) = IsSimplest n d m e (value r.0) (value r.1)
