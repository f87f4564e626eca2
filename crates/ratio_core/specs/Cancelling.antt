-- Fractions without a common divisor. The denominator may have either sign.
use Rattle.std.specs.Prelude.{◌≡◌, ◌≢◌, ℕ, ℤ, pos, unsigned_abs}
use Rattle.std.specs.Int.{◌∣◌}

-- Inner: b is not 0, and no number above 1 divides both a and b
-- Example: 2/-3
pub record IsCancelled (a b : ℤ) : Type 0 where
  pub fraction : b ≢ pos 0
  pub only_one : (k : ℕ) → k ∣ unsigned_abs a → k ∣ unsigned_abs b → k ≡ 1
