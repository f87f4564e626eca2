-- What a slot holds.
use Rattle.std.specs.Prelude.{ℕ, ℤ}

-- a denominator, and the sum of the numerators that were added over it. If the denominator is 0, the slot is empty
-- Example: 6/36 after 1/36 and 5/36
pub record Entry : Type 0 where
  pub denom : ℕ
  pub numer : ℤ
