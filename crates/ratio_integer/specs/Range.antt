-- The range of a type, from lo to hi, and what its calls return.
use Rattle.std.specs.Prelude.{◌≡◌, ◌⊎◌, ◌≤ℤ◌, ◌-◌, ◌-ℤ◌, ◌^◌, ℤ, pos, neg_ℤ, Option, Some, None}

-- a range of a type: hi is at least 2, and lo is 0, -hi or -hi-1
-- Example: -128 to 127
pub record IsRange (lo hi : ℤ) : Type 0 where
  pub high : pos 2 ≤ℤ hi
  pub low : (lo ≡ pos 0) ⊎ (lo ≡ neg_ℤ hi) ⊎ (lo ≡ neg_ℤ hi -ℤ pos 1)

-- each number of a range fits an `i128`, or each fits a `u128`
-- Example: -2^127 to 2^127-1, and 0 to 2^128-1
abbrev pub FitsIn128 : ℤ → ℤ → Type 0
FitsIn128 lo hi = (hi ≤ℤ pos (2 ^ 127 - 1)) ⊎ ((lo ≡ pos 0) × (hi ≤ℤ pos (2 ^ 128 - 1)))

-- z is in range: it lies from lo to hi
-- Example: not 128
pub record IsHeld (lo hi z : ℤ) : Type 0 where
  pub above : lo ≤ℤ z
  pub below : z ≤ℤ hi

-- the result is z, where z is in range; elsewhere it is `None`
-- Example: 100 + 28: `None`
abbrev pub Checks : {T : Type 0} → (T → ℤ) → ℤ → ℤ → ℤ → Option T → Type 0
Checks value lo hi z None = ¬ (IsHeld lo hi z)
Checks value lo hi z (Some y) = IsHeld lo hi z × (value y ≡ z)
