-- Inner steps of the search for the simplest fraction that rounds to a float. A float that is not whole is m times 2^k of the least float.
use Rattle.std.specs.Prelude.{◌≡◌, ◌≢◌, ◌⊎◌, ◌+◌, ◌*◌, ◌<◌, ◌≤◌, ◌≤ℤ◌, ◌^◌, ℕ, ℤ, pos, neg_ℤ, Bool, false, true, Option, Some, None}
use Rattle.std.specs.Float.{Format}
use Rattle.std.specs.Float.Ieee.{hid}
use Rattle.ratio_approximation.specs.Simplest.{ChecksSimplest, IsBetween, IsSimplest}

-- Inner: in quarters of the last place of such a float, `high` is halfway to the next one, and `low` to the one before. That one is nearer
-- if m is the least number with the leading digit
pub record IsGap (f : Format) (m k low high : ℕ) : Type 0 where
  pub up : high ≡ 4 * m + 2
  pub down : ((low + 1 ≡ 4 * m) × (m ≡ hid f) × (0 < k)) ⊎ ((low + 2 ≡ 4 * m) × ((m ≢ hid f) ⊎ (k ≡ 0)))

-- Inner: the result is the simplest fraction strictly between low/d and high/d, or between -high/d and -low/d
abbrev pub ChecksInside : {T : Type 0} → (T → ℤ) → ℤ → ℤ → Bool → ℕ → ℕ → ℕ → Option (T × T) → Type 0
ChecksInside value lo hi false low high d r = ChecksSimplest value lo hi (pos low) (pos d) (pos high) (pos d) r
ChecksInside value lo hi true low high d r = ChecksSimplest value lo hi (neg_ℤ (pos high)) (pos d) (neg_ℤ (pos low)) (pos d) r

-- Inner: the result is the simplest fraction strictly between low/d and high/d, and `None` only if no fraction between has a denominator
-- below 2^128
abbrev pub ChecksSize : ℕ → ℕ → ℕ → Option (ℕ × ℕ) → Type 0
ChecksSize low high d None = (a b : ℤ) → IsBetween (pos low) (pos d) (pos high) (pos d) a b → pos (2 ^ 128) ≤ℤ b
ChecksSize low high d (Some r) = IsSimplest (pos low) (pos d) (pos high) (pos d) (pos r.0) (pos r.1)

-- Inner: b is the least number whose product with h is above d
pub record IsFirstOver (d h b : ℕ) : Type 0 where
  pub over : d < b * h
  pub least : (c : ℕ) → d < c * h → b ≤ c

-- Inner: the result is the number of `IsFirstOver`, and `None` exactly if it is above 2^128-1
abbrev pub ChecksFirstOver : ℕ → ℕ → Option ℕ → Type 0
ChecksFirstOver d h None = (c : ℕ) → d < c * h → 2 ^ 128 ≤ c
ChecksFirstOver d h (Some b) = IsFirstOver d h b
