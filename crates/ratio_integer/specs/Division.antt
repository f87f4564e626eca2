-- Multiples, floored division, divisors and common multiples. For b not 0, exactly one quotient and rest exist (`proofs/FlooredDivision.antt`).
use Rattle.std.specs.Prelude.{◌≡◌, ◌⊎◌, ◌≤ℤ◌, ◌<ℤ◌, ◌+ℤ◌, ◌-ℤ◌, ◌*ℤ◌, ℕ, ℤ, pos, negsuc, neg_ℤ, unsigned_abs, Option, Some, None}
use Rattle.std.specs.Int.{◌∣◌, IsGcd}
use Rattle.ratio_integer.specs.Range.{IsHeld}

-- a is some whole number times b
-- Example: 12 and -4
abbrev pub IsMultiple : ℤ → ℤ → Type 0
IsMultiple a b = (k : ℤ) × (a ≡ k *ℤ b)

-- q is the floored quotient of a by b, and r is the rest: a is q·b + r, with 0 ≤ r < b or b < r ≤ 0. So r is 0 or has the sign of b
-- Example: -7 by 2: q = -4, r = 1
pub record IsFloored (a b q r : ℤ) : Type 0 where
  pub sum : a ≡ q *ℤ b +ℤ r
  pub rest : ((pos 0 ≤ℤ r) × (r <ℤ b)) ⊎ ((b <ℤ r) × (r ≤ℤ pos 0))

-- n/d is -hi-1 over -1. Its value is hi+1; no other pair of a type up to hi has a value above hi
-- Example: -128/-1
pub record IsAboveMax (hi n d : ℤ) : Type 0 where
  pub numer : n ≡ neg_ℤ hi -ℤ pos 1
  pub denom : d ≡ negsuc 0

-- the floored quotient of a by b is in range, if there is one (for b = 0 there is none)
-- Example: not -128 by -1
pub record FlooredHeld (lo hi a b : ℤ) : Type 0 where
  pub each : (q r : ℤ) → IsFloored a b q r → IsHeld lo hi q

-- q is the floored quotient of a by b
-- Example: -7 by 2: -4
pub record IsFlooredQuotient (a b q : ℤ) : Type 0 where
  pub remainder : ℤ
  pub floored : IsFloored a b q remainder

-- r is the remainder of the floored division of a by b
-- Example: -7 by 2: 1
pub record IsFlooredRemainder (a b r : ℤ) : Type 0 where
  pub quotient : ℤ
  pub floored : IsFloored a b quotient r

-- g is the greatest common divisor of a and b: it divides both, what divides both divides it, and it is never negative. For 0 and 0 it is 0
-- Example: 12 and -18: 6
pub record IsGcdOf (a b g : ℤ) : Type 0 where
  pub sign : pos 0 ≤ℤ g
  pub divisor : IsGcd (unsigned_abs a) (unsigned_abs b) (unsigned_abs g)

-- one of a and b is -hi-1, and the other is -hi-1 or 0. Their greatest common divisor is hi+1; no others of a type up to hi have one above hi
-- Example: -128 and 0
abbrev pub IsGcdAboveMax : ℤ → ℤ → ℤ → Type 0
IsGcdAboveMax hi a b =
    ((a ≡ neg_ℤ hi -ℤ pos 1) × ((b ≡ neg_ℤ hi -ℤ pos 1) ⊎ (b ≡ pos 0)))
    ⊎ ((a ≡ pos 0) × (b ≡ neg_ℤ hi -ℤ pos 1))

-- the greatest common divisor of a and b is in range
-- Example: not -128 and 0
pub record GcdHeld (lo hi a b : ℤ) : Type 0 where
  pub each : (g : ℤ) → IsGcdOf a b g → IsHeld lo hi g

-- l is the least common multiple of a and b: both divide it, it divides what both divide, and it is never negative. If a or b is 0, it is 0
-- Example: 4 and 6: 12
pub record IsLcmOf (a b l : ℤ) : Type 0 where
  pub sign : pos 0 ≤ℤ l
  pub first : unsigned_abs a ∣ unsigned_abs l
  pub second : unsigned_abs b ∣ unsigned_abs l
  pub least : (m : ℕ) → unsigned_abs a ∣ m → unsigned_abs b ∣ m → unsigned_abs l ∣ m

-- the least common multiple of a and b is in range
pub record LcmHeld (lo hi a b : ℤ) : Type 0 where
  pub each : (l : ℤ) → IsLcmOf a b l → IsHeld lo hi l

-- the result is the least common multiple of a and b, where it is in range; elsewhere it is `None`
-- Example: 4 and 6: `Some(12)`
abbrev pub ChecksLcm : {T : Type 0} → (T → ℤ) → ℤ → ℤ → ℤ → ℤ → Option T → Type 0
ChecksLcm value lo hi a b None = ¬ (LcmHeld lo hi a b)
ChecksLcm value lo hi a b (Some y) = LcmHeld lo hi a b × IsLcmOf a b (value y)
