-- Reciprocals and powers of n/d, where d is above 0.
use Rattle.std.specs.Prelude.{◌≡◌, ◌≢◌, ◌<ℤ◌, ℕ, ℤ, pos, negsuc, suc, neg_ℤ, Option, Some, None}
use Rattle.std.specs.Int.{int_pow}
use Rattle.ratio_integer.specs.Range.{IsHeld}

-- a/b is the reciprocal of n/d, with its sign above: d/n for a positive n, and -d/-n for a negative n. (For n = 0 it says nothing.)
-- Example: -2/3: -3/2
pub record IsReciprocal (n d a b : ℤ) : Type 0 where
  pub positive : pos 0 <ℤ n → (a ≡ d) × (b ≡ n)
  pub negative : n <ℤ pos 0 → (a ≡ neg_ℤ d) × (b ≡ neg_ℤ n)

-- a fraction with the numerator n has a reciprocal: n is not 0 and, if n is negative, -n is in range
-- Example: not -128
pub record ReciprocalCondition (lo hi n : ℤ) : Type 0 where
  pub nonzero : n ≢ pos 0
  pub negative : n <ℤ pos 0 → IsHeld lo hi (neg_ℤ n)

-- the result is the reciprocal of n/d, under `ReciprocalCondition`; elsewhere it is `None`
-- Example: -128/3: `None`
abbrev pub ChecksReciprocal : {R : Type 0} → (R → ℤ) → (R → ℤ) → ℤ → ℤ → ℤ → ℤ → Option R → Type 0
ChecksReciprocal numer denom lo hi n d None = ¬ (ReciprocalCondition lo hi n)
ChecksReciprocal numer denom lo hi n d (Some r) = ReciprocalCondition lo hi n × IsReciprocal n d (numer r) (denom r)

-- a/b is n/d to the e: each number to the e, not reduced. For a negative e it is the reciprocal of the power with its magnitude
-- Example: (2/4)^-2: 16/4
abbrev pub IsPower : ℤ → ℤ → ℤ → ℤ → ℤ → Type 0
IsPower n d (pos m) a b = (a ≡ int_pow n m) × (b ≡ int_pow d m)
IsPower n d (negsuc k) a b = IsReciprocal (int_pow n (suc k)) (int_pow d (suc k)) a b

-- n to the m and d to the m are in range
pub record PowersHeld (lo hi n d : ℤ) (m : ℕ) : Type 0 where
  pub numer : IsHeld lo hi (int_pow n m)
  pub denom : IsHeld lo hi (int_pow d m)

-- where n/d to the e is `Some`: `PowersHeld` for the magnitude of e and, for a negative e, `ReciprocalCondition` of these powers
-- Example: not (-1/2)^-7
abbrev pub PowerCondition : ℤ → ℤ → ℤ → ℤ → ℤ → Type 0
PowerCondition lo hi n d (pos m) = PowersHeld lo hi n d m
PowerCondition lo hi n d (negsuc k) = PowersHeld lo hi n d (suc k) × ReciprocalCondition lo hi (int_pow n (suc k))

-- the result is n/d to the e (`IsPower`), under `PowerCondition`; elsewhere it is `None`
-- Example: (-1/2)^-7: `None`
abbrev pub ChecksPower : {R : Type 0} → (R → ℤ) → (R → ℤ) → ℤ → ℤ → ℤ → ℤ → ℤ → Option R → Type 0
ChecksPower numer denom lo hi n d e None = ¬ (PowerCondition lo hi n d e)
ChecksPower numer denom lo hi n d e (Some r) = PowerCondition lo hi n d e × IsPower n d e (numer r) (denom r)

-- n/d to the e as a pair that is not reduced: n^e and d^e, and for an e below 0 the powers of d and n with its magnitude. For 0 to an e
-- below 0 the second number is 0, so no lowest terms fit
-- Example: (-1/2)^-7: 128/-1
abbrev pub power_of : ℤ → ℤ → ℤ → ℤ × ℤ
power_of n d (pos m) = (int_pow n m, int_pow d m)
power_of n d (negsuc k) = (int_pow d (suc k), int_pow n (suc k))

-- Inner: the result is both numbers, where both are in range; elsewhere it is `None`
abbrev pub ChecksBoth : {R : Type 0} → (R → ℤ) → (R → ℤ) → ℤ → ℤ → ℤ → ℤ → Option R → Type 0
ChecksBoth first second lo hi a b None = ¬ (IsHeld lo hi a × IsHeld lo hi b)
ChecksBoth first second lo hi a b (Some r) = (IsHeld lo hi a × IsHeld lo hi b) × ((first r ≡ a) × (second r ≡ b))
