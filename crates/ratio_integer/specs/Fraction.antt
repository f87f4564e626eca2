-- Fractions as pairs of whole numbers, the second not 0, and their lowest terms: exactly one pair for each (`proofs/LowestTerms.antt`).
use Rattle.std.specs.Prelude.{◌≡◌, ◌≢◌, ◌<ℤ◌, ◌*ℤ◌, ℕ, ℤ, pos, unsigned_abs, Option, Some, None}
use Rattle.std.specs.Int.{◌∣◌}
use Rattle.ratio_integer.specs.{Division.IsGcdOf, Range.IsHeld}

-- n/d and a/b have the same value: n·b is a·d
-- Example: 1/2 and 2/4
abbrev pub SameValue : ℤ → ℤ → ℤ → ℤ → Type 0
SameValue n d a b = n *ℤ b ≡ a *ℤ d

-- b is positive, and no number above 1 divides both a and b
-- Example: 1/2; not 2/4, not 1/-2
pub record IsLowestTerms (a b : ℤ) : Type 0 where
  pub positive : pos 0 <ℤ b
  pub only_one : (k : ℕ) → k ∣ unsigned_abs a → k ∣ unsigned_abs b → k ≡ 1

-- a and b are n and d, divided by their greatest common divisor g: a·g is n, and b·g is d
-- Example: 4/-6: 2/-3
pub record IsCancelledOf (n d a b : ℤ) : Type 0 where
  pub divisor : ℤ
  pub greatest : IsGcdOf n d divisor
  pub numer : a *ℤ divisor ≡ n
  pub denom : b *ℤ divisor ≡ d

-- d is not 0, and a/b is in lowest terms with the value of n/d
-- Example: 3/-6: -1/2
pub record IsLowestTermsOf (n d a b : ℤ) : Type 0 where
  pub fraction : d ≢ pos 0
  pub same : SameValue n d a b
  pub lowest : IsLowestTerms a b

-- `IsLowestTermsOf`, and a and b are in range
pub record IsHeldLowest (lo hi n d a b : ℤ) : Type 0 where
  pub terms : IsLowestTermsOf n d a b
  pub numer_held : IsHeld lo hi a
  pub denom_held : IsHeld lo hi b

-- n/d has lowest terms that are in range
-- Example: 3/-6; not -128/-1
pub record Fits (lo hi n d : ℤ) : Type 0 where
  pub numer : ℤ
  pub denom : ℤ
  pub low : IsHeldLowest lo hi n d numer denom

-- the result is the lowest terms of the pair x, where they fit; elsewhere it is `None`. `numer` and `denom` give its two numbers
-- Example: 200/4: `Some(50/1)`
abbrev pub ChecksLowest : {R : Type 0} → (R → ℤ) → (R → ℤ) → ℤ → ℤ → ℤ × ℤ → Option R → Type 0
ChecksLowest numer denom lo hi x None = ¬ (Fits lo hi x.0 x.1)
ChecksLowest numer denom lo hi x (Some r) = IsHeldLowest lo hi x.0 x.1 (numer r) (denom r)

-- the result is the lowest terms of the pair x, in range, where P holds; elsewhere it is `None`
abbrev pub AnswersLowest : {R : Type 0} → (R → ℤ) → (R → ℤ) → ℤ → ℤ → Type 0 → ℤ × ℤ → Option R → Type 0
AnswersLowest numer denom lo hi P x None = ¬ P
AnswersLowest numer denom lo hi P x (Some r) = P × IsHeldLowest lo hi x.0 x.1 (numer r) (denom r)
