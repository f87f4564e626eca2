-- Inner steps of the search for the simplest fraction: two neighbours around both ends, one of which moves towards the other.
use Rattle.std.specs.Prelude.{◌≡◌, ◌⊎◌, ◌≤◌, ◌≤ℤ◌, ◌<ℤ◌, ◌+ℤ◌, ◌*ℤ◌, ℤ, pos, unsigned_abs, Option, Some, None}
use Rattle.ratio_integer.specs.Range.{IsHeld}

-- Inner: w is the greatest whole number below m/e, and s is what m is above w*e
-- Example: 7/3: 2 and 1; 6/3: 1 and 3
pub record IsLastBelow (m e w s : ℤ) : Type 0 where
  pub sum : m ≡ w *ℤ e +ℤ s
  pub some : pos 0 <ℤ s
  pub most : s ≤ℤ e

-- Inner: the result is the greatest whole number below m/e and what m is above it, and `None` only if m/e is at most lo
abbrev pub ChecksLastBelow : {T : Type 0} → (T → ℤ) → ℤ → ℤ → ℤ → Option (T × T) → Type 0
ChecksLastBelow value lo m e None = m ≤ℤ (lo *ℤ e)
ChecksLastBelow value lo m e (Some r) = IsLastBelow m e (value r.0) (value r.1)

-- Inner: w is the whole number nearest to 0 from a to b
pub record IsNearestZero (a b w : ℤ) : Type 0 where
  pub first : a ≤ℤ w
  pub last : w ≤ℤ b
  pub nearest : (z : ℤ) → a ≤ℤ z → z ≤ℤ b → unsigned_abs w ≤ unsigned_abs z

-- Inner: p and a are not on different sides of 0
abbrev pub IsOnOneSide : ℤ → ℤ → Type 0
IsOnOneSide p a = ((pos 0 ≤ℤ p) × (pos 0 ≤ℤ a)) ⊎ ((p ≤ℤ pos 0) × (a ≤ℤ pos 0))

-- Inner: lp/lq is at most n/d, rp/rq is at least m/e, and their cross products differ by 1. The gaps of lp/lq are lo to n/d, its own end,
-- and lt to m/e; those of rp/rq are ro to m/e and rt to n/d. A gap is the distance times both denominators
pub record Encloses (n d m e lp lq lo lt rp rq ro rt : ℤ) : Type 0 where
  pub low_left : n *ℤ lq ≡ lp *ℤ d +ℤ lo
  pub low_right : rp *ℤ d ≡ n *ℤ rq +ℤ rt
  pub high_left : m *ℤ lq ≡ lp *ℤ e +ℤ lt
  pub high_right : rp *ℤ e ≡ m *ℤ rq +ℤ ro
  pub unit : rp *ℤ lq ≡ lp *ℤ rq +ℤ pos 1
  pub left_denom : pos 0 <ℤ lq
  pub right_denom : pos 0 <ℤ rq
  pub left_own : pos 0 ≤ℤ lo
  pub right_own : pos 0 ≤ℤ ro
  pub left_other : pos 0 <ℤ lt
  pub right_other : pos 0 <ℤ rt
  pub side : IsOnOneSide lp rp

-- Inner: c is how often b may be taken from a so that something is left
-- Example: 3 from 7: 2 times; 3 from 9: 2 times
pub record IsRoom (a b c : ℤ) : Type 0 where
  pub up : pos 0 ≤ℤ c
  pub left : (b *ℤ c) <ℤ a
  pub next : a ≤ℤ (b *ℤ c +ℤ b)

-- Inner: the result is the fraction k steps from p/q towards a/b, and `None` if one of its numbers does not fit
abbrev pub ChecksStep : {T : Type 0} → (T → ℤ) → ℤ → ℤ → ℤ → ℤ → ℤ → ℤ → ℤ → Option (T × T) → Type 0
ChecksStep value lo hi p q a b k None = ¬ (IsHeld lo hi (p +ℤ a *ℤ k) × IsHeld lo hi (q +ℤ b *ℤ k))
ChecksStep value lo hi p q a b k (Some r) = (value r.0 ≡ p +ℤ a *ℤ k) × (value r.1 ≡ q +ℤ b *ℤ k)
