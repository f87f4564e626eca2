-- Whole numbers near n/d, where d is above 0, by inequalities between whole numbers.
use Rattle.std.specs.Prelude.{◌≡◌, ◌*◌, ◌≤◌, ◌≤ℤ◌, ◌<ℤ◌, ◌+ℤ◌, ◌-ℤ◌, ◌*ℤ◌, ℤ, pos, neg_ℤ, unsigned_abs, Option}
use Rattle.ratio_integer.specs.Range.{Checks}

-- f is the floor of n/d: f ≤ n/d < f + 1
-- Example: -7/2: -4
pub record IsFloor (n d f : ℤ) : Type 0 where
  pub at_most : (f *ℤ d) ≤ℤ n
  pub next_above : n <ℤ (f *ℤ d +ℤ d)

-- c is the ceiling of n/d: c - 1 < n/d ≤ c
-- Example: -7/2: -3
pub record IsCeiling (n d c : ℤ) : Type 0 where
  pub last_below : (c *ℤ d -ℤ d) <ℤ n
  pub at_least : n ≤ℤ (c *ℤ d)

-- t is n/d cut towards zero: the floor if n/d is not below 0, and the ceiling if it is not above 0
-- Example: -7/2: -3
pub record IsTruncation (n d t : ℤ) : Type 0 where
  pub floor : pos 0 ≤ℤ n → IsFloor n d t
  pub ceiling : n ≤ℤ pos 0 → IsCeiling n d t

-- f is n - t·d, where t is the truncation of n/d
-- Example: -7/2: -1
pub record IsFractionalPart (n d f : ℤ) : Type 0 where
  pub whole : ℤ
  pub truncation : IsTruncation n d whole
  pub sum : n ≡ whole *ℤ d +ℤ f

-- r is at most a half from n/d: -1 ≤ 2·n/d - 2·r ≤ 1
-- Example: 5/2: 2 and 3
pub record IsWithinHalf (n d r : ℤ) : Type 0 where
  pub above : neg_ℤ d ≤ℤ (pos 2 *ℤ n -ℤ pos 2 *ℤ (r *ℤ d))
  pub below : (pos 2 *ℤ n -ℤ pos 2 *ℤ (r *ℤ d)) ≤ℤ d

-- r is n/d rounded: at most a half from n/d, and of two such numbers the one further from 0
-- Example: 5/2: 3
pub record IsRounded (n d r : ℤ) : Type 0 where
  pub near : IsWithinHalf n d r
  pub furthest : (s : ℤ) → IsWithinHalf n d s → unsigned_abs s ≤ unsigned_abs r

-- the result is the truncation of n/d, where it lies from lo to hi; elsewhere it is `None`
-- Example: 300/2: `None`
abbrev pub ChecksTruncation : {R : Type 0} → (R → ℤ) → ℤ → ℤ → ℤ → ℤ → Option R → Type 0
ChecksTruncation value lo hi n d result = (t : ℤ) × IsTruncation n d t × Checks value lo hi t result

-- Inner: r is nearer to 0 than d
pub record IsRest (d r : ℤ) : Type 0 where
  pub above : neg_ℤ d <ℤ r
  pub below : r <ℤ d

-- Inner: n is q·d + r, r is nearer to 0 than d, and q and r are each 0 or of n's sign
-- Example: -7 by 2: -3 and -1
pub record IsTruncatedDivision (n d q r : ℤ) : Type 0 where
  pub sum : n ≡ q *ℤ d +ℤ r
  pub rest : IsRest d r
  pub above : pos 0 ≤ℤ n → (pos 0 ≤ℤ q) × (pos 0 ≤ℤ r)
  pub below : n ≤ℤ pos 0 → (q ≤ℤ pos 0) × (r ≤ℤ pos 0)

-- Inner: twice r is nearer to 0 than d
abbrev pub IsBelowHalf : ℤ → ℤ → Type 0
IsBelowHalf d r = pos (2 * unsigned_abs r) <ℤ d
