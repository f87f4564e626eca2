-- Shares over a common denominator. In the examples the shares are 1/2, 1/3 and 1/6.
use Rattle.std.specs.Prelude.{◌+◌, ◌<◌, ◌≤ℤ◌, ◌<ℤ◌, ℕ, ℤ, pos, All, List, slice_index_or, take}
use Rattle.ratio_integer.specs.{Arithmetic.sum_of, Division.IsMultiple, Fraction.SameValue}
use Rattle.num_rational.specs.Split.{MarkFits, NoShareIsBelowZero, SharesMakeOne, SharesOverPositive, total_of_shares}

-- Inner: x is a whole number over c
-- Example: 1/3 is 2/6
pub record IsWholeOver (c : ℤ) (x : ℤ × ℤ) : Type 0 where
  pub number : ℤ
  pub same : SameValue x.0 x.1 number c

-- Inner: s/c is x + y, c is a positive multiple of the denominator of x, and y is a whole number over c
-- Example: 1/2 + 1/3 is 5/6
pub record IsSumOver (x y : ℤ × ℤ) (s c : ℤ) : Type 0 where
  pub up : pos 0 <ℤ c
  pub same : SameValue (sum_of x.0 x.1 y.0 y.1).0 (sum_of x.0 x.1 y.0 y.1).1 s c
  pub first : IsMultiple c x.1
  pub second : IsWholeOver c y

-- Inner: what must fit for the first n shares (`MarksFit`)
abbrev pub FirstMarksFit : {A : Type 0} → (A → ℤ × ℤ) → ℤ → ℤ → ℤ → List A → ℕ → Type 0
FirstMarksFit view lo hi amount shares n = (k : ℕ) → k < n → MarkFits lo hi amount (total_of_shares view (take (k + 1) shares))

-- Inner: s/c is the sum of the first n shares and at most 1, each of these shares is a whole number over c, and what must fit for them does
-- Example: 5/6 for n = 2
pub record IsTotalOver {A : Type 0} (view : A → ℤ × ℤ) (lo hi amount : ℤ) (shares : List A) (n : ℕ) (s c : ℤ) : Type 0 where
  pub up : pos 0 <ℤ c
  pub at_most : s ≤ℤ c
  pub same : SameValue (total_of_shares view (take n shares)).0 (total_of_shares view (take n shares)).1 s c
  pub whole : (k : ℕ) → k < n → (share : A) → IsWholeOver c (view (slice_index_or shares k share))
  pub fit : FirstMarksFit view lo hi amount shares n

-- Inner: x lies from 0 to 1, and is a whole number over c
-- Example: 1/3, for c = 6
pub record IsPartOver (c : ℤ) (x : ℤ × ℤ) : Type 0 where
  pub up : pos 0 <ℤ x.1
  pub above : pos 0 ≤ℤ x.0
  pub below : x.0 ≤ℤ x.1
  pub whole : IsWholeOver c x

-- Inner: the shares add up to 1, none is below 0, and each is a whole number over c, which is above 0
-- Example: c = 6
pub record AreSharesOver {A : Type 0} (view : A → ℤ × ℤ) (c : ℤ) (shares : List A) : Type 0 where
  pub common : pos 0 <ℤ c
  pub positive : SharesOverPositive view shares
  pub none_below : NoShareIsBelowZero view shares
  pub one : SharesMakeOne view shares
  pub whole : All (λ share. IsWholeOver c (view share)) shares
