-- The order of fractions, by their cross products.
use Rattle.std.specs.Prelude.{◌≡◌, ◌≢◌, ◌⊎◌, ◌≤ℤ◌, ◌<ℤ◌, ◌*ℤ◌, ℕ, ℤ, pos, negsuc, neg_ℤ, Bool, Result, Ok, Err, IsTrue}
use Rattle.std.specs.Ordering.{MatchOrdering, int_cmp}
use Rattle.std.specs.declared.cmp.Ordering.{Ordering}
use Rattle.ratio_integer.specs.{Division.IsFloored, Halves.AreHalves, Halves.IsHalfBase, Range.IsHeld}

-- -1 for a number below 0, and else 1
-- Example: 0: 1
abbrev pub sign : ℤ → ℤ
sign (pos n) = pos 1
sign (negsuc n) = negsuc 0

-- the order of n*e and m*d, for n/d and m/e; it is reversed where d*e is below 0
-- Example: 1/2 and 2/3: 3 < 4, so `Less`
unfoldable pub cross_cmp : ℤ → ℤ → ℤ → ℤ → Ordering
cross_cmp n d m e = int_cmp (sign (d *ℤ e) *ℤ (n *ℤ e)) (sign (d *ℤ e) *ℤ (m *ℤ d))

-- one of two numbers is below 0, and the other is not
-- Example: -1 and 0
abbrev pub HaveUnlikeSigns : ℤ → ℤ → Type 0
HaveUnlikeSigns d e = ((d <ℤ pos 0) × (pos 0 ≤ℤ e)) ⊎ ((pos 0 ≤ℤ d) × (e <ℤ pos 0))

-- both cross products of n/d and m/e, n·e and m·d, are in range
-- Example: not 100/3 and 99/2
pub record AreProductsHeld (lo hi n d m e : ℤ) : Type 0 where
  pub left : IsHeld lo hi (n *ℤ e)
  pub right : IsHeld lo hi (m *ℤ d)

-- Inner: the product z of two numbers, in range or not, as half digits: low and middle are below the half base, and high is the rest
-- Example: 100·100 over `i8`: 39, 1 and 0, since 10000 is (39·16 + 1)·16 + 0
pub record AreHalfDigits (lo hi z high middle low : ℤ) : Type 0 where
  pub rest : ℤ
  pub last : AreHalves lo hi z rest low
  pub first : AreHalves lo hi rest high middle

-- Inner: both numbers are low halves: they lie from 0 to the half base of the type, which is not among them
pub record AreLowHalves (lo hi a b : ℤ) : Type 0 where
  pub base : ℕ
  pub is_base : IsHalfBase lo hi base
  pub left_above : pos 0 ≤ℤ a
  pub left_below : a <ℤ pos base
  pub right_above : pos 0 ≤ℤ b
  pub right_below : b <ℤ pos base

-- both denominators are positive, and they are equal or just one numerator is below 0; then the numerators have the order of the fractions
-- Example: -1/2 and 1/3
abbrev pub DoNumeratorsDecide : ℤ → ℤ → ℤ → ℤ → Type 0
DoNumeratorsDecide n d m e = (pos 0 <ℤ d) × (pos 0 <ℤ e) × ((d ≡ e) ⊎ HaveUnlikeSigns n m)

-- the cross products of n/d and m/e are compared as half digits, if `halved` holds: both denominators have four binary digits or more, both
-- numerators are below 0 or neither is, and neither is -hi-1
-- Example: 100/9 and 99/8, and not 100/9 and 99/2
pub record DoHalvesDecide (halved : Bool) (hi n d m e : ℤ) : Type 0 where
  pub base : IsTrue halved
  pub left_long : pos 8 ≤ℤ d
  pub right_long : pos 8 ≤ℤ e
  pub alike : ¬ (HaveUnlikeSigns n m)
  pub left_held : neg_ℤ hi ≤ℤ n
  pub right_held : neg_ℤ hi ≤ℤ m

-- Inner: the order of q and the floored quotient of n/d, which is at most hi, and not q
pub record IsOrderOfQuotients (hi q n d : ℤ) (order : Ordering) : Type 0 where
  pub quotient : ℤ
  pub rest : ℤ
  pub floored : IsFloored n d quotient rest
  pub below : quotient ≤ℤ hi
  pub apart : MatchOrdering order (q <ℤ quotient) ⊥ (quotient <ℤ q)

-- Inner: the result is the rest of n/d if q is its floored quotient, and else the order of q and that quotient
abbrev pub FollowsQuotient : {T : Type 0} → (T → ℤ) → ℤ → ℤ → ℤ → ℤ → Result T Ordering → Type 0
FollowsQuotient value hi q n d (Ok rest) = IsFloored n d q (value rest)
FollowsQuotient value hi q n d (Err order) = IsOrderOfQuotients hi q n d order

-- Inner: o is the order of the whole parts p and q with the rests r and s. If p is q, no rest is below a rest, and two without one are equal
abbrev pub IsOrderOfParts : ℤ → ℤ → ℤ → ℤ → Ordering → Type 0
IsOrderOfParts p r q s o =
    MatchOrdering o
    ((p <ℤ q) ⊎ ((p ≡ q) × (r ≡ pos 0) × (s ≢ pos 0)))
    ((p ≡ q) × (r ≡ pos 0) × (s ≡ pos 0))
    ((q <ℤ p) ⊎ ((p ≡ q) × (r ≢ pos 0) × (s ≡ pos 0)))
