-- The laws of floors, ceilings and remainders of fractions of any size. A fraction is a pair here, and a premise only says what a call returned.
use Rattle.std.specs.Prelude.{◌≡◌, ◌≢◌, ◌≤ℤ◌, ◌+ℤ◌, ◌*ℤ◌, ℤ, pos, neg_ℤ, int_div}
use Rattle.std.specs.declared.cmp.Ordering.TheVariants.{Less}
use Rattle.ratio_integer.specs.Arithmetic.{remainder_of}
use Rattle.ratio_core.specs.Laws.{IsProduct, IsSum}
use Rattle.ratio_core.specs.Rounding.{IsCeiling, IsFloor}
use Rattle.ratio_big.specs.Values.{HasTerms, absolute_pair}
use Rattle.ratio_laws.specs.BigOrderLaws.{pair_order}

-- P of x + n is P of x, plus n, for a whole number n. P is a kind of whole number near a fraction
-- Example: the floor of 7/2 + 2 is 3 + 2
abbrev pub MovesByWhole : (ℤ → ℤ → ℤ → Type 0) → ℤ × ℤ → ℤ × ℤ → Type 0
MovesByWhole P x n = (sum : ℤ × ℤ) (near other : ℤ) → n.1 ≡ pos 1 → IsSum x n sum → P x.0 x.1 near → P sum.0 sum.1 other → other ≡ near +ℤ n.0

-- the ceiling of x is -floor(-x)
-- Example: -7/2: -3
abbrev pub HasCeilingOfNegative : ℤ × ℤ → Type 0
HasCeilingOfNegative x = (floor ceiling : ℤ) → IsFloor (neg_ℤ x.0) x.1 floor → IsCeiling x.0 x.1 ceiling → ceiling ≡ neg_ℤ floor

-- z is the remainder of x by y in lowest terms
-- Example: 3/4 and 1/2: 1/4
abbrev pub IsRemainderOf : ℤ × ℤ → ℤ × ℤ → ℤ × ℤ → Type 0
IsRemainderOf x y z = (y.0 ≢ pos 0) × HasTerms (remainder_of x.0 x.1 y.0 y.1) z

-- x / y, cut towards 0, over 1
-- Example: -7/2 by 2/3: -5/1
abbrev pub whole_quotient : ℤ × ℤ → ℤ × ℤ → ℤ × ℤ
whole_quotient x y = (int_div (x.0 *ℤ y.1) (x.1 *ℤ y.0), pos 1)

-- x is q * y plus the remainder, for the whole number q that is x / y cut towards 0
abbrev pub IsMultipleAndRest : ℤ × ℤ → ℤ × ℤ → Type 0
IsMultipleAndRest x y = (rest product sum : ℤ × ℤ) → IsRemainderOf x y rest → IsProduct (whole_quotient x y) y product → IsSum product rest sum → sum ≡ x

-- the remainder of x by y is nearer to 0 than z
-- Example: that of 3/4 by 1/2 than 1/2
abbrev pub HasRestBelow : ℤ × ℤ → ℤ × ℤ → ℤ × ℤ → Type 0
HasRestBelow x y z = (rest : ℤ × ℤ) → IsRemainderOf x y rest → pair_order (absolute_pair rest) (absolute_pair z) ≡ Less

-- the remainder of x by y is 0 or has the sign of z
-- Example: that of -3/4 by 1/2 the sign of -3/4
abbrev pub HasRestOfSign : ℤ × ℤ → ℤ × ℤ → ℤ × ℤ → Type 0
HasRestOfSign x y z = (rest : ℤ × ℤ) → IsRemainderOf x y rest → (pos 0 ≤ℤ z.0 → pos 0 ≤ℤ rest.0) × (z.0 ≤ℤ pos 0 → rest.0 ≤ℤ pos 0)
