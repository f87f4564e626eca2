-- The results of two fractions a/b and c/d as pairs that are not reduced, and when a sum, a difference and a remainder can be computed.
use Rattle.std.specs.Prelude.{◌≡◌, ◌≢◌, ◌≤ℤ◌, ◌<ℤ◌, ◌+ℤ◌, ◌-ℤ◌, ◌*ℤ◌, ℤ, pos, int_div}
use Rattle.ratio_integer.specs.{Division.IsMultiple, Range.IsHeld}

-- a/b times c/d, not reduced: (ac)/(bd)
-- Example: 3/4 and 1/2: 3/8
abbrev pub product_of : ℤ → ℤ → ℤ → ℤ → ℤ × ℤ
product_of a b c d = (a *ℤ c, b *ℤ d)

-- a/b divided by c/d, not reduced: (ad)/(bc)
-- Example: 3/4 and 1/2: 6/4
abbrev pub quotient_of : ℤ → ℤ → ℤ → ℤ → ℤ × ℤ
quotient_of a b c d = (a *ℤ d, b *ℤ c)

-- a/b + c/d, not reduced: (ad + cb)/(bd)
-- Example: 3/4 and 1/2: 10/8
abbrev pub sum_of : ℤ → ℤ → ℤ → ℤ → ℤ × ℤ
sum_of a b c d = (a *ℤ d +ℤ c *ℤ b, b *ℤ d)

-- a/b - c/d, not reduced: (ad - cb)/(bd)
-- Example: 3/4 and 1/2: 2/8
abbrev pub difference_of : ℤ → ℤ → ℤ → ℤ → ℤ × ℤ
difference_of a b c d = (a *ℤ d -ℤ c *ℤ b, b *ℤ d)

-- a/b - t·c/d, not reduced: (ad - t·cb)/(bd). Here t is the quotient ad/(bc), cut towards zero
-- Example: 3/4 and 1/2: t is 1, so 2/8
abbrev pub remainder_of : ℤ → ℤ → ℤ → ℤ → ℤ × ℤ
remainder_of a b c d = (a *ℤ d -ℤ int_div (a *ℤ d) (b *ℤ c) *ℤ (c *ℤ b), b *ℤ d)

-- l is the least positive number that is a multiple of b and of d
-- Example: 4 and 6: 12
pub record IsLeastCommon (b d l : ℤ) : Type 0 where
  pub positive : pos 0 <ℤ l
  pub first : IsMultiple l b
  pub second : IsMultiple l d
  pub least : (m : ℤ) → pos 0 <ℤ m → IsMultiple m b → IsMultiple m d → l ≤ℤ m

-- p/l and q/l have the values of a/b and c/d, and l is the least common denominator
-- Example: 3/4 and 1/6: 9/12 and 2/12
pub record IsScaled (a b c d l p q : ℤ) : Type 0 where
  pub least : IsLeastCommon b d l
  pub left : p *ℤ b ≡ a *ℤ l
  pub right : q *ℤ d ≡ c *ℤ l

-- `IsScaled`, and l, p and q are in range
pub record IsHeldScaled (lo hi a b c d l p q : ℤ) : Type 0 where
  pub scaled : IsScaled a b c d l p q
  pub common_held : IsHeld lo hi l
  pub left_held : IsHeld lo hi p
  pub right_held : IsHeld lo hi q

-- the least common denominator of a/b and c/d is in range, and so are the numerators over it
-- Example: 3/4 and 1/6: 12, 9 and 2 fit
pub record ScaledHeld (lo hi a b c d : ℤ) : Type 0 where
  pub common : ℤ
  pub left : ℤ
  pub right : ℤ
  pub held : IsHeldScaled lo hi a b c d common left right

-- the least common denominator of a/b and c/d is in range, and so are the numerators over it and their sum
-- Example: not 1/30 and 1/70: 210 does not fit
pub record SumHeld (lo hi a b c d : ℤ) : Type 0 where
  pub common : ℤ
  pub left : ℤ
  pub right : ℤ
  pub held : IsHeldScaled lo hi a b c d common left right
  pub sum_held : IsHeld lo hi (left +ℤ right)

-- the least common denominator of a/b and c/d is in range, and so are the numerators over it and their difference
pub record DifferenceHeld (lo hi a b c d : ℤ) : Type 0 where
  pub common : ℤ
  pub left : ℤ
  pub right : ℤ
  pub held : IsHeldScaled lo hi a b c d common left right
  pub difference_held : IsHeld lo hi (left -ℤ right)

-- c is not 0, and the least common denominator and the numerators over it are in range
pub record RemainderHeld (lo hi a b c d : ℤ) : Type 0 where
  pub divisor : c ≢ pos 0
  pub held : ScaledHeld lo hi a b c d
