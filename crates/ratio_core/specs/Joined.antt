-- Sums over the product of two denominators, and over their least common multiple.
use Rattle.std.specs.Prelude.{◌≡◌, ◌+ℤ◌, ◌*ℤ◌, ℤ}
use Rattle.ratio_integer.specs.{Division.IsGcdOf, Fraction.IsLowestTerms, Range.IsHeld}

-- Inner: n/m is the sum of two fractions in lowest terms, over the product of their denominators b and d
-- Example: 28/60 is 1/6 + 3/10
pub record IsOverProduct (n m b d : ℤ) : Type 0 where
  pub left : ℤ
  pub right : ℤ
  pub left_lowest : IsLowestTerms left b
  pub right_lowest : IsLowestTerms right d
  pub numer : n ≡ left *ℤ d +ℤ right *ℤ b
  pub denom : m ≡ b *ℤ d

-- Inner: u and v are n and m, divided by the greatest common divisor of n and g, and in range
-- Example: 7 and 15 are 14 and 30, divided by that of 14 and 2
pub record IsCutBy (lo hi n m g u v : ℤ) : Type 0 where
  pub shared : ℤ
  pub gcd : IsGcdOf n g shared
  pub numer : u *ℤ shared ≡ n
  pub denom : v *ℤ shared ≡ m
  pub numer_held : IsHeld lo hi u
  pub denom_held : IsHeld lo hi v
