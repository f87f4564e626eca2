-- A sale of a part of a share: what the seller keeps, what the buyer gains, and the total of both.
use Rattle.std.specs.Prelude.{ℤ}
use Rattle.ratio_integer.specs.Arithmetic.{difference_of, product_of, sum_of}
use Rattle.ratio_integer.specs.Fraction.{SameValue}
use Rattle.ratio_integer.specs.SignedBits.{Fits64}
use Rattle.ratio_big.specs.Fractions.{big_numbers}
use Rattle.ratio_big.specs.Values.{HasTerms, IsShort, NeedsNoMemory}
use Rattle.ratio_big.specs.declared.fraction.BigFraction.{BigFraction}

-- what is sold: a part of the seller's share, not reduced
-- Example: 1/4 of 1/2: 1/8
abbrev pub sold_of : BigFraction → BigFraction → ℤ × ℤ
sold_of seller part = product_of (big_numbers seller).0 (big_numbers seller).1 (big_numbers part).0 (big_numbers part).1

-- the seller's share less what is sold, not reduced
-- Example: 1/2 less 1/4 of it: 6/16
abbrev pub rest_of : BigFraction → BigFraction → ℤ × ℤ
rest_of seller part = difference_of (big_numbers seller).0 (big_numbers seller).1 (sold_of seller part).0 (sold_of seller part).1

-- the buyer's share plus what is sold, not reduced
-- Example: 1/3 plus 1/4 of 1/2: 11/24
abbrev pub gain_of : BigFraction → BigFraction → BigFraction → ℤ × ℤ
gain_of buyer seller part = sum_of (big_numbers buyer).0 (big_numbers buyer).1 (sold_of seller part).0 (sold_of seller part).1

-- `rest` is the seller's share less what is sold, in lowest terms
-- Example: 1/2 less 1/4 of it: 3/8
abbrev pub SellerKeeps : BigFraction → BigFraction → BigFraction → Type 0
SellerKeeps seller part rest = HasTerms (rest_of seller part) (big_numbers rest)

-- `more` is the buyer's share plus what is sold, in lowest terms
-- Example: 1/3 plus 1/4 of 1/2: 11/24
abbrev pub BuyerGains : BigFraction → BigFraction → BigFraction → BigFraction → Type 0
BuyerGains buyer seller part more = HasTerms (gain_of buyer seller part) (big_numbers more)

-- the new shares add up to the same as the old ones
-- Example: 1/2 and 1/3, then 3/8 and 11/24: 5/6
abbrev pub HaveSameTotal : BigFraction → BigFraction → BigFraction → BigFraction → Type 0
HaveSameTotal seller buyer rest more =
    let old = sum_of (big_numbers seller).0 (big_numbers seller).1 (big_numbers buyer).0 (big_numbers buyer).1 in
    let new = sum_of (big_numbers rest).0 (big_numbers rest).1 (big_numbers more).0 (big_numbers more).1 in
    SameValue old.0 old.1 new.0 new.1

-- the two numbers of the pair's lowest terms lie from -2^63 to 2^63-1
-- Example: 2/4; not 1/2^64
abbrev pub HasShortTerms : ℤ × ℤ → Type 0
HasShortTerms x = Fits64 x

-- the shares and the part are short, and so are the lowest terms of what is sold and of both new shares: such a sale needs no memory
-- Example: 1/2, 1/3 and the part 1/4
pub record IsShortSale (seller buyer part : BigFraction) : Type 0 where
  pub sold : NeedsNoMemory (big_numbers seller) (big_numbers part) (sold_of seller part)
  pub rest : HasShortTerms (rest_of seller part)
  pub buyer_short : IsShort (big_numbers buyer)
  pub more : HasShortTerms (gain_of buyer seller part)
