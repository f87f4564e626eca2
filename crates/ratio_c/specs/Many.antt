-- The product of many fractions divided by many others.
use Rattle.std.specs.Prelude.{◌≡◌, ◌≢◌, ◌+◌, ◌*◌, ◌≤◌, ◌<ℤ◌, ℕ, pos, All, List, length}
use Rattle.ratio_integer.specs.Fraction.{ChecksLowest}
use Rattle.ratio_integer.specs.SignedBits.{greatest64, least64}
use Rattle.num_rational.specs.ManyProducts.{quotient_of_items}
use Rattle.ratio_c.specs.declared.numbers64.Fraction64.{Fraction64}
use Rattle.ratio_c.specs.Calls.{Tested}
use Rattle.ratio_c.specs.Codes.{code_denominator_not_positive, code_division_by_zero, code_more_room}
use Rattle.ratio_c.specs.Crossing.{Said, Says, refused}
use Rattle.ratio_c.specs.Numbers64.{fraction64}

-- each denominator is positive
-- Example: not 1/2, 1/-3
abbrev pub AreOverPositive : List Fraction64 → Type 0
AreOverPositive xs = All (λ x. pos 0 <ℤ x.denom) xs

-- no numerator is 0
-- Example: not 1/2, 0/3
abbrev pub AreNotZero : List Fraction64 → Type 0
AreNotZero xs = All (λ x. x.numer ≢ pos 0) xs

-- the product of the fractions xs divided by each of the fractions ys, in lowest terms, or the code 1 exactly where these do not fit. The code
-- 10 is for a room with fewer than two numbers a fraction, then 3 for a denominator that is not positive, then 2 for a fraction of ys that is 0
-- Example: 2/3, 3/7 and 5/2 with a room of 6: 4/35; with a room of 5: code 10
abbrev pub IsQuotientOfMany : List Fraction64 → List Fraction64 → ℕ → Said → Type 0
IsQuotientOfMany xs ys room answer =
    Tested (2 * (length xs + length ys) ≤ room)
    (Tested (AreOverPositive xs × AreOverPositive ys)
    (Tested (AreNotZero ys) (Says (ChecksLowest (λ z. z.0) (λ z. z.1) least64 greatest64 (quotient_of_items fraction64 xs fraction64 ys)) answer)
    (answer ≡ refused code_division_by_zero))
    (answer ≡ refused code_denominator_not_positive))
    (answer ≡ refused code_more_room)
