-- The sum of a table, and its mean, in lowest terms.
use Rattle.std.specs.Prelude.{◌≡◌, ◌*◌, ◌<◌, ◌≤◌, ◌⊎◌, ◌<ℤ◌, ◌≤ℤ◌, ℕ, ℤ, pos, unsigned_abs, List, Option, Some, None}
use Rattle.ratio_integer.specs.Fraction.{IsLowestTermsOf}
use Rattle.ratio_natural.specs.Number.{base}
use Rattle.ratio_slots.specs.{Common.above_zero, Sums.SameSum, Sums.sum_of_slots, TotalLaws.SameNumerators}
use Rattle.ratio_slots.specs.declared.slots.Slot.{Slot}

-- p/q is the fraction x in lowest terms, and both numbers are below the bound, the numerator without its sign
-- Example: below 100, -16/252: -4/63
pub record IsPairBelow (bound : ℕ) (x : ℤ × ℕ) (p : ℤ) (q : ℕ) : Type 0 where
  pub terms : IsLowestTermsOf x.0 (pos x.1) p (pos q)
  pub numer_short : unsigned_abs p < bound
  pub denom_short : q < bound

-- in the lowest terms of the fraction x, one of the numbers is the bound or more, the numerator without its sign
-- Example: 100 and 1/100; not 2/100
pub record HasPairNotBelow (bound : ℕ) (x : ℤ × ℕ) : Type 0 where
  pub numer : ℤ
  pub denom : ℕ
  pub terms : IsLowestTermsOf x.0 (pos x.1) numer (pos denom)
  pub long : (bound ≤ unsigned_abs numer) ⊎ (bound ≤ denom)

-- the result is the fraction x in lowest terms, where both numbers are below the bound; elsewhere it is `None`
-- Example: below 100, -16/252: `Some((-4, 63))`
abbrev pub ChecksPairBelow : ℕ → ℤ × ℕ → Option (ℤ × ℕ) → Type 0
ChecksPairBelow bound x None = HasPairNotBelow bound x
ChecksPairBelow bound x (Some t) = IsPairBelow bound x t.0 t.1

-- p/q is the fraction x in lowest terms, and both numbers are below 2^64, the numerator without its sign
-- Example: -16/252: -4/63
abbrev pub IsShortPair : ℤ × ℕ → ℤ → ℕ → Type 0
IsShortPair = IsPairBelow base

-- in the lowest terms of the fraction x, one of the numbers is 2^64 or more, the numerator without its sign
-- Example: 1/2^64; not 2/2^64
abbrev pub HasLongPair : ℤ × ℕ → Type 0
HasLongPair = HasPairNotBelow base

-- the result is the fraction x in lowest terms, where both numbers are below 2^64; elsewhere it is `None`
-- Example: -16/252: `Some((-4, 63))`
abbrev pub ChecksShortPair : ℤ × ℕ → Option (ℤ × ℕ) → Type 0
ChecksShortPair = ChecksPairBelow base

-- the fraction x divided by a count, not reduced
-- Example: 64/1008 and 2: 64/2016
abbrev pub pair_mean : ℤ × ℕ → ℤ → ℤ × ℕ
pair_mean x count = (x.0, x.1 * above_zero count)

-- the mean of the table: its sum divided by the count of its fractions, not reduced
-- Example: 64/2016 in the table 1/36, 1/28
abbrev pub mean_of_slots : List Slot → ℤ → ℤ × ℕ
mean_of_slots slots count = pair_mean (sum_of_slots slots) count

-- the result is x divided by the count in lowest terms, if the count is above 0 and both numbers are below the bound; elsewhere it is `None`
-- Example: below 100, 64/1008 and 2: `Some((2, 63))`
abbrev pub ChecksMeanBelow : ℕ → ℤ × ℕ → ℤ → Option (ℤ × ℕ) → Type 0
ChecksMeanBelow bound x count None = (count ≤ℤ pos 0) ⊎ HasPairNotBelow bound (pair_mean x count)
ChecksMeanBelow bound x count (Some t) = (pos 0 <ℤ count) × IsPairBelow bound (pair_mean x count) t.0 t.1

-- the result is x divided by the count in lowest terms, if the count is above 0 and both numbers are below 2^64; elsewhere it is `None`
-- Example: 64/1008 and 2: `Some((2, 63))`
abbrev pub ChecksPairMean : ℤ × ℕ → ℤ → Option (ℤ × ℕ) → Type 0
ChecksPairMean = ChecksMeanBelow base

-- the result is the mean of the table in lowest terms, where the count is above 0 and both numbers are below 2^64; elsewhere it is `None`
-- Example: `Some((2, 63))` in the table 1/36, 1/28
abbrev pub ChecksMeanOfSlots : List Slot → ℤ → Option (ℤ × ℕ) → Type 0
ChecksMeanOfSlots slots count = ChecksPairMean (sum_of_slots slots) count

-- ---- laws

-- two tables with the same numerators have the same sum
-- Example: 1/36, 1/28 and 1/28, empty, 1/36
abbrev pub SumsAgree : Type 0
SumsAgree = (left right : List Slot) → SameNumerators left right → SameSum (sum_of_slots left) (sum_of_slots right)

-- two tables with the same numerators have the same result of `sum`
abbrev pub SumResultsAgree : Type 0
SumResultsAgree = (left right : List Slot) (r s : Option (ℤ × ℕ)) → SameNumerators left right
    → ChecksShortPair (sum_of_slots left) r → ChecksShortPair (sum_of_slots right) s → r ≡ s

-- two tables with the same numerators have the same result of `mean` for each count
abbrev pub MeanResultsAgree : Type 0
MeanResultsAgree = (left right : List Slot) (count : ℤ) (r s : Option (ℤ × ℕ)) → SameNumerators left right
    → ChecksMeanOfSlots left count r → ChecksMeanOfSlots right count s → r ≡ s
