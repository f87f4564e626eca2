-- The sum of a table in machine numbers.
use Rattle.std.specs.Prelude.{◌≡◌, ◌*◌, ◌^◌, ◌<◌, ◌<ℤ◌, ◌+ℤ◌, ◌*ℤ◌, ℕ, ℤ, pos, List}
use Rattle.ratio_slots.specs.{Common.AreParts, Common.IsCommonOf, LowestSum.mean_of_slots, Sums.SameSum, Sums.sum_of_slots}
use Rattle.ratio_slots.specs.declared.slots.Slot.{Slot}

-- n/d has the value of the sum of the table, d is the common denominator, and d is below 2^127
-- Example: 16/252 for 1/36, 1/28
pub record IsShortSum (slots : List Slot) (n : ℤ) (d : ℕ) : Type 0 where
  pub common : IsCommonOf slots d
  pub value : SameSum (n, d) (sum_of_slots slots)
  pub below : d < 2 ^ 127

-- n/d has the value of the mean of the table, the count is above 0, and d is above 0 and below 2^127
-- Example: 16/504 for 1/36, 1/28 with the count 2
pub record IsShortMean (slots : List Slot) (count n : ℤ) (d : ℕ) : Type 0 where
  pub counted : pos 0 <ℤ count
  pub value : SameSum (n, d) (mean_of_slots slots count)
  pub some : 0 < d
  pub below : d < 2 ^ 127

-- new/next is sum/common plus n/d, where next is the least common multiple of common and d, and below 2^127
-- Example: 1/36 plus 1/28: 16/252
pub record AddsShort (sum : ℤ) (common : ℕ) (n : ℤ) (d : ℕ) (new : ℤ) (next : ℕ) : Type 0 where
  pub share : ℕ
  pub more : ℕ
  pub parts : AreParts common d share more
  pub numer_is : new ≡ sum *ℤ pos more +ℤ n *ℤ pos share
  pub denom_is : next ≡ common * more
  pub below : next < 2 ^ 127
