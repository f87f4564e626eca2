-- Why a sum of a list fails where the call takes memory.
use Rattle.std.specs.Prelude.{◌<◌, ℕ, ℤ, List, codes, length}
use Rattle.ratio_slots.specs.{Common.HasLongCommon, Common.most_common, Totals.most_weight}
use Rattle.ratio_totals.specs.ListSums.{table_of}
use Rattle.ratio_totals.specs.declared.in_memory.SumFailure.{SumFailure, TheVariants.NoMemory, TheVariants.TooLong, TheVariants.TooMany}

-- why the items have no sum: they are more than 2^63 - 1, or their common denominator is too long. A failed allocation says nothing of them
-- Example: 1/p for 20,000 primes p of 64 bits: `TooLong`
abbrev pub IsSumFailureFor : {A : Type 0} → (A → ℤ × ℕ) → List A → SumFailure → Type 0
IsSumFailureFor view items NoMemory = Unit {0}
IsSumFailureFor view items TooMany = most_weight < length items
IsSumFailureFor view items TooLong = HasLongCommon (table_of view items) most_common

-- the text that a `SumFailure` prints
-- Example: `NoMemory`: `an allocation failed`
abbrev pub sum_failure_text : SumFailure → List ℕ
sum_failure_text NoMemory = codes "an allocation failed"
sum_failure_text TooMany = codes "the items are more than 2^63 - 1"
sum_failure_text TooLong = codes "the common denominator is not below 2^(2^20)"
