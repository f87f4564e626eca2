-- Fractions as a total takes them, and the sum of a total.
use Rattle.std.specs.Prelude.{◌*◌, ◌⊎◌, ◌<ℤ◌, ◌≤ℤ◌, ℕ, ℤ, neg_ℤ, pos, unsigned_abs, Option, Some, None, List, [], ◌∷◌}
use Rattle.ratio_integer.specs.Fraction.{Fits, IsHeldLowest}
use Rattle.ratio_slots.specs.{Common.above_zero, Joined.joined_pair}
use Rattle.ratio_slots.specs.Sums.{SameSum, pair_sum, sum_of_slots}
use Rattle.ratio_slots.specs.declared.slots.Slot.{Slot}
use Rattle.num_rational.specs.declared.reduced.Reduced.{Reduced}
use Rattle.num_rational.specs.Ratio.{ChecksRatio, denominator, numerator}
use Rattle.num_rational.specs.Reduced.{ratio_in, ratio_of}
use Rattle.ratio_totals.specs.declared.total.Total.{Total}
use Rattle.ratio_totals.specs.declared.wide_total.WideTotal.{WideTotal}

-- the numerator of a fraction, and its denominator as a natural number
-- Example: -1/2: -1 and 2
abbrev pub pair_of : {T : _} {i : _} {o : _} {e : _} {p : _} {h : _} → Reduced T i o e p h → ℤ × ℕ
pair_of x = (numerator (ratio_of x), unsigned_abs (denominator (ratio_of x)))

-- the slots of a total
abbrev pub slots_of : {T : Type 0} → Total T → List Slot
slots_of total = total.slots.now

-- the sum of the fractions in a total, not reduced: its numerator and its denominator
-- Example: 1/36, 1/28: 64/1008
abbrev pub value_of : {T : Type 0} → Total T → ℤ × ℕ
value_of total = sum_of_slots total.slots.now

-- the sum of the fractions in a wide total over their common denominator
-- Example: 1/36, 1/28: 16/252
abbrev pub wide_value_of : {T : Type 0} → WideTotal T → ℤ × ℕ
wide_value_of total = joined_pair total.joined.digits total.room.now

-- the pair with the sign of its numerator turned
-- Example: 1/2: -1/2
abbrev pub opposite_of : ℤ × ℕ → ℤ × ℕ
opposite_of x = (neg_ℤ x.0, x.1)

-- the value `new` is `old` and x together
-- Example: 1/36 and 1/28: 4/63
abbrev pub GrowsBy : ℤ × ℕ → ℤ × ℕ → ℤ × ℕ → Type 0
GrowsBy x old new = SameSum (pair_sum old x) new

-- the result is the lowest terms of the pair x, where they fit the type; elsewhere it is `None`
-- Example: 64/1008: `Some(4/63)`
abbrev pub ChecksReducedTerms : {T : _} {i : _} {o : _} {e : _} {p : _} {h : _} → ℤ × ℕ → Option (Reduced T i o e p h) → Type 0
ChecksReducedTerms x result = ChecksRatio (x.0, pos x.1) (ratio_in result)

-- a sum divided by a count, not reduced
-- Example: 64/1008 and 2: 64/2016
abbrev pub mean_of : ℤ × ℕ → ℤ → ℤ × ℕ
mean_of sum count = (sum.0, sum.1 * above_zero count)

-- the result is the lowest terms of the sum divided by the count, where the count is above 0 and they fit the type; elsewhere it is `None`
-- Example: 64/1008 and 2: `Some(2/63)`
abbrev pub ChecksReducedMean : {T : _} {i : _} {o : _} {e : _} {p : _} {h : _} → ℤ × ℕ → ℤ → Option (Reduced T i o e p h) → Type 0
ChecksReducedMean {i = i} sum count None = (count ≤ℤ pos 0) ⊎ (¬ (Fits i.lo i.hi (mean_of sum count).0 (pos (mean_of sum count).1)))
ChecksReducedMean {i = i} sum count (Some r) = (pos 0 <ℤ count) × IsHeldLowest i.lo i.hi (mean_of sum count).0 (pos (mean_of sum count).1) (numerator (ratio_of r)) (denominator (ratio_of r))

-- the sum of the items of a list, not reduced: its numerator and its denominator. `view` gives an item as a numerator and a denominator
-- Example: 1/36, 1/28: 64/1008
abbrev pub sum_of_items : {A : Type 0} → (A → ℤ × ℕ) → List A → ℤ × ℕ
sum_of_items view [] = (pos 0, 1)
sum_of_items view (x ∷ xs) = pair_sum (view x) (sum_of_items view xs)
