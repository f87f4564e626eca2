-- The sum of a list of fractions over any primitive type: why it is refused.
use Rattle.std.specs.Prelude.{◌+◌, ◌*◌, ◌^◌, ◌<◌, ◌≤◌, ℕ, ℤ, List, length}
use Rattle.ratio_natural.specs.Number.{base}
use Rattle.ratio_slots.specs.{Common.HasLongCommon, Totals.most_weight}
use Rattle.ratio_totals.specs.{ListSums.table_of, WideTotals.HasTotalRoom}
use Rattle.ratio_totals.specs.declared.wide_changes.WideRefusal.{WideRefusal, TheVariants.MoreDigits, TheVariants.MoreRoom, TheVariants.TooMany}

-- the room has place for a total with so many digits for its common denominator, and there are 8 spare digits for each of these and 6 more
-- Example: 2 digits, a room of 14 and 22 spare digits
pub record HasSumRoom (digits room spare : ℕ) : Type 0 where
  pub total : HasTotalRoom digits room
  pub spare_room : 8 * digits + 6 ≤ spare

-- why the items have no sum: too little room or too few spare digits, more than 2^63 - 1 items, or too few digits for the common denominator
-- Example: 1/(2^128 - 1), 1/(2^128 - 3) with 2 digits: `MoreDigits`
abbrev pub IsWideSumRefusedFor : {A : Type 0} → (A → ℤ × ℕ) → List A → ℕ → ℕ → ℕ → WideRefusal → Type 0
IsWideSumRefusedFor view items digits room spare MoreRoom = ¬ (HasSumRoom digits room spare)
IsWideSumRefusedFor view items digits room spare TooMany = most_weight < length items
IsWideSumRefusedFor view items digits room spare MoreDigits = HasLongCommon (table_of view items) (base ^ digits)
