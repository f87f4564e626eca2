-- The sum of a table, rounded to a multiple of 1/parts.
use Rattle.std.specs.Prelude.{◌+◌, ◌<◌, ◌≤◌, ◌*ℤ◌, ℕ, ℤ, pos, List, Option}
use Rattle.ratio_decimal.specs.RoundingRules.{IsRoundedBy}
use Rattle.ratio_decimal.specs.declared.rounding_rule.Rounding.{Rounding}
use Rattle.ratio_natural.specs.Number.{base}
use Rattle.ratio_slots.specs.Common.{HasLongCommon, most_common, read_digits}
use Rattle.ratio_slots.specs.LowestSum.{ChecksPairBelow}
use Rattle.ratio_slots.specs.declared.reading.ReadRefusal.{ReadRefusal, TheVariants.MoreRoom, TheVariants.TooLong}
use Rattle.ratio_slots.specs.declared.slots.Slot.{Slot}

-- the result is z/parts in lowest terms, where z is x times parts, rounded by the rule, if both are below the bound; elsewhere it is `None`
-- Example: below 100, 16/252 in hundredths by `HalfEven`: 6/100, so `Some((3, 50))`
pub record ChecksMultipleBelow (bound : ℕ) (rule : Rounding) (parts : ℕ) (x : ℤ × ℕ) (result : Option (ℤ × ℕ)) : Type 0 where
  pub number : ℤ
  pub rounded : IsRoundedBy rule (x.0 *ℤ pos parts) (pos x.1) number
  pub terms : ChecksPairBelow bound (number, parts) result

-- the result is z/parts in lowest terms, where z is x times parts, rounded by the rule, if both numbers are below 2^64; elsewhere it is `None`
-- Example: 16/252 in hundredths by `HalfEven`: 6/100, so `Some((3, 50))`
abbrev pub ChecksMultiple : Rounding → ℕ → ℤ × ℕ → Option (ℤ × ℕ) → Type 0
ChecksMultiple = ChecksMultipleBelow base

-- the digits that rounding to a multiple needs: those of a read, and 6 more
-- Example: 20 in the table 36, empty, 28
abbrev pub multiple_digits : List Slot → ℕ
multiple_digits slots = read_digits slots + 6

-- why a total was not rounded: the room has fewer digits than this needs, or it has enough and the common denominator is too long
-- Example: 19 digits for the table 36, empty, 28: `MoreRoom`
abbrev pub IsMultipleRefusedFor : List Slot → ℕ → ReadRefusal → Type 0
IsMultipleRefusedFor slots room MoreRoom = room < multiple_digits slots
IsMultipleRefusedFor slots room TooLong = (multiple_digits slots ≤ room) × HasLongCommon slots most_common
