-- What the bounds of a total's sum say: its decimal, where they decide.
use Rattle.std.specs.Prelude.{◌+◌, ◌/◌, ◌^◌, ◌<◌, ◌⊎◌, ℕ, List}
use Rattle.ratio_natural.specs.Number.{base}
use Rattle.ratio_slots.specs.{Bounds.RoundsApart, DecimalRoom.HasBoundedRoom, Sums.sum_of_slots}
use Rattle.ratio_slots.specs.declared.slots.Slot.{Slot}
use Rattle.ratio_c.specs.declared.printing.Text.{Text}
use Rattle.ratio_c.specs.Calls.{Tested}
use Rattle.ratio_c.specs.Codes.{code_bad_option, code_more_room, code_not_held}
use Rattle.ratio_c.specs.{Crossing.rule_of, TotalReads.HasNoText, TotalReads.IsLongText}

-- the bounds of the sum do not decide: the rule rounds them to different numbers, and the code is 1
-- Example: 1/3, 1/6 without places by the rule 1: code 1
abbrev pub IsUndecided : List Slot → ℕ → ℕ → ℕ → Text → Type 0
IsUndecided slots places rule end answer = RoundsApart (rule_of rule) places slots (base ^ (places / 19 + 3)) × HasNoText code_not_held end answer

-- the sum of the slots as a decimal (`IsLongText`), or the code 1 where its bounds do not decide (`IsUndecided`). With too few digits or
-- bytes it is the code 10, and a rule above 5 gives the code 9
-- Example: 1/36, 1/28 with four places by the rule 1: `0.0635`
abbrev pub IsBoundedDecimalOfTotal : List Slot → ℕ → ℕ → ℕ → ℕ → List ℕ → Text → Type 0
IsBoundedDecimalOfTotal slots places rule room end texts answer =
    Tested (rule < 6)
    (Tested (HasBoundedRoom places room end)
    (IsLongText (sum_of_slots slots) places rule end texts answer ⊎ IsUndecided slots places rule end answer)
    (HasNoText code_more_room end answer))
    (HasNoText code_bad_option end answer)
