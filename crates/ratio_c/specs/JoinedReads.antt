-- What the room of a read in steps says: its fraction in lowest terms, divided by a count, its sign, its float and its decimal.
use Rattle.std.specs.Prelude.{◌≡◌, ◌<◌, ◌<ℤ◌, ℕ, ℤ, pos, List}
use Rattle.std.specs.Float.{Float}
use Rattle.ratio_slots.specs.Joined.{HasJoinedDecimal, HasJoinedPair, joined_pair}
use Rattle.ratio_slots.specs.LowestSum.{pair_mean}
use Rattle.ratio_c.specs.declared.compare.Order.{Order}
use Rattle.ratio_c.specs.declared.printing.Text.{Text}
use Rattle.ratio_c.specs.Calls.{Tested}
use Rattle.ratio_c.specs.Codes.{code_bad_option, code_division_by_zero, code_no_total}
use Rattle.ratio_c.specs.{Crossing.Said, Crossing.refused, TotalFloats.HasNoFloat, TotalFloats.SaysFloat}
use Rattle.ratio_c.specs.TotalReads.{HasNoOrder, HasNoText, IsLongText, SaysLowest, SaysSign}

-- the fraction in the room in lowest terms (`SaysLowest`), or the code 8 if the room holds none
-- Example: 16, 0 and 252 in a room of 10 digits, with 1 digit: 4/63
abbrev pub IsSumOfJoined : ℕ → List ℕ → Said → Type 0
IsSumOfJoined digits room answer =
    Tested (HasJoinedPair digits room) (SaysLowest (joined_pair digits room) answer) (answer ≡ refused code_no_total)

-- the fraction in the room divided by the count, in lowest terms (`SaysLowest`), or the code 8 if it holds none. A count of 0 or less gives 2
-- Example: 16, 0 and 252 in a room of 10 digits, with 1 digit and the count 2: 2/63
abbrev pub IsMeanOfJoined : ℕ → ℤ → List ℕ → Said → Type 0
IsMeanOfJoined digits count room answer =
    Tested (pos 0 <ℤ count)
    (Tested (HasJoinedPair digits room) (SaysLowest (pair_mean (joined_pair digits room) count) answer) (answer ≡ refused code_no_total))
    (answer ≡ refused code_division_by_zero)

-- the order of the fraction in the room and 0 (`SaysSign`), or the code 8 if the room holds none
-- Example: 16, 0 and 252 in a room of 10 digits, with 1 digit: 1
abbrev pub IsSignOfJoined : ℕ → List ℕ → Order → Type 0
IsSignOfJoined digits room answer =
    Tested (HasJoinedPair digits room) (SaysSign (joined_pair digits room) answer) (HasNoOrder code_no_total answer)

-- the float nearest to the fraction in the room (`SaysFloat`), or the code 8 if the room holds none
-- Example: 16, 0 and 252 in a room of 10 digits, with 1 digit: 0.06349206349206349
abbrev pub IsFloatOfJoined : ℕ → List ℕ → ℕ → Float → Type 0
IsFloatOfJoined digits room code value =
    Tested (HasJoinedPair digits room) (SaysFloat (joined_pair digits room) code value) (HasNoFloat code_no_total code value)

-- the fraction in the room as a decimal (`IsLongText`), or the code 8 if it holds none or has too little room. A rule above 5 gives the code 9
-- Example: 16, 0 and 252 in a room of 16 digits, with 1 digit, four places and the rule 1: `0.0635`
abbrev pub IsDecimalOfJoined : ℕ → ℕ → ℕ → List ℕ → ℕ → List ℕ → Text → Type 0
IsDecimalOfJoined digits places rule room end texts answer =
    Tested (rule < 6)
    (Tested (HasJoinedDecimal digits places room end) (IsLongText (joined_pair digits room) places rule end texts answer) (HasNoText code_no_total end answer))
    (HasNoText code_bad_option end answer)
