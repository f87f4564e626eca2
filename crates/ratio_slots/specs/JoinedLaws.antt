-- Laws of a room that holds the join of a table: each read of the room is that of the table.
use Rattle.std.specs.Prelude.{◌≡◌, ℕ, ℤ, pos, List, Option}
use Rattle.std.specs.{Float.Format, Ordering.int_cmp}
use Rattle.ratio_decimal.specs.declared.rounding_rule.Rounding.{Rounding}
use Rattle.ratio_decimal.specs.Floats.{nearest_float}
use Rattle.ratio_decimal.specs.Decimal.{IsDecimalOf}
use Rattle.ratio_slots.specs.{Common.IsJoined, Joined.joined_pair, Joined.three_in}
use Rattle.ratio_slots.specs.LowestSum.{ChecksMeanOfSlots, ChecksPairMean, ChecksShortPair}
use Rattle.ratio_slots.specs.{SumOrder.sign_of_slots, Sums.sum_of_slots}
use Rattle.ratio_slots.specs.declared.slots.Slot.{Slot}

-- the room holds the join of the table, with so many digits for the common denominator
-- Example: 1/36, 1/28 with 1 digit, in the room 16, 0, 0, 0, 252, 0, 0, 0, 0, 0
abbrev pub IsJoinedIn : List Slot → ℕ → List ℕ → Type 0
IsJoinedIn slots digits room = IsJoined slots (three_in digits room)

-- the sum of the room in lowest terms is that of the table
abbrev pub JoinedSums : Type 0
JoinedSums = (slots : List Slot) (digits : ℕ) (room : List ℕ) (r : Option (ℤ × ℕ)) → IsJoinedIn slots digits room → ChecksShortPair (joined_pair digits room) r
    → ChecksShortPair (sum_of_slots slots) r

-- the mean of the room is that of the table
abbrev pub JoinedMeans : Type 0
JoinedMeans = (slots : List Slot) (digits : ℕ) (room : List ℕ) (count : ℤ) (r : Option (ℤ × ℕ)) → IsJoinedIn slots digits room → ChecksPairMean (joined_pair digits room) count r
    → ChecksMeanOfSlots slots count r

-- the sign of the room is that of the table
abbrev pub JoinedSigns : Type 0
JoinedSigns = (slots : List Slot) (digits : ℕ) (room : List ℕ) → IsJoinedIn slots digits room → int_cmp (joined_pair digits room).0 (pos 0) ≡ sign_of_slots slots

-- the float of the room is that of the table
abbrev pub JoinedFloats : Type 0
JoinedFloats = (slots : List Slot) (digits : ℕ) (room : List ℕ) (f : Format) → IsJoinedIn slots digits room
    → nearest_float f (joined_pair digits room).0 (pos (joined_pair digits room).1) ≡ nearest_float f (sum_of_slots slots).0 (pos (sum_of_slots slots).1)

-- each decimal of the room is one of the table
abbrev pub JoinedDecimals : Type 0
JoinedDecimals = (slots : List Slot) (digits : ℕ) (room : List ℕ) (rule : Rounding) (places : ℕ) (text : List ℕ) → IsJoinedIn slots digits room
    → IsDecimalOf rule places (joined_pair digits room).0 (pos (joined_pair digits room).1) text → IsDecimalOf rule places (sum_of_slots slots).0 (pos (sum_of_slots slots).1) text
