-- The laws of a read in steps: once all slots are joined, each read of the room answers as the read of the total.
use Rattle.std.specs.Prelude.{◌≡◌, ℕ, ℤ, List, length}
use Rattle.std.specs.Float.{Float}
use Rattle.ratio_slots.specs.{DecimalRoom.HasDecimalRoom, Joined.HasJoinedPair, Joined.joined_pair, Steps.HoldsJoined}
use Rattle.ratio_slots.specs.Sums.{SameSum, sum_of_slots}
use Rattle.ratio_slots.specs.declared.joined.Joined.{Joined}
use Rattle.ratio_slots.specs.declared.slots.Slot.{Slot}
use Rattle.ratio_c.specs.declared.compare.Order.{Order}
use Rattle.ratio_c.specs.declared.printing.Text.{Text}
use Rattle.ratio_c.specs.Crossing.{Said}
use Rattle.ratio_c.specs.JoinedReads.{IsDecimalOfJoined, IsFloatOfJoined, IsMeanOfJoined, IsSignOfJoined, IsSumOfJoined}
use Rattle.ratio_c.specs.TotalFloats.{IsFloatOfTotal}
use Rattle.ratio_c.specs.TotalReads.{IsDecimalOfTotal, IsMeanOfTotal, IsSignOfTotal, IsSumOfTotal}

-- all slots are joined in the room: the read has ended
-- Example: 1/36, 1/28 with two slots joined: 16, 0 and 252 in a room of 14 digits
pub record HoldsAll (slots : List Slot) (read : Joined) (room : List ℕ) : Type 0 where
  pub holds : HoldsJoined slots read room
  pub all : read.done ≡ length slots

-- Law: where all slots are joined, the room holds a fraction, and that is the sum of the slots
-- Example: 1/36, 1/28: 16/252
abbrev pub JoinedIsSum : Type 0
JoinedIsSum =
    (slots : List Slot) (read : Joined) (room : List ℕ) → HoldsAll slots read room
    → HasJoinedPair read.digits room × SameSum (joined_pair read.digits room) (sum_of_slots slots)

-- Law: so the sum in the room is the answer of the total's own read
-- Example: 1/36, 1/28: 4/63
abbrev pub SumsAnswerAlike : Type 0
SumsAnswerAlike =
    (slots : List Slot) (read : Joined) (room : List ℕ) (answer : Said)
    → HoldsAll slots read room → IsSumOfJoined read.digits room answer → IsSumOfTotal slots (length room) answer

-- Law: and so is the mean
-- Example: 1/36, 1/28 with the count 2: 2/63
abbrev pub MeansAnswerAlike : Type 0
MeansAnswerAlike =
    (slots : List Slot) (read : Joined) (room : List ℕ) (count : ℤ) (answer : Said)
    → HoldsAll slots read room → IsMeanOfJoined read.digits count room answer → IsMeanOfTotal slots count (length room) answer

-- Law: and the sign
-- Example: 1/36, -1/28: -1
abbrev pub SignsAnswerAlike : Type 0
SignsAnswerAlike =
    (slots : List Slot) (read : Joined) (room : List ℕ) (answer : Order)
    → HoldsAll slots read room → IsSignOfJoined read.digits room answer → IsSignOfTotal slots (length room) answer

-- Law: and the float
-- Example: 1/36, 1/28: 0.06349206349206349
abbrev pub FloatsAnswerAlike : Type 0
FloatsAnswerAlike =
    (slots : List Slot) (read : Joined) (room : List ℕ) (code : ℕ) (value : Float)
    → HoldsAll slots read room → IsFloatOfJoined read.digits room code value → IsFloatOfTotal slots (length room) code value

-- Law: and the decimal, with as many digits and bytes as the total's decimal needs
-- Example: 1/36, 1/28 with four places by the rule 1: `0.0635`
abbrev pub DecimalsAnswerAlike : Type 0
DecimalsAnswerAlike =
    (slots : List Slot) (read : Joined) (room : List ℕ) (places rule end : ℕ) (texts : List ℕ) (answer : Text)
    → HoldsAll slots read room → HasDecimalRoom slots places (length room) end
    → IsDecimalOfJoined read.digits places rule room end texts answer → IsDecimalOfTotal slots places rule (length room) end texts answer
