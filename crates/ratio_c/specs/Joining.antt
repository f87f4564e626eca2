-- A read of a total in steps: what a step does to the header and the room.
use Rattle.std.specs.Prelude.{◌≡◌, ◌≤◌, ◌<◌, ◌+◌, ◌⊎◌, ℕ, List, length, min}
use Rattle.ratio_slots.specs.Common.{HasLongCommon, common_digits, most_common, read_digits}
use Rattle.ratio_slots.specs.Steps.{HoldsJoined, LooksJoined}
use Rattle.ratio_slots.specs.declared.joined.Joined.{Joined}
use Rattle.ratio_slots.specs.declared.slots.Slot.{Slot}
use Rattle.ratio_c.specs.declared.total_joining.JoinStop.{JoinStop, TheVariants.MoreRoom, TheVariants.NotJoined, TheVariants.TooLong}
use Rattle.ratio_c.specs.declared.total_joining.Joined64.{Joined64}
use Rattle.ratio_c.specs.Calls.{Tested}
use Rattle.ratio_c.specs.Codes.{code_answered, code_more_room, code_no_total, code_too_long}

-- the read has not begun: no slot is joined, and there are no digits for the common denominator
pub record IsNew (read : Joined) : Type 0 where
  pub done : read.done ≡ 0
  pub digits : read.digits ≡ 0

-- a step can go on: the read has not begun, or the slots that it says are joined in the room
-- Example: 1/12, 1/36 with the first one joined: 1, 0 and 12 in a room of 14 digits
abbrev pub IsReady : List Slot → Joined → List ℕ → Type 0
IsReady slots read room = IsNew read ⊎ HoldsJoined slots read room

-- the read has not begun, and the room has fewer digits than it needs
-- Example: 1/36, 1/28 with 13 digits
pub record IsShortToBegin (slots : List Slot) (read : Joined) (room : List ℕ) : Type 0 where
  pub first : IsNew read
  pub short : length room < read_digits slots

-- a read that had not begun has begun, in a room that is long enough, with no slot joined. Any other read is as it was, and so is the room
-- Example: 1/36, 1/28: no slot, 2 digits
abbrev pub HasBegun : List Slot → Joined → List ℕ → List ℕ → Joined → Type 0
HasBegun slots from room new_room read =
    Tested (IsNew from) ((read.done ≡ 0) × (read_digits slots ≤ length room) × HoldsJoined slots read new_room) ((read ≡ from) × (new_room ≡ room))

-- a step joined further slots: as many as are left, and at most `most`. A read that had not begun has the digits for the common denominator,
-- and the room is long enough. The room of any other read looks as the last step left it. If the step could go on (`IsReady`), the slots that it
-- says are joined in the room
-- Example: 1/36, 1/28 with at most one slot a step: one slot, 2 digits; then two slots
pub record Joins (slots : List Slot) (most : ℕ) (from : Joined) (room new_room : List ℕ) (next : Joined) : Type 0 where
  pub done : next.done ≡ min (from.done + most) (length slots)
  pub digits : Tested (IsNew from) ((next.digits ≡ common_digits slots) × (read_digits slots ≤ length room)) (next.digits ≡ from.digits)
  pub looked : ¬ (IsNew from) → LooksJoined slots from room
  pub joined : IsReady slots from room → HoldsJoined slots next new_room

-- why a step was stopped: the room is too short to begin (`IsShortToBegin`); the read has begun, and the room does not look as the last step
-- left it (`LooksJoined`); or neither, and if the step could go on (`IsReady`), the common denominator is too long
abbrev pub IsStepStoppedFor : List Slot → Joined → List ℕ → JoinStop → Type 0
IsStepStoppedFor slots from room MoreRoom = IsShortToBegin slots from room
IsStepStoppedFor slots from room NotJoined = (¬ (IsNew from)) × (¬ (LooksJoined slots from room))
IsStepStoppedFor slots from room TooLong =
    (¬ (IsShortToBegin slots from room)) × (¬ (IsNew from) → LooksJoined slots from room) × (IsReady slots from room → HasLongCommon slots most_common)

-- the code of a stop: 10, 8 or 11
-- Example: `NotJoined`: 8
abbrev pub code_of_join_stop : JoinStop → ℕ
code_of_join_stop MoreRoom = code_more_room
code_of_join_stop NotJoined = code_no_total
code_of_join_stop TooLong = code_too_long

-- the read of a header
-- Example: 1 slot and 2 digits
abbrev pub read_of : Joined64 → Joined
read_of header = record { done = header.done; digits = header.digits }

-- a step joined slots (`Joins`), and the header says the code 0 and the new read
-- Example: 1/36, 1/28 with at most one slot: code 0, one slot, 2 digits
pub record HasJoined (slots : List Slot) (most : ℕ) (room new_room : List ℕ) (old new : Joined64) : Type 0 where
  pub code_is : new.code ≡ code_answered
  pub joins : Joins slots most (read_of old) room new_room (read_of new)

-- a step was stopped, for what `IsStepStoppedFor` says. The header has its code, and otherwise is as it was
-- Example: 1/36, 1/28 with 13 digits of room: code 10, no slot, no digits
pub record HasStopped (slots : List Slot) (room : List ℕ) (old new : Joined64) : Type 0 where
  pub why : JoinStop
  pub reason : IsStepStoppedFor slots (read_of old) room why
  pub says : new ≡ record { code = code_of_join_stop why; done = old.done; digits = old.digits }

-- the header after a step: it joined slots (`HasJoined`), or it was stopped (`HasStopped`)
abbrev pub IsJoinStep : List Slot → ℕ → List ℕ → List ℕ → Joined64 → Joined64 → Type 0
IsJoinStep slots most room new_room old new = HasJoined slots most room new_room old new ⊎ HasStopped slots room old new
