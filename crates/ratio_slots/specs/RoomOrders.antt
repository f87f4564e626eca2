-- The order of two sums in rooms, and a sum in another room.
use Rattle.std.specs.Prelude.{◌≡◌, ◌+◌, ◌*◌, ◌<◌, ◌≤◌, true, ℕ, ℤ, pos, List}
use Rattle.std.specs.Ordering.{int_cmp}
use Rattle.ratio_slots.specs.{Common.most_digits, Common.room_digits, Joined.HasJoinedPair, RoomSums.turned_pair, Steps.HoldsSum, SumOrder.pair_cmp}
use Rattle.ratio_slots.specs.Sums.{SameSum, pair_sum}
use Rattle.ratio_slots.specs.declared.joined.Joined.{Joined}

-- the digits that the order of two sums needs, for common denominators of so many digits
-- Example: 23 for 2 and 2 digits
abbrev pub order_digits : ℕ → ℕ → ℕ
order_digits digits other = 3 * (digits + other) + 11

-- the sums in two rooms can be compared: both rooms hold fractions, and there are enough digits for it
pub record CanOrderRooms (digits : ℕ) (room : List ℕ) (other : ℕ) (other_room : List ℕ) (free : ℕ) : Type 0 where
  pub left : HasJoinedPair digits room
  pub right : HasJoinedPair other other_room
  pub enough : order_digits digits other ≤ free

-- a sum can move to a room of so many digits, with `digits` of them for the common denominator: these are no fewer than before and at most 16384, and
-- the room has four times as many and 6 more
pub record CanMoveSum (sum : Joined) (room : List ℕ) (digits other_room : ℕ) : Type 0 where
  pub holds : HoldsSum sum room
  pub more : sum.digits ≤ digits
  pub few : digits ≤ most_digits
  pub long : room_digits digits ≤ other_room

-- ---- a law

-- the order of two sums is the sign of what is left once the second one is taken out of the first
-- Example: 1/36 less 1/28 is -2/252, so 1/36 is `Less`
abbrev pub OrdersAreSigns : Type 0
OrdersAreSigns = (x y rest : ℤ × ℕ) → 0 < x.1 → 0 < y.1 → 0 < rest.1 → SameSum (pair_sum x (turned_pair true y)) rest → pair_cmp x y ≡ int_cmp rest.0 (pos 0)
