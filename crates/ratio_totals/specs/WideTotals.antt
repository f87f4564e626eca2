-- Totals of fractions over any primitive type, each as one sum in a room.
use Rattle.std.specs.Prelude.{◌≡◌, ◌+◌, ◌*◌, ◌^◌, ◌<◌, ◌≤◌, ◌⊎◌, ℕ, ℤ, List, unsigned_abs}
use Rattle.ratio_natural.specs.Number.{base}
use Rattle.ratio_slots.specs.{Common.most_digits, Common.room_digits, Joined.common_in, RoomSums.HasLongMultiple, RoomSums.HasShortMultiple}
use Rattle.ratio_slots.specs.{Steps.HoldsSum, Totals.most_weight}
use Rattle.ratio_slots.specs.declared.joined.Joined.{Joined}
use Rattle.ratio_totals.specs.declared.wide_changes.WideRefusal.{WideRefusal, TheVariants.MoreDigits, TheVariants.MoreRoom, TheVariants.TooMany}

-- a room of so many digits has place for a total, with `digits` digits for the common denominator: these are at least the 2 of a denominator of
-- 128 bits and at most 16384, and the room has four times as many and 6 more
-- Example: 2 digits, in a room of 14
pub record HasTotalRoom (digits room : ℕ) : Type 0 where
  pub some : 2 ≤ digits
  pub few : digits ≤ most_digits
  pub long : room_digits digits ≤ room

-- the room holds the sum of a total, with at least 2 digits for the common denominator. `done` is its weight, the number of additions: it is at
-- most 2^63 - 1, and the count is at most the weight
pub record IsWideKept (joined : Joined) (room : List ℕ) (count : ℤ) : Type 0 where
  pub some : 2 ≤ joined.digits
  pub holds : HoldsSum joined room
  pub counted : unsigned_abs count ≤ joined.done
  pub light : joined.done ≤ most_weight

-- ---- a fraction that goes in

-- a fraction with this denominator can go in: there are 8 spare digits for each digit of the common denominator and 6 more, the weight leaves room
-- for one more, and the common denominator of both fits its digits
-- Example: with 2 digits, 1/28 into 1/36
pub record CanAddWide (joined : Joined) (room : List ℕ) (denom spare : ℕ) : Type 0 where
  pub spare_room : 8 * joined.digits + 6 ≤ spare
  pub light : joined.done < most_weight
  pub short : HasShortMultiple (common_in joined.digits room) denom (base ^ joined.digits)

-- why a fraction with this denominator did not go in: one part of `CanAddWide` does not hold
-- Example: with 2 digits, 1/(2^128 - 3) into 1/(2^128 - 1): `MoreDigits`
abbrev pub IsWideRefusedFor : Joined → List ℕ → ℕ → ℕ → WideRefusal → Type 0
IsWideRefusedFor joined room denom spare MoreRoom = spare < 8 * joined.digits + 6
IsWideRefusedFor joined room denom spare TooMany = joined.done ≡ most_weight
IsWideRefusedFor joined room denom spare MoreDigits = HasLongMultiple (common_in joined.digits room) denom (base ^ joined.digits)

-- ---- a total that goes in

-- another total can go in: there are the same spare digits, the weights are together at most 2^63 - 1, the other total has no more digits for its
-- common denominator, and that of both fits the digits of the first one
pub record CanMergeWide (joined : Joined) (room : List ℕ) (other : Joined) (other_room : List ℕ) (spare : ℕ) : Type 0 where
  pub spare_room : 8 * joined.digits + 6 ≤ spare
  pub light : joined.done + other.done ≤ most_weight
  pub shorter : other.digits ≤ joined.digits
  pub short : HasShortMultiple (common_in joined.digits room) (common_in other.digits other_room) (base ^ joined.digits)

-- why another total did not go in: one part of `CanMergeWide` does not hold
-- Example: a total with 4 digits into one with 3 digits: `MoreDigits`
abbrev pub IsWideMergeRefusedFor : Joined → List ℕ → Joined → List ℕ → ℕ → WideRefusal → Type 0
IsWideMergeRefusedFor joined room other other_room spare MoreRoom = spare < 8 * joined.digits + 6
IsWideMergeRefusedFor joined room other other_room spare TooMany = most_weight < joined.done + other.done
IsWideMergeRefusedFor joined room other other_room spare MoreDigits =
    (joined.digits < other.digits) ⊎ HasLongMultiple (common_in joined.digits room) (common_in other.digits other_room) (base ^ joined.digits)
