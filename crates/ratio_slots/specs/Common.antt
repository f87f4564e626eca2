-- The common denominator of a table, and the sum of the table over it.
use Rattle.std.specs.Prelude.{suc, ◌≡◌, ◌≢◌, ◌+◌, ◌*◌, ◌^◌, ◌<◌, ◌≤◌, Bool, true, false, ℕ, ℤ, pos, negsuc, neg_ℤ, List, [], ◌∷◌, length, min, max}
use Rattle.std.specs.Int.{◌∣◌, IsGcd}
use Rattle.ratio_natural.specs.Number.{base, natural_of}
use Rattle.ratio_slots.specs.{Merging.taken_of, Numbers.Numbers, Numbers.pair_from, Slots.slot_at, Sums.SameSum, Sums.sum_of_slots}
use Rattle.ratio_slots.specs.declared.reading.ReadRefusal.{ReadRefusal, TheVariants.MoreRoom, TheVariants.TooLong}
use Rattle.ratio_slots.specs.declared.slots.Slot.{Slot}

-- m is a multiple of each denominator in the table. An empty slot has none
-- Example: 504 in the table 36, empty, 28
abbrev pub IsMultipleOfEach : List Slot → ℕ → Type 0
IsMultipleOfEach [] m = Unit {0}
IsMultipleOfEach (slot ∷ rest) m = (slot.denom ≢ 0 → slot.denom ∣ m) × IsMultipleOfEach rest m

-- l is the common denominator of the table, the least common multiple of its denominators: it divides every other one. It is 1 for no fraction
-- Example: 252 in the table 36, empty, 28
pub record IsCommonOf (slots : List Slot) (l : ℕ) : Type 0 where
  pub positive : 0 < l
  pub multiple : IsMultipleOfEach slots l
  pub least : (m : ℕ) → IsMultipleOfEach slots m → l ∣ m

-- the common denominator of the table is at least `bound`
pub record HasLongCommon (slots : List Slot) (bound : ℕ) : Type 0 where
  pub common : ℕ
  pub is : IsCommonOf slots common
  pub long : bound ≤ common

-- the fraction of three numbers has the value of the sum of the table, and their `common` is the common denominator
-- Example: 16, 252 and 0 for 1/36, 1/28
pub record IsJoined (slots : List Slot) (x : Numbers) : Type 0 where
  pub common_is : IsCommonOf slots x.common
  pub sum : SameSum (pair_from x) (sum_of_slots slots)

-- common and denom, both divided by their greatest common divisor
-- Example: 252 and 8: 63 and 2
pub record AreParts (common denom share more : ℕ) : Type 0 where
  pub divisor : ℕ
  pub greatest : IsGcd common denom divisor
  pub share_is : share * divisor ≡ common
  pub more_is : more * divisor ≡ denom

-- Inner: the common denominator has zeros from digit `size` on, and the two sums over it from digit `size` + 3 on. Each list is at least so long
pub record HaveZerosFrom (size : ℕ) (one common other : List ℕ) : Type 0 where
  pub within : size ≤ length common
  pub one_long : size + 3 ≤ length one
  pub other_long : size + 3 ≤ length other
  pub common_size : natural_of common < base ^ size
  pub one_size : natural_of one < base ^ (size + 3)
  pub other_size : natural_of other < base ^ (size + 3)

-- three numbers, each multiplied by `more`
pub record AreMultiplied (more : ℕ) (x new : Numbers) : Type 0 where
  pub positive_is : new.positive ≡ x.positive * more
  pub common_is : new.common ≡ x.common * more
  pub negative_is : new.negative ≡ x.negative * more

-- n if it is above 0; elsewhere 0
-- Example: 5: 5; -5: 0
abbrev pub above_zero : ℤ → ℕ
above_zero (pos n) = n
above_zero (negsuc n) = 0

-- how far n is below 0
-- Example: 5: 0; -5: 5
abbrev pub below_zero : ℤ → ℕ
below_zero (pos n) = 0
below_zero (negsuc n) = suc n

-- ---- a read

-- the greatest number of digits of a common denominator
unfoldable pub most_digits : ℕ
most_digits = 16384

-- a common denominator must be below it: 2^(2^20)
abbrev pub most_common : ℕ
most_common = base ^ most_digits

-- each denominator is a number of 64 bits
pub record HasHeldDenominators (slots : List Slot) : Type 0 where
  pub each : (k : ℕ) → (slot_at slots k).denom < base

-- the digits that a read needs for the common denominator: as many as there are denominators, at least 1 and at most `most_digits`
-- Example: 2 in the table 36, empty, 28
abbrev pub common_digits : List Slot → ℕ
common_digits slots = max 1 (min (taken_of slots) most_digits)

-- the digits of a room for a common denominator of so many digits: two numbers as long as it, and two numbers with 3 digits more
-- Example: 14 for 2 digits
abbrev pub room_digits : ℕ → ℕ
room_digits digits = 4 * digits + 6

-- the digits that a read needs in all: those of a room for the common denominator
-- Example: 14 in the table 36, empty, 28
abbrev pub read_digits : List Slot → ℕ
read_digits slots = room_digits (common_digits slots)

-- the whole number of a sign and a magnitude
-- Example: true, 5: -5
abbrev pub whole_number : Bool → ℕ → ℤ
whole_number false n = pos n
whole_number true n = neg_ℤ (pos n)

-- the sum of the table over its common denominator: its sign, the magnitude of its numerator, and the denominator. 0 is not negative
-- Example: false, 16, 252 for 1/36, 1/28
pub record IsOverCommon (slots : List Slot) (negative : Bool) (numer denom : ℕ) : Type 0 where
  pub common : IsCommonOf slots denom
  pub value : SameSum (whole_number negative numer, denom) (sum_of_slots slots)
  pub sign : negative ≡ true → 0 < numer

-- why a read was refused: the room has fewer digits than a read needs, or it has enough and the common denominator is too long
abbrev pub IsReadRefusedFor : List Slot → ℕ → ReadRefusal → Type 0
IsReadRefusedFor slots room MoreRoom = room < read_digits slots
IsReadRefusedFor slots room TooLong = (read_digits slots ≤ room) × HasLongCommon slots most_common

-- ---- laws

-- each table has a common denominator
abbrev pub CommonExists : Type 0
CommonExists = (slots : List Slot) → (l : ℕ) × IsCommonOf slots l

-- no table has two
abbrev pub CommonsAgree : Type 0
CommonsAgree = (slots : List Slot) (l m : ℕ) → IsCommonOf slots l → IsCommonOf slots m → l ≡ m

-- a table has one sign, one numerator and one denominator
abbrev pub ReadsAgree : Type 0
ReadsAgree = (slots : List Slot) (negative other : Bool) (numer second denom third : ℕ) → IsOverCommon slots negative numer denom → IsOverCommon slots other second third
    → (negative ≡ other) × (numer ≡ second) × (denom ≡ third)
