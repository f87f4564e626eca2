-- The reads of a sum in a room whose numbers have up to 128 bits.
use Rattle.std.specs.Prelude.{IfSome, ◌≡◌, ◌+◌, ◌*◌, ◌^◌, ◌<◌, ◌≤◌, true, ℕ, ℤ, List, Option, Some, length}
use Rattle.std.specs.Option.{option_map}
use Rattle.ratio_decimal.specs.declared.rounding_rule.Rounding.{Rounding}
use Rattle.ratio_slots.specs.{Common.whole_number, Joined.HasJoinedPair, Joined.joined_pair, JoinedLaws.IsJoinedIn}
use Rattle.ratio_slots.specs.LowestSum.{ChecksMeanBelow, ChecksPairBelow, ChecksShortPair}
use Rattle.ratio_slots.specs.{Multiples.ChecksMultipleBelow, Sums.SameSum, Sums.sum_of_slots}
use Rattle.ratio_slots.specs.declared.slots.Slot.{Slot}
use Rattle.ratio_slots.specs.declared.wide_reads.WideFraction.{WideFraction}

-- the numerator with its sign, and the denominator
-- Example: true, 4, 63: -4/63
abbrev pub wide_pair : WideFraction → ℤ × ℕ
wide_pair terms = (whole_number terms.negative terms.numer, terms.denom)

-- a negative fraction is not 0
-- Example: false, 0, 1; not true, 0, 1
abbrev pub HasItsSign : WideFraction → Type 0
HasItsSign terms = terms.negative ≡ true → 0 < terms.numer

-- the result is the fraction x in lowest terms, where both numbers are below 2^128; elsewhere it is `None`
-- Example: -16/252: true, 4, 63
abbrev pub ChecksWidePair : ℤ × ℕ → Option WideFraction → Type 0
ChecksWidePair x result = ChecksPairBelow (2 ^ 128) x (option_map wide_pair result)

-- the result is x divided by the count in lowest terms, if the count is above 0 and both numbers are below 2^128; elsewhere it is `None`
-- Example: -16/252 and 2: true, 2, 63
abbrev pub ChecksWideMean : ℤ × ℕ → ℤ → Option WideFraction → Type 0
ChecksWideMean x count result = ChecksMeanBelow (2 ^ 128) x count (option_map wide_pair result)

-- the result is z/parts in lowest terms, where z is x times parts, rounded by the rule, if both numbers are below 2^128; elsewhere it is `None`
-- Example: -16/252 in hundredths by `HalfEven`: -6/100, so true, 3, 50
abbrev pub ChecksWideMultiple : Rounding → ℕ → ℤ × ℕ → Option WideFraction → Type 0
ChecksWideMultiple rule parts x result = ChecksMultipleBelow (2 ^ 128) rule parts x (option_map wide_pair result)

-- the digits that rounding to a multiple of 1/parts needs, for a common denominator of so many digits
-- Example: 18 for 1 digit
abbrev pub rounding_digits : ℕ → ℕ
rounding_digits digits = 4 * digits + 14

-- the room holds a fraction, and has enough digits to round it
-- Example: 1 digit, in a room of 18 digits that begins with 16, 0, 0, 0, 252
pub record HasRoundingRoom (digits : ℕ) (room : List ℕ) : Type 0 where
  pub pair : HasJoinedPair digits room
  pub rounding_room : rounding_digits digits ≤ length room

-- ---- laws

-- fractions of one value have one result of `wide_sum`
-- Example: -16/252 and -4/63
abbrev pub WideResultsAgree : Type 0
WideResultsAgree = (x y : ℤ × ℕ) (r s : Option WideFraction) → 0 < y.1 → SameSum x y → ChecksWidePair x r → IfSome r HasItsSign → ChecksWidePair y s → IfSome s HasItsSign → r ≡ s

-- where `sum` returns a fraction, `wide_sum` returns the same
-- Example: -16/252: (-4, 63), and true, 4, 63
abbrev pub WideSumsExtend : Type 0
WideSumsExtend = (x : ℤ × ℕ) (n : ℤ) (d : ℕ) (r : Option WideFraction) → ChecksShortPair x (Some (n, d)) → ChecksWidePair x r → option_map wide_pair r ≡ Some (n, d)

-- where a room holds the join of a table, the wide sum of the room is that of the table
abbrev pub JoinedWideSums : Type 0
JoinedWideSums = (slots : List Slot) (digits : ℕ) (room : List ℕ) (r : Option WideFraction) → IsJoinedIn slots digits room → ChecksWidePair (joined_pair digits room) r
    → ChecksWidePair (sum_of_slots slots) r

-- the wide mean of the room is that of the table
abbrev pub JoinedWideMeans : Type 0
JoinedWideMeans = (slots : List Slot) (digits : ℕ) (room : List ℕ) (count : ℤ) (r : Option WideFraction) → IsJoinedIn slots digits room → ChecksWideMean (joined_pair digits room) count r
    → ChecksWideMean (sum_of_slots slots) count r

-- the wide multiple of the room is that of the table
abbrev pub JoinedWideMultiples : Type 0
JoinedWideMultiples = (slots : List Slot) (digits : ℕ) (room : List ℕ) (rule : Rounding) (parts : ℕ) (r : Option WideFraction) → IsJoinedIn slots digits room
    → ChecksWideMultiple rule parts (joined_pair digits room) r → ChecksWideMultiple rule parts (sum_of_slots slots) r
