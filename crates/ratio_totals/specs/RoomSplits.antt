-- An amount split by shares whose sums lie in a room. `view` gives a share's two numbers, and `pair` the same with a natural denominator.
use Rattle.std.specs.Prelude.{◌≡◌, ◌≢◌, ◌^◌, ◌≤◌, ℕ, ℤ, List, codes, length}
use Rattle.ratio_natural.specs.Number.{base}
use Rattle.ratio_slots.specs.{SumOrder.HasShortCommon, Totals.most_weight}
use Rattle.num_rational.specs.Split.{NoShareIsBelowZero, SharesMakeOne}
use Rattle.ratio_totals.specs.{ListSums.table_of, WideSums.HasSumRoom, WideSums.IsWideSumRefusedFor}
use Rattle.ratio_totals.specs.declared.splitting.RoomSplitRefusal.{RoomSplitRefusal}
use Rattle.ratio_totals.specs.declared.splitting.RoomSplitRefusal.TheVariants.{BelowZero, Length, NotOne, Room}

-- the sum of the items has place in such rooms, so no case of `IsWideSumRefusedFor` holds: the rooms are enough, the items are at most
-- 2^63 - 1, and their common denominator has at most `digits` digits
-- Example: 1/2, 1/2 with 2 digits, a room of 14 and 22 spare digits
pub record HasRoomForSums {A : Type 0} (pair : A → ℤ × ℕ) (items : List A) (digits room spare : ℕ) : Type 0 where
  pub rooms : HasSumRoom digits room spare
  pub few : length items ≤ most_weight
  pub short : HasShortCommon (table_of pair items) (base ^ digits)

-- why an amount was not split by the shares into so many parts, the first of these that applies: there are not as many parts as shares, a share is
-- below 0, the sum of the shares has no place in the room (`IsWideSumRefusedFor`), or it is not 1
-- Example: 1/3 and 1/3: `NotOne`
abbrev pub RefusesInRoom : {A : Type 0} → (A → ℤ × ℤ) → (A → ℤ × ℕ) → List A → ℕ → ℕ → ℕ → ℕ → RoomSplitRefusal → Type 0
RefusesInRoom view pair shares parts digits room spare Length = parts ≢ length shares
RefusesInRoom view pair shares parts digits room spare BelowZero = (parts ≡ length shares) × ¬ (NoShareIsBelowZero view shares)
RefusesInRoom view pair shares parts digits room spare (Room why) = (parts ≡ length shares) × NoShareIsBelowZero view shares × IsWideSumRefusedFor pair shares digits room spare why
RefusesInRoom view pair shares parts digits room spare NotOne = (parts ≡ length shares) × NoShareIsBelowZero view shares × HasRoomForSums pair shares digits room spare × ¬ (SharesMakeOne view shares)

-- the text that a refusal prints
-- Example: `NotOne`: `the shares do not add up to 1`
abbrev pub room_split_refusal_text : RoomSplitRefusal → List ℕ
room_split_refusal_text Length = codes "the number of parts is not the number of shares"
room_split_refusal_text BelowZero = codes "a share is below 0"
room_split_refusal_text (Room why) = codes "the sum of the shares has no place in the room"
room_split_refusal_text NotOne = codes "the shares do not add up to 1"
