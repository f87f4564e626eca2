-- What the refusals of totals print.
use Rattle.std.specs.Prelude.{ℕ, List, codes}
use Rattle.ratio_slots.specs.declared.tally.Refusal.{Refusal}
use Rattle.ratio_slots.specs.declared.tally.Refusal.TheVariants as refusal
use Rattle.ratio_slots.specs.declared.reading.ReadRefusal.{ReadRefusal}
use Rattle.ratio_slots.specs.declared.reading.ReadRefusal.TheVariants as read_refusal
use Rattle.ratio_slots.specs.declared.comparing.CompareRefusal.{CompareRefusal}
use Rattle.ratio_slots.specs.declared.comparing.CompareRefusal.TheVariants as compare_refusal
use Rattle.ratio_slots.specs.declared.orders.OrderRefusal.{OrderRefusal}
use Rattle.ratio_slots.specs.declared.orders.OrderRefusal.TheVariants as order_refusal
use Rattle.ratio_slots.specs.declared.changes.LooseRefusal.{LooseRefusal}
use Rattle.ratio_slots.specs.declared.changes.LooseRefusal.TheVariants as loose_refusal
use Rattle.ratio_slots.specs.declared.joined.JoinRefusal.{JoinRefusal}
use Rattle.ratio_slots.specs.declared.joined.JoinRefusal.TheVariants as join_refusal
use Rattle.ratio_slots.specs.declared.rooms.AddRefusal.{AddRefusal}
use Rattle.ratio_slots.specs.declared.rooms.AddRefusal.TheVariants as add_refusal

-- the text that a `Refusal` prints
-- Example: `MoreRoom`: `all slots are taken by other denominators`
abbrev pub total_refusal_text : Refusal → List ℕ
total_refusal_text refusal.MoreRoom = codes "all slots are taken by other denominators"
total_refusal_text refusal.TooMany = codes "the total has its greatest weight, 2^63 - 1"

-- the text that a `ReadRefusal` prints
-- Example: `MoreRoom`: `the room is too small`
abbrev pub read_refusal_text : ReadRefusal → List ℕ
read_refusal_text read_refusal.MoreRoom = codes "the room is too small"
read_refusal_text read_refusal.TooLong = codes "the common denominator is not below 2^(2^20)"

-- the text that a `CompareRefusal` prints
-- Example: `MoreRoom`: `the room has too few digits`
abbrev pub compare_refusal_text : CompareRefusal → List ℕ
compare_refusal_text compare_refusal.MoreSlots = codes "the slots are fewer than the denominators of both totals"
compare_refusal_text compare_refusal.TooMany = codes "the weights of both totals are together above 2^63 - 1"
compare_refusal_text compare_refusal.MoreRoom = codes "the room has too few digits"
compare_refusal_text compare_refusal.TooLong = codes "the common denominator of both totals is not below 2^(2^20)"

-- the text that an `OrderRefusal` prints
-- Example: `MoreRoom`: `the room has too few digits`
abbrev pub order_refusal_text : OrderRefusal → List ℕ
order_refusal_text order_refusal.MoreSlots = codes "the slots are fewer than those of both lists"
order_refusal_text order_refusal.TooGreat = codes "the negative of a numerator of the second list does not fit 128 bits"
order_refusal_text order_refusal.MoreRoom = codes "the room has too few digits"
order_refusal_text order_refusal.TooLong = codes "the common denominator of both lists is not below 2^(2^20)"

-- the text that a `LooseRefusal` prints
-- Example: `MoreRoom`: `all slots are taken by other denominators`
abbrev pub loose_refusal_text : LooseRefusal → List ℕ
loose_refusal_text loose_refusal.MoreRoom = codes "all slots are taken by other denominators"
loose_refusal_text loose_refusal.NotEmpty = codes "the slot has the denominator 0, and a numerator that is not 0"
loose_refusal_text loose_refusal.TooGreat = codes "the sum of the numerators does not fit 128 bits"

-- the text that a `JoinRefusal` prints
-- Example: `NotJoined`: `the room does not look as the last step left it`
abbrev pub join_refusal_text : JoinRefusal → List ℕ
join_refusal_text join_refusal.NotJoined = codes "the room does not look as the last step left it"
join_refusal_text join_refusal.TooLong = codes "the common denominator is not below 2^(2^20)"

-- the text that `NoSum` prints
abbrev pub no_sum_text : List ℕ
no_sum_text = codes "the room holds no sum, or is too small"

-- the text that an `AddRefusal` prints
-- Example: `MoreRoom`: `the spare digits are too few`
abbrev pub add_refusal_text : AddRefusal → List ℕ
add_refusal_text add_refusal.NoSum = codes "one of the rooms holds no sum"
add_refusal_text add_refusal.MoreRoom = codes "the spare digits are too few"
add_refusal_text add_refusal.TooMany = codes "both sums together have 2^64 fractions or more"
add_refusal_text add_refusal.MoreDigits = codes "the common denominator needs more digits"
