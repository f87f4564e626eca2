-- The order of two totals: of the sums of their slots.
use Rattle.std.specs.Prelude.{◌≡◌, ◌⊎◌, ℕ, pos, List, length}
use Rattle.std.specs.List.{AllZip}
use Rattle.ratio_slots.specs.{AnyOrder.CanOrder, AnyOrder.IsOrderRefusedFor, SumOrder.pair_cmp, Sums.sum_of_slots}
use Rattle.ratio_slots.specs.declared.orders.OrderRefusal.{OrderRefusal}
use Rattle.ratio_slots.specs.declared.orders.OrderRefusal.TheVariants.{MoreRoom, MoreSlots, TooGreat, TooLong}
use Rattle.ratio_slots.specs.declared.slots.Slot.{Slot}
use Rattle.ratio_c.specs.declared.compare.Order.{Order}
use Rattle.ratio_c.specs.Calls.{Tested}
use Rattle.ratio_c.specs.Codes.{code_answered, code_more_room, code_not_held, code_too_long, return_bad_length, return_done}
use Rattle.ratio_c.specs.Crossing.{order_number}

-- the code of a comparison that was refused: 10, 1 or 11
-- Example: `MoreSlots`: 10
abbrev pub code_of_order : OrderRefusal → ℕ
code_of_order MoreSlots = code_more_room
code_of_order TooGreat = code_not_held
code_of_order MoreRoom = code_more_room
code_of_order TooLong = code_too_long

-- the order of the sums of two lists of slots, as -1, 0 or 1
-- Example: 1/36 and 1/28: -1
pub record SaysOrder (left right : List Slot) (slots digits : ℕ) (answer : Order) : Type 0 where
  pub code_is : answer.code ≡ code_answered
  pub order_is : answer.order ≡ order_number (pair_cmp (sum_of_slots left) (sum_of_slots right))
  pub room_is : CanOrder left right slots digits

-- a comparison was refused, for what `IsOrderRefusedFor` says
-- Example: 1/36 and 1/28 in one slot: code 10
pub record IsRefusedOrder (left right : List Slot) (slots digits : ℕ) (answer : Order) : Type 0 where
  pub why : OrderRefusal
  pub reason : IsOrderRefusedFor left right slots digits why
  pub code_is : answer.code ≡ code_of_order why
  pub order_is : answer.order ≡ pos 0

-- the order of both sums (`SaysOrder`), or a refusal (`IsRefusedOrder`)
-- Example: 1/36 and 1/28 with two slots and 14 digits of room: -1
abbrev pub IsOrderOfTotals : List Slot → List Slot → ℕ → ℕ → Order → Type 0
IsOrderOfTotals left right slots digits answer = SaysOrder left right slots digits answer ⊎ IsRefusedOrder left right slots digits answer

-- the call writes the one order that it is given room for. If it is not given just one, it returns 1 and writes nothing
-- Example: no answer: 1
abbrev pub OrdersOne : (Order → Type 0) → List Slot → List Slot → List ℕ → List ℕ → List Order → List Order → ℕ → Type 0
OrdersOne Is slots new_slots room new_room old new result =
    Tested (length old ≡ 1) ((result ≡ return_done) × AllZip (λ _ answer. Is answer) old new)
    ((result ≡ return_bad_length) × (new ≡ old) × (new_slots ≡ slots) × (new_room ≡ room))
