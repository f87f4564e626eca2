use Rattle.std.proofs.Common.{arith, ◌≤◌, length}
use Rattle.ratio_totals.specs.Values.{pair_of}
use Rattle.ratio_totals.proofs.ListSumLemmas.{enough_room, enough_slots}
use Rattle.ratio_totals.proofs.in_memory.sum_of_many.Goals as goal

pub unreachable-requires : goal.unreachable-requires
unreachable-requires g c =
    let enough : length c.args.items.now ≤ c.saturating_mul.result = omega arith in
    enough_slots pair_of c.args.items.now c.saturating_mul.result enough
    (rw (c.in-Ok-Err-MoreSlots.field-0-is, c.in-Ok-Err-MoreSlots.field-0-0-is) at c.in-Ok-Err-MoreSlots.ensures.refused)

pub unreachable-requires-in-Ok-Err-MoreRoom : goal.unreachable-requires-in-Ok-Err-MoreRoom
unreachable-requires-in-Ok-Err-MoreRoom g c =
    let enough : length c.args.items.now ≤ c.saturating_mul.result = omega arith in
    enough_room pair_of c.args.items.now c.saturating_mul.result enough
    (rw (c.in-Ok-Err-MoreRoom.field-0-is, c.in-Ok-Err-MoreRoom.field-0-0-is) at c.in-Ok-Err-MoreRoom.ensures.refused)
