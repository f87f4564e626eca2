use Rattle.std.proofs.Common.{sym}
use Rattle.ratio_slots.specs.Joined.{joined_pair}
use Rattle.ratio_c.proofs.Cases.{where_held}
use Rattle.ratio_c.proofs.Narrowing.{short_said}
use Rattle.ratio_c.proofs.joined_reads.sum_answer.Goals as goal

pub returns-in-Ok : goal.returns-in-Ok
returns-in-Ok c =
    let pair = joined_pair c.read_in.result.digits c.args.room.now in
    rw (sym c.read_in.ensures) (where_held c.in-Ok.ensures.accepted (short_said pair _ c.narrowed.result _ c.in-Ok.ensures.sum c.narrowed.ensures c.checked.ensures))
