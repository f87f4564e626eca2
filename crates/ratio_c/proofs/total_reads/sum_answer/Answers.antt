use Rattle.std.proofs.Common.{inl}
use Rattle.ratio_c.proofs.Narrowing.{short_said}
use Rattle.ratio_c.proofs.total_reads.sum_answer.Goals as goal

pub returns-in-Ok : goal.returns-in-Ok
returns-in-Ok c = inl (c.in-Ok.ensures.room, short_said _ _ c.narrowed.result _ c.in-Ok.ensures.sum c.narrowed.ensures c.checked.ensures)
