use Rattle.std.proofs.Common.{refl}
use Rattle.ratio_c.proofs.Cases.{where_held}
use Rattle.ratio_c.proofs.TotalSteps.{only_answer}
use Rattle.ratio_c.proofs.total_bounded.ratio_total_print_bounded_i64.Goals as goal

pub returns : goal.returns
returns c = where_held c.if-answers-ne1.false (refl, only_answer _ _ _ c.if-answers-ne1.false c.bounded_answer.ensures)
