use Rattle.std.proofs.Common.{refl}
use Rattle.ratio_c.proofs.Cases.{where_held}
use Rattle.ratio_c.proofs.TotalSteps.{first_item}
use Rattle.ratio_c.proofs.total_joining.ratio_total_join_i64.Goals as goal

pub returns : goal.returns
returns c = where_held c.if-joined-ne1.false (refl, first_item _ c.args.joined.now _ _ c.if-joined-ne1.false c.join_answer.ensures)
