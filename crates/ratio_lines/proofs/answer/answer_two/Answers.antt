use Rattle.ratio_lines.proofs.Applying.{first_refused, two_answered}
use Rattle.ratio_lines.proofs.answer.answer_two.Goals as goal

pub returns-in-Ok : goal.returns-in-Ok
returns-in-Ok c = two_answered _ _ _ _ c.in-Ok.ensures

pub returns-in-Err : goal.returns-in-Err
returns-in-Err c = first_refused _ _ _ _ _ c.in-Err.ensures
