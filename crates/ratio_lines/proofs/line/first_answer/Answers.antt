use Rattle.ratio_lines.proofs.PlainLines.{line_answered, plain_answered}
use Rattle.ratio_lines.proofs.line.first_answer.Goals as goal

pub returns-in-Some : goal.returns-in-Some
returns-in-Some c = plain_answered _ _ _ _ _ _ c.in-Some.ensures c.answer_two.ensures

pub returns : goal.returns
returns c = line_answered _ _ _ _ c.in_ok-line.ensures.0 c.in_ok-line.ensures.1 c.answer.ensures
