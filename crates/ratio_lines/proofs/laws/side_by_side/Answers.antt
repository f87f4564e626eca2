use Rattle.ratio_lines.proofs.JoinedAnswers.{answers_join, answers_part}
use Rattle.ratio_lines.proofs.laws.side_by_side.Goals as goal

pub returns-clause-join : goal.returns-clause-join
returns-clause-join c = answers_join

pub returns-clause-part : goal.returns-clause-part
returns-clause-part c = answers_part
