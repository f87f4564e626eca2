use Rattle.ratio_lines.proofs.JoinedAnswers.{each_is_answered}
use Rattle.ratio_lines.proofs.laws.answers.Goals as goal

pub returns : goal.returns
returns c = record { one = each_is_answered }
