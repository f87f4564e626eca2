use Rattle.ratio_expressions.proofs.UsualLaws.{usual}
use Rattle.ratio_expressions.proofs.laws.read_from_the_left.Goals as goal

pub returns : goal.returns
returns c = usual
