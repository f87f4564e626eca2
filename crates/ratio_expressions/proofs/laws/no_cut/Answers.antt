use Rattle.ratio_expressions.proofs.CutLaws.{no_cut}
use Rattle.ratio_expressions.proofs.laws.no_cut.Goals as goal

pub returns : goal.returns
returns c = no_cut
