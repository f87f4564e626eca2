use Rattle.ratio_expressions.proofs.CutLaws.{one_cut}
use Rattle.ratio_expressions.proofs.laws.one_cut.Goals as goal

pub returns : goal.returns
returns c = λ text ts us h g. one_cut text 0 ts us h g
