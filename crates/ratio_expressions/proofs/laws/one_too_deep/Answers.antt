use Rattle.ratio_expressions.proofs.DepthLaws.{one_too_deep}
use Rattle.ratio_expressions.proofs.laws.one_too_deep.Goals as goal

pub returns : goal.returns
returns c = one_too_deep
