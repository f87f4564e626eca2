use Rattle.ratio_expressions.proofs.ParserLaws.{one_of_steps}
use Rattle.ratio_expressions.proofs.laws.one_tree_of_steps.Goals as goal

pub returns : goal.returns
returns c = one_of_steps
