use Rattle.ratio_expressions.proofs.Refusals.{one_of_text}
use Rattle.ratio_expressions.proofs.laws.one_tree_of_text.Goals as goal

pub returns : goal.returns
returns c = one_of_text
