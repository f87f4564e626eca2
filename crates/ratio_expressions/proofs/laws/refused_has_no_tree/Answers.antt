use Rattle.ratio_expressions.proofs.Refusals.{refusal_no_tree}
use Rattle.ratio_expressions.proofs.laws.refused_has_no_tree.Goals as goal

pub returns : goal.returns
returns c = λ text at t r e. refusal_no_tree text at t r e
