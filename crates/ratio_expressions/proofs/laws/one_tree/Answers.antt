use Rattle.ratio_expressions.proofs.ParserLaws.{one_of_tokens}
use Rattle.ratio_expressions.proofs.laws.one_tree.Goals as goal

pub returns : goal.returns
returns c = one_of_tokens
