use Rattle.ratio_expressions.proofs.FloatTextLemmas.{tiny_is_zero}
use Rattle.ratio_expressions.proofs.replies.laws.tiny_floats.Goals as goal

pub returns : goal.returns
returns c = tiny_is_zero
