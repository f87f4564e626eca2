use Rattle.ratio_expressions.proofs.Refusals.{one_refusal}
use Rattle.ratio_expressions.proofs.laws.one_refusal.Goals as goal

pub returns : goal.returns
returns c = one_refusal
