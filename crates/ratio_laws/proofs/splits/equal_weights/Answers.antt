use Rattle.ratio_laws.proofs.SplitLawLemmas.{equal_weights}
use Rattle.ratio_laws.proofs.splits.equal_weights.Goals as goal

pub returns : goal.returns
returns g c = equal_weights g.T.Integer.value (g.T.Integer.value c.args.amount) g.T.Integer.value c.args.weights.now c.args.parts.now
