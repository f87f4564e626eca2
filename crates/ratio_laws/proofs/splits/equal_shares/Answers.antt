use Rattle.num_rational.specs.Split.{share_numbers}
use Rattle.ratio_laws.proofs.SplitLawLemmas.{equal_shares}
use Rattle.ratio_laws.proofs.splits.equal_shares.Goals as goal

pub returns : goal.returns
returns g c = equal_shares g.T.Integer.value (g.T.Integer.value c.args.amount) share_numbers c.args.shares.now c.args.parts.now
