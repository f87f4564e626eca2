use Rattle.ratio_laws.proofs.ReducedLemmas.{associates_in_sum, commutes_in_sum}
use Rattle.ratio_laws.proofs.reduced.sums.Goals as goal

pub returns-clause-commute : goal.returns-clause-commute
returns-clause-commute g c = commutes_in_sum c.args.x.now c.args.y.now

pub returns-clause-associate : goal.returns-clause-associate
returns-clause-associate g c = associates_in_sum c.args.x.now c.args.y.now c.args.z.now
