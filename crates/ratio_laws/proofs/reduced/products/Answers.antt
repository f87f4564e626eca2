use Rattle.ratio_laws.proofs.ReducedLemmas.{associates_in_product, commutes_in_product, distributes_over_sum}
use Rattle.ratio_laws.proofs.reduced.products.Goals as goal

pub returns-clause-commute : goal.returns-clause-commute
returns-clause-commute g c = commutes_in_product c.args.x.now c.args.y.now

pub returns-clause-associate : goal.returns-clause-associate
returns-clause-associate g c = associates_in_product c.args.x.now c.args.y.now c.args.z.now

pub returns-clause-distribute : goal.returns-clause-distribute
returns-clause-distribute g c = distributes_over_sum c.args.x.now c.args.y.now c.args.z.now
