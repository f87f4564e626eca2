use Rattle.ratio_laws.proofs.WholeNumberLemmas.{adds_whole_to_ceiling, adds_whole_to_floor}
use Rattle.ratio_laws.proofs.rounding.sums.Goals as goal

pub returns-clause-floor : goal.returns-clause-floor
returns-clause-floor g c = adds_whole_to_floor c.args.x.now c.args.n.now g.met.T.Integer.range_law

pub returns-clause-ceiling : goal.returns-clause-ceiling
returns-clause-ceiling g c = adds_whole_to_ceiling c.args.x.now c.args.n.now g.met.T.Integer.range_law
