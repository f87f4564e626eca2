use Rattle.ratio_laws.proofs.WholeNumberLemmas.{is_near_floor, is_near_rounded, keeps_whole}
use Rattle.ratio_laws.proofs.rounding.distances.Goals as goal

pub returns-clause-whole : goal.returns-clause-whole
returns-clause-whole g c = keeps_whole c.args.x.now

pub returns-clause-round : goal.returns-clause-round
returns-clause-round g c = is_near_rounded c.args.x.now

pub returns-clause-floor : goal.returns-clause-floor
returns-clause-floor g c = is_near_floor c.args.x.now g.met.T.Integer.range_law (rw c.denom.ensures.value at c.both_held.ensures.second)
