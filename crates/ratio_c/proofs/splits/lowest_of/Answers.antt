use Rattle.ratio_core.proofs.NumbersExist.{positive_fits}
use Rattle.ratio_c.proofs.splits.lowest_of.Goals as goal

pub returns-in-None : goal.returns-in-None
returns-in-None g c positive =
    let T = g.T.Integer in
    absurd (c.in-None.ensures (positive_fits T.lo T.hi _ _ g.met.T.Integer.range_law c.both_held.ensures.first c.both_held.ensures.second positive))
