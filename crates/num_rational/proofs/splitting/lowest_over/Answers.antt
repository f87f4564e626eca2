use Rattle.ratio_core.proofs.NumbersExist.{positive_fits}
use Rattle.num_rational.proofs.splitting.lowest_over.Goals as goal

pub unreachable-requires : goal.unreachable-requires
unreachable-requires g c =
    let T = g.T.Integer in
    absurd (c.in-None.ensures (positive_fits T.lo T.hi _ _ g.met.T.Integer.range_law c.both_held.ensures.first c.both_held.ensures.second c.requires))
