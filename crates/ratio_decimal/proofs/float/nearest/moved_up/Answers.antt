use Rattle.ratio_decimal.proofs.FloatRounding.{moved_top}
use Rattle.ratio_decimal.proofs.float.nearest.moved_up.Goals as goal

pub returns-clause-moved : goal.returns-clause-moved
returns-clause-moved c = (moved_top c.args.n c.requires c.ranges.n.fits).0

pub returns-clause-full : goal.returns-clause-full
returns-clause-full c = (moved_top c.args.n c.requires c.ranges.n.fits).1
