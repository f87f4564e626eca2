use Rattle.std.proofs.Common.{Some, ap}
use Rattle.num_rational.proofs.ratio.traits.RatioPartialOrd.partial_cmp.Goals as goal

pub returns : goal.returns
returns g c = ap Some c.cmp.ensures
