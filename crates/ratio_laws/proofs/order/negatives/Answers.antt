use Rattle.ratio_laws.proofs.OrderLawLemmas.{negates_in_reverse}
use Rattle.ratio_laws.proofs.order.negatives.Goals as goal

pub returns : goal.returns
returns g c = negates_in_reverse c.args.x.now c.args.y.now
