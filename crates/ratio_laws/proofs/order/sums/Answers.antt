use Rattle.ratio_laws.proofs.OrderLawLemmas.{adds_in_order}
use Rattle.ratio_laws.proofs.order.sums.Goals as goal

pub returns : goal.returns
returns g c = adds_in_order c.args.x.now c.args.y.now c.args.z.now
