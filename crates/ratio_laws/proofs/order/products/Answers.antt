use Rattle.ratio_laws.proofs.OrderLawLemmas.{multiplies_in_order, multiplies_in_reverse}
use Rattle.ratio_laws.proofs.order.products.Goals as goal

pub returns-clause-above : goal.returns-clause-above
returns-clause-above g c = multiplies_in_order c.args.x.now c.args.y.now c.args.z.now

pub returns-clause-below : goal.returns-clause-below
returns-clause-below g c = multiplies_in_reverse c.args.x.now c.args.y.now c.args.z.now
