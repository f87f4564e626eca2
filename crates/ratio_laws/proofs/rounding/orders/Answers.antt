use Rattle.ratio_laws.proofs.WholeNumberLemmas.{rounds_in_order}
use Rattle.ratio_laws.proofs.rounding.orders.Goals as goal

pub returns : goal.returns
returns g c = rounds_in_order c.args.x.now c.args.y.now
