use Rattle.ratio_uses.proofs.ChainOrder.{order_free}
use Rattle.ratio_uses.proofs.units.any_order.Goals as goal

pub returns : goal.returns
returns c = order_free
