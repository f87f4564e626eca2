use Rattle.num_rational.proofs.ratio.traits.RatioOrd.cmp.Goals as goal

pub returns : goal.returns
returns g c = c.cross_order.ensures.order
