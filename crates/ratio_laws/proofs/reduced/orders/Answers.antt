use Rattle.ratio_core.proofs.OrderLaws.{cross_lowest}
use Rattle.num_rational.specs.Ratio.{denominator, numerator}
use Rattle.ratio_laws.proofs.reduced.orders.Goals as goal

pub returns : goal.returns
returns g c =
    let x = c.args.x.now in
    let y = c.args.y.now in
    cross_lowest (numerator x.ratio) (denominator x.ratio) (numerator y.ratio) (denominator y.ratio) x.lowest y.lowest
