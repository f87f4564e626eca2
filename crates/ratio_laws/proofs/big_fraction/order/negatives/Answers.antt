use Rattle.ratio_laws.proofs.OrderLawLemmas.{order_of_negatives}
use Rattle.ratio_big.specs.Fractions.{big_numbers}
use Rattle.ratio_laws.proofs.big_fraction.order.negatives.Goals as goal

pub returns : goal.returns
returns c =
    let x = big_numbers c.args.x.now in
    let y = big_numbers c.args.y.now in
    order_of_negatives x.0 x.1 y.0 y.1 c.args.x.now.kept.lowest.positive c.args.y.now.kept.lowest.positive
