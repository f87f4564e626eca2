use Rattle.ratio_laws.proofs.OrderLawLemmas.{products_in_order, products_in_reverse}
use Rattle.ratio_big.specs.Fractions.{big_numbers}
use Rattle.ratio_laws.proofs.big_fraction.order.products.Goals as goal

pub returns-clause-above : goal.returns-clause-above
returns-clause-above c =
    let x = big_numbers c.args.x.now in
    let y = big_numbers c.args.y.now in
    let z = big_numbers c.args.z.now in
    products_in_order x.0 x.1 y.0 y.1 c.args.x.now.kept.lowest.positive c.args.y.now.kept.lowest.positive z.0 z.1 c.args.z.now.kept.lowest.positive

pub returns-clause-below : goal.returns-clause-below
returns-clause-below c =
    let x = big_numbers c.args.x.now in
    let y = big_numbers c.args.y.now in
    let z = big_numbers c.args.z.now in
    products_in_reverse x.0 x.1 y.0 y.1 c.args.x.now.kept.lowest.positive c.args.y.now.kept.lowest.positive z.0 z.1 c.args.z.now.kept.lowest.positive
