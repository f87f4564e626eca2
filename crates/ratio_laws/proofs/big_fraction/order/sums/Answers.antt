use Rattle.ratio_laws.proofs.OrderLawLemmas.{sums_in_order}
use Rattle.ratio_big.specs.Fractions.{big_numbers}
use Rattle.ratio_laws.proofs.big_fraction.order.sums.Goals as goal

pub returns : goal.returns
returns c =
    let x = big_numbers c.args.x.now in
    let y = big_numbers c.args.y.now in
    let z = big_numbers c.args.z.now in
    sums_in_order x.0 x.1 y.0 y.1 c.args.x.now.kept.lowest.positive c.args.y.now.kept.lowest.positive z.0 z.1 c.args.z.now.kept.lowest.positive
