use Rattle.std.proofs.Common.{refl}
use Rattle.ratio_integer.proofs.Whole.{positive_nonzero}
use Rattle.ratio_core.proofs.EqualityLaws.{told_lowest}
use Rattle.ratio_core.proofs.OrderLaws.{cross_lowest, cross_total}
use Rattle.ratio_laws.proofs.ReducedLemmas.{both_fields, one_pair}
use Rattle.ratio_big.specs.Fractions.{big_numbers}
use Rattle.ratio_big.specs.declared.fraction.BigFraction.{BigFraction}
use Rattle.ratio_laws.proofs.big_fraction.order.orders.Goals as goal

pub returns-clause-total : goal.returns-clause-total
returns-clause-total c = cross_total (λ (x : BigFraction). (big_numbers x).0) (λ x. (big_numbers x).1) (λ x. positive_nonzero (big_numbers x).1 x.kept.lowest.positive)

pub returns-clause-equal : goal.returns-clause-equal
returns-clause-equal c =
    let x = big_numbers c.args.x.now in
    let y = big_numbers c.args.y.now in
    let is = cross_lowest x.0 x.1 y.0 y.1 c.args.x.now.kept.lowest c.args.y.now.kept.lowest in
    (λ same. one_pair x y (is.0 same), λ same. is.1 (both_fields x y same))

pub returns-clause-same : goal.returns-clause-same
returns-clause-same c =
    let x = big_numbers c.args.x.now in
    let y = big_numbers c.args.y.now in
    let is = told_lowest x.0 x.1 y.0 y.1 _ refl c.args.x.now.kept.lowest c.args.y.now.kept.lowest in
    (λ same. one_pair x y (is.0 same), λ same. is.1 (both_fields x y same))
