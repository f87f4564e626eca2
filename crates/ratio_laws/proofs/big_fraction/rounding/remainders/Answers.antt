use Rattle.ratio_big.specs.Fractions.{big_numbers}
use Rattle.ratio_laws.proofs.BigWholeLawLemmas.{has_rest_below, has_rest_of_sign, is_multiple_and_rest}
use Rattle.ratio_laws.proofs.big_fraction.rounding.remainders.Goals as goal

pub returns-clause-sum : goal.returns-clause-sum
returns-clause-sum c = is_multiple_and_rest (big_numbers c.args.x.now) (big_numbers c.args.y.now) c.args.x.now.kept.lowest c.args.y.now.kept.lowest

pub returns-clause-smaller : goal.returns-clause-smaller
returns-clause-smaller c = has_rest_below (big_numbers c.args.x.now) (big_numbers c.args.y.now) c.args.x.now.kept.lowest c.args.y.now.kept.lowest

pub returns-clause-side : goal.returns-clause-side
returns-clause-side c = has_rest_of_sign (big_numbers c.args.x.now) (big_numbers c.args.y.now) c.args.x.now.kept.lowest c.args.y.now.kept.lowest
