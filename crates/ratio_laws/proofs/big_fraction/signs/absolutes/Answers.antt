use Rattle.ratio_big.specs.Fractions.{big_numbers}
use Rattle.ratio_laws.proofs.BigSignLawLemmas.{meets_triangle_inequality, moves_absolute}
use Rattle.ratio_laws.proofs.big_fraction.signs.absolutes.Goals as goal

pub returns-clause-product : goal.returns-clause-product
returns-clause-product c = moves_absolute (big_numbers c.args.x.now) (big_numbers c.args.y.now) c.args.x.now.kept.lowest.positive c.args.y.now.kept.lowest.positive

pub returns-clause-sum : goal.returns-clause-sum
returns-clause-sum c = meets_triangle_inequality (big_numbers c.args.x.now) (big_numbers c.args.y.now) c.args.x.now.kept.lowest.positive c.args.y.now.kept.lowest.positive
