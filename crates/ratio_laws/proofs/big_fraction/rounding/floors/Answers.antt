use Rattle.ratio_big.specs.Fractions.{big_numbers}
use Rattle.ratio_laws.proofs.BigWholeLawLemmas.{has_ceiling_of_negative, moves_ceiling, moves_floor}
use Rattle.ratio_laws.proofs.big_fraction.rounding.floors.Goals as goal

pub returns-clause-floor : goal.returns-clause-floor
returns-clause-floor c = moves_floor (big_numbers c.args.x.now) (big_numbers c.args.n.now) c.args.x.now.kept.lowest c.args.n.now.kept.lowest

pub returns-clause-ceiling : goal.returns-clause-ceiling
returns-clause-ceiling c = moves_ceiling (big_numbers c.args.x.now) (big_numbers c.args.n.now) c.args.x.now.kept.lowest c.args.n.now.kept.lowest

pub returns-clause-negative : goal.returns-clause-negative
returns-clause-negative c = has_ceiling_of_negative (big_numbers c.args.x.now) c.args.x.now.kept.lowest.positive
