use Rattle.ratio_big.specs.Fractions.{big_numbers}
use Rattle.ratio_laws.proofs.BigPowerLawLemmas.{has_small_powers, is_refused_by_no_power, splits_exponent_product, splits_exponent_sum, turns_power}
use Rattle.ratio_laws.proofs.big_fraction.powers.exponents.Goals as goal

pub returns-clause-first : goal.returns-clause-first
returns-clause-first c = has_small_powers (big_numbers c.args.x.now) c.args.x.now.kept.lowest

pub returns-clause-sum : goal.returns-clause-sum
returns-clause-sum c = splits_exponent_sum (big_numbers c.args.x.now) c.args.x.now.kept.lowest

pub returns-clause-product : goal.returns-clause-product
returns-clause-product c = splits_exponent_product (big_numbers c.args.x.now)

pub returns-clause-negative : goal.returns-clause-negative
returns-clause-negative c = turns_power (big_numbers c.args.x.now)

pub returns-clause-none : goal.returns-clause-none
returns-clause-none c = is_refused_by_no_power (big_numbers c.args.x.now) c.args.x.now.kept.lowest
