use Rattle.ratio_laws.proofs.PowerLawLemmas.{has_no_power_below_zero, is_power_of_reciprocal, is_reciprocal_of_power}
use Rattle.ratio_laws.proofs.powers.reciprocals.Goals as goal

pub returns-clause-base : goal.returns-clause-base
returns-clause-base g c = is_power_of_reciprocal c.args.x.now

pub returns-clause-none : goal.returns-clause-none
returns-clause-none g c = has_no_power_below_zero c.args.x.now g.met.T.Integer.range_law

pub returns-clause-power : goal.returns-clause-power
returns-clause-power g c = is_reciprocal_of_power c.args.x.now g.met.T.Integer.range_law
