use Rattle.ratio_approximation.proofs.SimplestWithinLawLemmas.{excluded_between, same_bounds, within_lowest, within_unique}
use Rattle.ratio_laws.proofs.laws.simplest_fractions_within.Goals as goal

pub returns-clause-one : goal.returns-clause-one
returns-clause-one c low high p q a b low_up high_up first second = within_unique low high low_up high_up p q a b first second

pub returns-clause-lowest : goal.returns-clause-lowest
returns-clause-lowest c low high p q low_up high_up is = within_lowest low high low_up high_up p q is

pub returns-clause-value : goal.returns-clause-value
returns-clause-value c = same_bounds

pub returns-clause-between : goal.returns-clause-between
returns-clause-between c = excluded_between
