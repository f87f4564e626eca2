use Rattle.ratio_approximation.proofs.NearestLawLemmas.{lowest_nearest, nearest_lowest, nearest_moved, nearest_unique}
use Rattle.ratio_laws.proofs.laws.nearest_fractions.Goals as goal

pub returns-clause-one : goal.returns-clause-one
returns-clause-one c = nearest_unique

pub returns-clause-lowest : goal.returns-clause-lowest
returns-clause-lowest c = nearest_lowest

pub returns-clause-own : goal.returns-clause-own
returns-clause-own c = lowest_nearest

pub returns-clause-value : goal.returns-clause-value
returns-clause-value c = nearest_moved
