use Rattle.ratio_approximation.proofs.SearchCountLawLemmas.{counts_same}
use Rattle.ratio_approximation.proofs.SimplestLawLemmas.{simplest_lowest, simplest_same, simplest_unique}
use Rattle.ratio_laws.proofs.laws.simplest_fractions.Goals as goal

pub returns-clause-one : goal.returns-clause-one
returns-clause-one c = simplest_unique

pub returns-clause-lowest : goal.returns-clause-lowest
returns-clause-lowest c = simplest_lowest

pub returns-clause-value : goal.returns-clause-value
returns-clause-value c = simplest_same

pub returns-clause-counts : goal.returns-clause-counts
returns-clause-counts c = counts_same
