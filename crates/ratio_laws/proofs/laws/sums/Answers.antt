use Rattle.ratio_core.proofs.LawLemmas.{sums_associate, sums_commute}
use Rattle.ratio_laws.proofs.laws.sums.Goals as goal

pub returns-clause-commute : goal.returns-clause-commute
returns-clause-commute c = sums_commute

pub returns-clause-associate : goal.returns-clause-associate
returns-clause-associate c = sums_associate
