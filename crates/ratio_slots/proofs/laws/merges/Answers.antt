use Rattle.ratio_slots.proofs.LawLemmas.{merges_add_each, merges_associate, merges_commute}
use Rattle.ratio_slots.proofs.laws.merges.Goals as goal

pub returns-clause-commute : goal.returns-clause-commute
returns-clause-commute c = merges_commute

pub returns-clause-associate : goal.returns-clause-associate
returns-clause-associate c = merges_associate

pub returns-clause-add_each : goal.returns-clause-add_each
returns-clause-add_each c = merges_add_each
