use Rattle.ratio_slots.proofs.LawLemmas.{additions_commute, taking_out_undoes}
use Rattle.ratio_slots.proofs.laws.additions.Goals as goal

pub returns-clause-commute : goal.returns-clause-commute
returns-clause-commute c = additions_commute

pub returns-clause-undo : goal.returns-clause-undo
returns-clause-undo c = taking_out_undoes
