use Rattle.ratio_slots.proofs.TurnLemmas.{merges_undone, numerators_negated, sums_negated}
use Rattle.ratio_slots.proofs.laws.takings_out.Goals as goal

pub returns-clause-undo : goal.returns-clause-undo
returns-clause-undo c = merges_undone

pub returns-clause-numerators : goal.returns-clause-numerators
returns-clause-numerators c = numerators_negated

pub returns-clause-sum : goal.returns-clause-sum
returns-clause-sum c = sums_negated
