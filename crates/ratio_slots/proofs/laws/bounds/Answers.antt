use Rattle.ratio_slots.proofs.BoundLemmas.{bounds_hold, bounds_near}
use Rattle.ratio_slots.proofs.BoundedLemmas.{bounds_decide}
use Rattle.ratio_slots.proofs.laws.bounds.Goals as goal

pub returns-clause-hold : goal.returns-clause-hold
returns-clause-hold c = bounds_hold

pub returns-clause-near : goal.returns-clause-near
returns-clause-near c = bounds_near

pub returns-clause-decide : goal.returns-clause-decide
returns-clause-decide c = bounds_decide
