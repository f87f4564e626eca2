use Rattle.ratio_core.proofs.Rounds.{steps-by_rounds, steps_none}
use Rattle.ratio_core.proofs.order.cmp_counted.Goals as goal

pub returns-in-Some-clause-steps : goal.returns-in-Some-clause-steps
returns-in-Some-clause-steps g c = steps_none _ _ c.in-Some.ensures.1

pub returns-in-None-clause-steps : goal.returns-in-None-clause-steps
returns-in-None-clause-steps g c = steps-by_rounds c.requires.left_nonzero c.requires.right_nonzero c.in-None.ensures c.cmp_by_rounds.ensures
