use Rattle.ratio_slots.proofs.JoinLemmas.{steps_join_all}
use Rattle.ratio_slots.proofs.laws.steps.Goals as goal

pub returns : goal.returns
returns c = steps_join_all
