use Rattle.ratio_slots.proofs.JoinedLemmas.{joined_decimals, joined_floats, joined_means, joined_signs, joined_sums}
use Rattle.ratio_slots.proofs.StepLemmas.{steps_leave_pairs}
use Rattle.ratio_slots.proofs.laws.joined_rooms.Goals as goal

pub returns-clause-accepted : goal.returns-clause-accepted
returns-clause-accepted c = steps_leave_pairs

pub returns-clause-sum : goal.returns-clause-sum
returns-clause-sum c = joined_sums

pub returns-clause-mean : goal.returns-clause-mean
returns-clause-mean c = joined_means

pub returns-clause-sign : goal.returns-clause-sign
returns-clause-sign c = joined_signs

pub returns-clause-float : goal.returns-clause-float
returns-clause-float c = joined_floats

pub returns-clause-decimal : goal.returns-clause-decimal
returns-clause-decimal c = joined_decimals
