use Rattle.std.proofs.Common.{sym}
use Rattle.ratio_slots.proofs.DifferenceLemmas.{sign_of_less}
use Rattle.ratio_slots.proofs.RoomLaws.{least_agree, least_associate, room_sums_associate, room_sums_commute, room_sums_undone}
use Rattle.ratio_slots.proofs.laws.room_sums.Goals as goal

pub returns-clause-commute : goal.returns-clause-commute
returns-clause-commute c = room_sums_commute

pub returns-clause-associate : goal.returns-clause-associate
returns-clause-associate c = room_sums_associate

pub returns-clause-undo : goal.returns-clause-undo
returns-clause-undo c = room_sums_undone

pub returns-clause-one_multiple : goal.returns-clause-one_multiple
returns-clause-one_multiple c = least_agree

pub returns-clause-one_of_three : goal.returns-clause-one_of_three
returns-clause-one_of_three c = least_associate

pub returns-clause-signs : goal.returns-clause-signs
returns-clause-signs c = λ x y rest some other more same. sym (sign_of_less x y rest some other more same)
