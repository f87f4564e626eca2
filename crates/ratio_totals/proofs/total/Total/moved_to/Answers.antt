use Rattle.ratio_slots.proofs.SumsAgree.{sums_agree}
use Rattle.ratio_totals.proofs.total.Total.moved_to.Goals as goal

pub returns-clause-sum : goal.returns-clause-sum
returns-clause-sum g c = sums_agree _ _ c.in_ok-move_slots.ensures.numerators
