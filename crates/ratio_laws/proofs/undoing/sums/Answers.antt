use Rattle.ratio_laws.proofs.UndoingLemmas.{is_difference_undone, is_sum_undone}
use Rattle.ratio_laws.proofs.undoing.sums.Goals as goal

pub returns-clause-sum : goal.returns-clause-sum
returns-clause-sum g c = is_sum_undone c.args.x.now c.args.y.now (rw c.numer.ensures.value at c.both_held.ensures.first) (rw c.denom.ensures.value at c.both_held.ensures.second)

pub returns-clause-difference : goal.returns-clause-difference
returns-clause-difference g c = is_difference_undone c.args.x.now c.args.y.now (rw c.numer.ensures.value at c.both_held.ensures.first) (rw c.denom.ensures.value at c.both_held.ensures.second)
