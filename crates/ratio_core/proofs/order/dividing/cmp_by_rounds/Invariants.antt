use Rattle.std.proofs.Common.{◌≢◌, ◌+ℤ◌, pos, unsigned_abs}
use Rattle.ratio_core.proofs.Rounds.{AnswersFor}
use Rattle.ratio_core.proofs.order.dividing.cmp_by_rounds.Given as goal

abbrev pub invariant-rounds : goal.invariant-rounds
invariant-rounds g l =
    let v = g.T.Counted.value in
    record {
      left_nonzero : v l.denom ≢ pos 0;
      right_nonzero : v l.other_denom ≢ pos 0;
      answers : AnswersFor (g.T.Counted.hi +ℤ pos 1) (v l.fn.n) (v l.fn.d) (v l.fn.m) (v l.fn.e) l.initial.steps.left l.initial.steps.right l.reversed (v l.numer) (v l.denom) (v l.other_numer) (v l.other_denom) l.steps.left l.steps.right;
    }

abbrev pub decreases-rounds : goal.decreases-rounds
decreases-rounds g l = unsigned_abs (g.T.Counted.value l.denom)
