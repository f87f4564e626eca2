-- Written by templates/write from templates/reduced_fold_invariants.antt.txt: change that file, and write this one anew.
use Rattle.std.proofs.Common.{pos, take, true}
use Rattle.ratio_core.specs.Laws.{IsSum}
use Rattle.num_rational.specs.Operators.{CanAdd, numbers}
use Rattle.num_rational.proofs.FoldLemmas.{StepsSoFar}
use Rattle.num_rational.proofs.reduced.Reduced.checked_sum.Given as goal

abbrev pub invariant-items : goal.invariant-items
invariant-items g l = let T = g.T.Integer in StepsSoFar g.O.ReducedOperand.two_numbers (CanAdd true T.lo T.hi) IsSum (pos 0, pos 1) (take l.x-index l.items) (numbers l.total.ratio)
