-- Written by templates/write from templates/reduced_fold_invariants.antt.txt: change that file, and write this one anew.
use Rattle.std.proofs.Common.{pos, take}
use Rattle.ratio_core.specs.Laws.{IsProduct}
use Rattle.num_rational.specs.Operators.{CanMultiply, numbers}
use Rattle.num_rational.proofs.FoldLemmas.{StepsSoFar}
use Rattle.num_rational.proofs.reduced.Reduced.checked_product.Given as goal

abbrev pub invariant-items : goal.invariant-items
invariant-items g l = let T = g.T.Integer in StepsSoFar g.O.ReducedOperand.two_numbers (CanMultiply T.lo T.hi) IsProduct (pos 1, pos 1) (take l.x-index l.items) (numbers l.total.ratio)
