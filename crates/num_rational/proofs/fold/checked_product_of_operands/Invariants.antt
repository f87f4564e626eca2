-- Written by templates/write from templates/checked_fold_invariants.antt.txt: change that file, and write this one anew.
use Rattle.std.proofs.Common.{pos}
use Rattle.ratio_core.specs.Laws.{IsProduct}
use Rattle.num_rational.specs.Operators.{CanMultiply, numbers}
use Rattle.num_rational.proofs.FoldLemmas.{StepsSoFar}
use Rattle.num_rational.proofs.fold.checked_product_of_operands.Given as goal

abbrev pub invariant-items : goal.invariant-items
invariant-items g l = let T = g.T.Integer in StepsSoFar g.O.Operand.two_numbers (CanMultiply T.lo T.hi) IsProduct (pos 1, pos 1) l.yielded (numbers l.total)
