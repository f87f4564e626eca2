-- Written by templates/write from templates/fold_invariants.antt.txt: change that file, and write this one anew.
use Rattle.num_rational.specs.Folds.{IsProductOf}
use Rattle.num_rational.specs.Operators.{numbers}
use Rattle.num_rational.proofs.fold.product_of_operands.Given as goal

abbrev pub invariant-items : goal.invariant-items
invariant-items g l = IsProductOf g.O.Operand.two_numbers l.yielded (numbers l.total)
