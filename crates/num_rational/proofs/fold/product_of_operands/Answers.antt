-- Written by templates/write from templates/fold_answers.antt.txt: change that file, and write this one anew.
use Rattle.std.proofs.Common.{pos, subst}
use Rattle.std.proofs.lemmas.Fn.{FoldsTo-push}
use Rattle.ratio_core.specs.Laws.{IsProduct}
use Rattle.num_rational.specs.Operators.{CanMultiply, numbers}
use Rattle.num_rational.proofs.FoldLemmas.{next_along}
use Rattle.num_rational.proofs.fold.product_of_operands.Goals as goal

pub mul-total-requires : goal.mul-total-requires
mul-total-requires g c =
    let T = g.T.Integer in
    let can = next_along g.O.Operand.two_numbers (CanMultiply T.lo T.hi) IsProduct g.I.Iterator.next_gives (pos 1, pos 1) c.items.yielded c.ratio.ensures (λ xs t gave. (c.requires.answered xs t gave).answered) c.into_iter-x-iterator.ensures.into_iter_gives c.items.yielded_by c.in-Some.ensures.steps c.items.invariant in
    record { left_positive = can.left_positive; right_positive = can.right_positive; answered = can.answered }

pub items-preserved : goal.items-preserved
items-preserved g c =
    FoldsTo-push _ _ c.items.yielded (numbers c.items.total) c.in-Some.x (numbers c.mul-total.result) c.items.invariant (subst (λ p. IsProduct (numbers c.items.total) p (numbers c.mul-total.result)) c.ratio.ensures c.mul-total.ensures.terms)
