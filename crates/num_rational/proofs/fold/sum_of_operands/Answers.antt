-- Written by templates/write from templates/fold_answers.antt.txt: change that file, and write this one anew.
use Rattle.std.proofs.Common.{pos, subst}
use Rattle.std.proofs.lemmas.Fn.{FoldsTo-push}
use Rattle.ratio_core.specs.Laws.{IsSum}
use Rattle.num_rational.specs.Operators.{CanAdd, numbers}
use Rattle.num_rational.proofs.FoldLemmas.{next_along}
use Rattle.num_rational.proofs.fold.sum_of_operands.Goals as goal

pub add-total-requires : goal.add-total-requires
add-total-requires g c =
    let T = g.T.Integer in
    let can = next_along g.O.Operand.two_numbers (CanAdd T.EXACT_SUMS T.lo T.hi) IsSum g.I.Iterator.next_gives (pos 0, pos 1) c.items.yielded c.ratio.ensures (λ xs t gave. (c.requires.answered xs t gave).answered) c.into_iter-x-iterator.ensures.into_iter_gives c.items.yielded_by c.in-Some.ensures.steps c.items.invariant in
    record { left_positive = can.left_positive; right_positive = can.right_positive; answered = can.answered }

pub items-preserved : goal.items-preserved
items-preserved g c =
    FoldsTo-push _ _ c.items.yielded (numbers c.items.total) c.in-Some.x (numbers c.add-total.result) c.items.invariant (subst (λ p. IsSum (numbers c.items.total) p (numbers c.add-total.result)) c.ratio.ensures c.add-total.ensures.terms)
