-- Written by templates/write from templates/checked_fold_answers.antt.txt: change that file, and write this one anew.
use Rattle.std.proofs.Common.{pos, rules, [], ◌∷◌, ◌++◌}
use Rattle.ratio_core.specs.Laws.{IsSum}
use Rattle.num_rational.specs.Operators.{CanAdd, numbers}
use Rattle.num_rational.proofs.FoldLemmas.{gave_more, next_positive, one_sum, step_more, step_refused}
use Rattle.num_rational.proofs.fold.checked_sum_of_operands.Goals as goal

pub checked_add-requires-clause-right_positive : goal.checked_add-requires-clause-right_positive
checked_add-requires-clause-right_positive g c =
    next_positive g.O.Operand.two_numbers g.I.Iterator.next_gives c.items.yielded c.ratio.ensures c.requires.positive c.into_iter-x-iterator.ensures.into_iter_gives c.items.yielded_by c.in-Some.ensures.steps

pub returns-in_err-total : goal.returns-in_err-total
returns-in_err-total g c =
    let T = g.T.Integer in
    let refused = step_refused g.O.Operand.two_numbers (CanAdd T.EXACT_SUMS T.lo T.hi) IsSum (pos 0, pos 1) c.items.yielded c.in-Some.x (numbers c.items.total) c.ratio.ensures c.items.invariant.total (λ can. c.in_err-total.ensures can.answered) in
    rw c.from_residual.ensures (
      c.items.yielded ++ c.in-Some.x ∷ [],
      (c.next.new.self, gave_more g.I.Iterator.next_gives c.items.yielded c.into_iter-x-iterator.ensures.into_iter_gives c.items.yielded_by c.in-Some.ensures.steps, λ some. search rules),
      λ can. refused can.answered,
    )

pub items-preserved : goal.items-preserved
items-preserved g c =
    let T = g.T.Integer in
    let positive = next_positive g.O.Operand.two_numbers g.I.Iterator.next_gives c.items.yielded c.ratio.ensures c.requires.positive c.into_iter-x-iterator.ensures.into_iter_gives c.items.yielded_by c.in-Some.ensures.steps in
    let can : CanAdd T.EXACT_SUMS T.lo T.hi (numbers c.items.total) (numbers c.ratio.result) = record { left_positive = c.items.invariant.positive; right_positive = positive; answered = c.in_ok-total.ensures.0 } in
    step_more g.O.Operand.two_numbers (CanAdd T.EXACT_SUMS T.lo T.hi) IsSum one_sum (pos 0, pos 1) c.items.yielded c.in-Some.x (numbers c.items.total) (numbers c.in_ok-total.total) c.ratio.ensures c.items.invariant can c.in_ok-total.ensures.1.terms c.in_ok-total.ensures.1.terms.lowest.positive
