-- Written by templates/write from templates/reduced_fold_answers.antt.txt: change that file, and write this one anew.
use Rattle.std.proofs.Common.{pos, subst, true}
use Rattle.std.proofs.lemmas.List.{take_all}
use Rattle.ratio_core.proofs.SumLemmas.{fits_by}
use Rattle.ratio_core.specs.Laws.{IsSum}
use Rattle.num_rational.specs.Operators.{CanAdd, numbers}
use Rattle.num_rational.proofs.FoldLemmas.{StepsSoFar, list_more, list_refused, one_sum}
use Rattle.num_rational.proofs.reduced.Reduced.checked_sum.Goals as goal

pub returns-in_err-total : goal.returns-in_err-total
returns-in_err-total g c =
    let T = g.T.Integer in
    rw c.from_residual.ensures (λ can. list_refused g.O.ReducedOperand.two_numbers (CanAdd true T.lo T.hi) IsSum (pos 0, pos 1) c.args.items.now c.items.x-index c.x-item.result c.items-test.true c.x-item.is (numbers c.items.total.ratio) c.reduced.ensures c.items.invariant.total (λ step. c.in_err-total.ensures step.answered) can.answered)

pub items-preserved : goal.items-preserved
items-preserved g c =
    let T = g.T.Integer in
    let can : CanAdd true T.lo T.hi (numbers c.items.total.ratio) (numbers c.reduced.result.ratio) = record { left_positive = c.items.total.lowest.positive; right_positive = c.reduced.result.lowest.positive; answered = fits_by _ _ _ _ _ _ c.in_ok-total.ensures } in
    list_more g.O.ReducedOperand.two_numbers (CanAdd true T.lo T.hi) IsSum (pos 0, pos 1) c.args.items.now c.items.x-index c.x-item.result c.items-test.true c.x-item.is one_sum (numbers c.items.total.ratio) (numbers c.in_ok-total.total.ratio) c.reduced.ensures c.items.invariant can c.in_ok-total.ensures.terms c.in_ok-total.total.lowest.positive

pub returns : goal.returns
returns g c =
    let T = g.T.Integer in
    let whole = subst (λ xs. StepsSoFar g.O.ReducedOperand.two_numbers (CanAdd true T.lo T.hi) IsSum (pos 0, pos 1) xs (numbers c.items.total.ratio)) (take_all c.items.x-index c.args.items.now c.items-test.false) c.items.invariant in
    (record { answered = whole.answered }, whole.total)
