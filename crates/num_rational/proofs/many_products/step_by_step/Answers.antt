use Rattle.std.specs.Prelude.{◌*ℤ◌, pos}
use Rattle.std.proofs.Common.{ap, subst, ◌∙◌}
use Rattle.std.proofs.lemmas.List.{take_all}
use Rattle.ratio_integer.specs.Fraction.{IsHeldLowest}
use Rattle.ratio_integer.proofs.LowestTerms.{over_one}
use Rattle.num_rational.specs.ManyProducts.{denominator_product, numerator_product}
use Rattle.num_rational.specs.Operators.{numbers}
use Rattle.num_rational.proofs.ManyProductLemmas.{IsSoFar, above_more, above_out, below_more, below_out, below_start, none_below, so_far_one, lowest_so_far}
use Rattle.num_rational.proofs.many_products.step_by_step.Goals as goal

pub above-init : goal.above-init
above-init g c =
    let T = g.T.Integer in
    let one = ap T.value c.ONE-denom.ensures ∙ T.one_number in
    (so_far_one _ _ (ap T.value c.ONE-numer.ensures ∙ T.one_number) one, λ yes. over_one _ _ one)

pub above-preserved : goal.above-preserved
above-preserved g c =
    let T = g.T.Integer in
    (above_more g.O.ReducedOperand.two_numbers T.lo T.hi c.args.above.now c.above.i c.index-above-i.result c.above-test.true c.index-above-i.is (T.value c.above.numer) (T.value c.above.denom) (numbers c.reduced.result.ratio) c.reduced.ensures _ _ c.above.invariant.0 c.reduced.result.lowest.positive c.in-Some.ensures.0 c.in-Some.ensures.1, c.in-Some.ensures.2)

pub below-init : goal.below-init
below-init g c =
    let T = g.T.Integer in
    let view = g.O.ReducedOperand.two_numbers in
    below_start T.lo T.hi _ _ _ _
    (lowest_so_far T.lo T.hi _ _ _ _ _ _ (subst (λ xs. IsSoFar (numerator_product view xs) (denominator_product view xs) (T.value c.above.numer) (T.value c.above.denom)) (take_all c.above.i c.args.above.now c.above-test.false) c.above.invariant.0) c.in_lowest_terms-total.ensures)

pub below-preserved : goal.below-preserved
below-preserved g c =
    let T = g.T.Integer in
    let view = g.O.ReducedOperand.two_numbers in
    below_more g.P.ReducedOperand.two_numbers T.lo T.hi c.args.below.now c.below.i c.index-below-i.result c.below-test.true c.index-below-i.is (T.value c.below.total.ratio.numer) (T.value c.below.total.ratio.denom) (numbers c.reduced-in-below.result.ratio) c.reduced-in-below.ensures _ _ (numerator_product view c.args.above.now) (denominator_product view c.args.above.now) c.below.invariant c.in-Some-checked_div.ensures

pub returns-clause-quotient : goal.returns-clause-quotient
returns-clause-quotient g c =
    let T = g.T.Integer in
    let view = g.O.ReducedOperand.two_numbers in
    let shows = g.P.ReducedOperand.two_numbers in
    subst (λ xs. IsHeldLowest T.lo T.hi (numerator_product view c.args.above.now *ℤ denominator_product shows xs) (denominator_product view c.args.above.now *ℤ numerator_product shows xs) (T.value c.below.total.ratio.numer) (T.value c.below.total.ratio.denom)) (take_all c.below.i c.args.below.now c.below-test.false) c.below.invariant

pub returns-in-None-clause-refused : goal.returns-in-None-clause-refused
returns-in-None-clause-refused g c =
    let T = g.T.Integer in
    let view = g.O.ReducedOperand.two_numbers in
    λ yes.
    let last = c.is_last.ensures.0 yes in
    none_below g.P.ReducedOperand.two_numbers c.args.below.now T.lo T.hi (numerator_product view c.args.above.now) (denominator_product view c.args.above.now) last.1
    (above_out view T.lo T.hi c.args.above.now c.above.i c.index-above-i.result c.above-test.true c.index-above-i.is (T.value c.above.numer) (T.value c.above.denom) (numbers c.reduced.result.ratio) c.reduced.ensures (pos 0) (pos 0) c.above.invariant.0 c.in-None.ensures last.0)

pub returns-in-None-checked_div-clause-refused : goal.returns-in-None-checked_div-clause-refused
returns-in-None-checked_div-clause-refused g c =
    let T = g.T.Integer in
    let view = g.O.ReducedOperand.two_numbers in
    λ yes.
    let last = c.is_last-in-None-checked_div.ensures.0 yes in
    below_out g.P.ReducedOperand.two_numbers T.lo T.hi c.args.below.now c.below.i c.index-below-i.result c.below-test.true c.index-below-i.is (T.value c.below.total.ratio.numer) (T.value c.below.total.ratio.denom) (numbers c.reduced-in-below.result.ratio) c.reduced-in-below.ensures (pos 0) (pos 0) (numerator_product view c.args.above.now) (denominator_product view c.args.above.now) c.below.invariant c.in-None-checked_div.ensures last.0
