use Rattle.std.specs.Prelude.{◌*ℤ◌, IsTrue}
use Rattle.std.proofs.Common.{take}
use Rattle.ratio_integer.specs.Fraction.{IsHeldLowest, IsLowestTerms}
use Rattle.num_rational.specs.ManyProducts.{denominator_product, numerator_product}
use Rattle.num_rational.proofs.ManyProductLemmas.{IsSoFar}
use Rattle.num_rational.proofs.many_products.step_by_step.Given as goal

abbrev pub invariant-above : goal.invariant-above
invariant-above g l =
    let T = g.T.Integer in
    let view = g.O.ReducedOperand.two_numbers in
    IsSoFar (numerator_product view (take l.i l.above)) (denominator_product view (take l.i l.above)) (T.value l.numer) (T.value l.denom) × (IsTrue l.lowest → IsLowestTerms (T.value l.numer) (T.value l.denom))

abbrev pub invariant-below : goal.invariant-below
invariant-below g l =
    let T = g.T.Integer in
    let view = g.O.ReducedOperand.two_numbers in
    let shows = g.P.ReducedOperand.two_numbers in
    IsHeldLowest T.lo T.hi (numerator_product view l.fn.above *ℤ denominator_product shows (take l.i l.below)) (denominator_product view l.fn.above *ℤ numerator_product shows (take l.i l.below)) (T.value l.total.ratio.numer) (T.value l.total.ratio.denom)
