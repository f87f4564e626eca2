use Rattle.std.proofs.Common.{ap, refl, ◌∙◌}
use Rattle.ratio_integer.proofs.LowestTerms.{denom_out, numer_out}
use Rattle.ratio_core.proofs.ManyProductLemmas.{held_magnitudes, lowest_magnitudes, tells_nonzero, zero_over}
use Rattle.ratio_core.proofs.products.many_products.checked_quotient_of_products.Goals as goal

pub returns-then-has_zero-2 : goal.returns-then-has_zero-2
returns-then-has_zero-2 g c =
    rw (c.ZERO-then-has_zero-2.ensures, c.ONE-then-has_zero-2.ensures) (zero_over _ _ _ _ _ _
    (c.has_zero-2.ensures.0 c.if-has_zero-2.true)
    (tells_nonzero _ c.has_zero.result c.has_zero.ensures c.if-has_zero.false)
    g.met.T.Integer.zero_law
    g.met.T.Integer.one_law
    (rw c.ZERO.ensures at c.both_held.ensures.first)
    (rw c.ONE.ensures at c.both_held.ensures.second))

pub returns-in_err-numer : goal.returns-in_err-numer
returns-in_err-numer g c =
    let nonzero = tells_nonzero _ c.has_zero.result c.has_zero.ensures c.if-has_zero.false in
    rw c.from_residual.ensures (numer_out _ _ _ _ _ _
    (lowest_magnitudes _ _ _ _ _ _ nonzero c.cancel_lists.ensures.factor c.cancel_lists.ensures.coprime c.quotient_sign.ensures refl)
    c.in_err-numer.ensures)

pub returns-in_err-denom : goal.returns-in_err-denom
returns-in_err-denom g c =
    let v = g.T.Integer.value in
    let nonzero = tells_nonzero _ c.has_zero.result c.has_zero.ensures c.if-has_zero.false in
    rw c.from_residual-in_err-denom.ensures (denom_out _ _ _ _ _ _
    (lowest_magnitudes _ _ _ _ _ _ nonzero c.cancel_lists.ensures.factor c.cancel_lists.ensures.coprime c.quotient_sign.ensures (ap v c.ONE-2.ensures ∙ g.met.T.Integer.one_law))
    c.in_err-denom.ensures)

pub returns : goal.returns
returns g c =
    let v = g.T.Integer.value in
    let nonzero = tells_nonzero _ c.has_zero.result c.has_zero.ensures c.if-has_zero.false in
    held_magnitudes _ _ _ _ _ _ nonzero c.cancel_lists.ensures.factor c.cancel_lists.ensures.coprime c.quotient_sign.ensures (ap v c.ONE-2.ensures ∙ g.met.T.Integer.one_law)
    _ _ _ _ c.in_ok-numer.ensures c.in_ok-denom.ensures
