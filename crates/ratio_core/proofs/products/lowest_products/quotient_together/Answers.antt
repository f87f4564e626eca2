use Rattle.std.specs.Prelude.{◌≢◌, pos}
use Rattle.std.proofs.Common.{arith}
use Rattle.ratio_integer.proofs.LowestTerms.{lowest_cancelled, lowest_own}
use Rattle.ratio_core.proofs.CancellingLemmas.{cancelled_left, cancelled_out, terms_of_cancelled}
use Rattle.ratio_core.proofs.ProductLemmas.{checks_by_lowest, quotient_lowest, quotient_out}
use Rattle.ratio_core.proofs.products.lowest_products.quotient_together.Goals as goal

pub sign_moved-requires : goal.sign_moved-requires
sign_moved-requires g c = cancelled_left _ _ _ _ (grind (arith, c.is_zero.ensures)) c.both_cancelled-n.ensures.left

pub returns-in_err-p : goal.returns-in_err-p
returns-in_err-p g c =
    let v = g.T.Integer.value in
    let nonzero : v c.args.c ≢ pos 0 = grind (arith, c.is_zero.ensures) in
    let denoms = lowest_cancelled _ _ _ _ c.requires.left.positive c.both_cancelled-n.ensures.right in
    let out = cancelled_out _ _ _ _ _ _ nonzero c.both_cancelled-n.ensures.left c.in_err-p.ensures in
    rw c.from_residual.ensures (
    quotient_out _ _ _ _ _ _ _ _ _ _ (lowest_own _ _ c.requires.left) (lowest_own _ _ c.requires.right) denoms _ _ g.met.T.Integer.range_law out)

pub multiplied-requires : goal.multiplied-requires
multiplied-requires g c =
    let v = g.T.Integer.value in
    let nonzero : v c.args.c ≢ pos 0 = grind (arith, c.is_zero.ensures) in
    let denoms = lowest_cancelled _ _ _ _ c.requires.left.positive c.both_cancelled-n.ensures.right in
    let moved = c.in_ok-p.ensures in
    let numers = terms_of_cancelled _ _ _ _ _ _ nonzero c.both_cancelled-n.ensures.left moved.terms in
    (quotient_lowest _ _ _ _ _ _ _ _ _ _ (lowest_own _ _ c.requires.left) (lowest_own _ _ c.requires.right) denoms _ _ numers).lowest

pub returns : goal.returns
returns g c =
    let v = g.T.Integer.value in
    let nonzero : v c.args.c ≢ pos 0 = grind (arith, c.is_zero.ensures) in
    let denoms = lowest_cancelled _ _ _ _ c.requires.left.positive c.both_cancelled-n.ensures.right in
    let moved = c.in_ok-p.ensures in
    let numers = terms_of_cancelled _ _ _ _ _ _ nonzero c.both_cancelled-n.ensures.left moved.terms in
    let low = quotient_lowest _ _ _ _ _ _ _ _ _ _ (lowest_own _ _ c.requires.left) (lowest_own _ _ c.requires.right) denoms _ _ numers in
    checks_by_lowest (λ r. v r.0) (λ r. v r.1) _ _ _ _ _ _ c.multiplied.result low c.multiplied.ensures
