use Rattle.ratio_integer.proofs.LowestTerms.{lowest_own}
use Rattle.ratio_core.proofs.ProductLemmas.{checks_by_lowest, quotient_lowest, quotient_out}
use Rattle.ratio_core.proofs.products.lowest_products.quotient_in_turn.Goals as goal

pub returns-in_err-p : goal.returns-in_err-p
returns-in_err-p g c = rw c.from_residual.ensures (
    quotient_out _ _ _ _ _ _ _ _ _ _ (lowest_own _ _ c.requires.left) (lowest_own _ _ c.requires.right) c.lowest_terms-s.ensures.terms _ _ g.met.T.Integer.range_law c.in_err-p.ensures)

pub multiplied-requires : goal.multiplied-requires
multiplied-requires g c =
    let numers = c.in_ok-p.ensures in
    (quotient_lowest _ _ _ _ _ _ _ _ _ _ (lowest_own _ _ c.requires.left) (lowest_own _ _ c.requires.right) c.lowest_terms-s.ensures.terms _ _ numers.terms).lowest

pub returns : goal.returns
returns g c =
    let v = g.T.Integer.value in
    let numers = c.in_ok-p.ensures in
    let low = quotient_lowest _ _ _ _ _ _ _ _ _ _ (lowest_own _ _ c.requires.left) (lowest_own _ _ c.requires.right) c.lowest_terms-s.ensures.terms _ _ numers.terms in
    checks_by_lowest (λ r. v r.0) (λ r. v r.1) _ _ _ _ _ _ c.multiplied.result low c.multiplied.ensures
