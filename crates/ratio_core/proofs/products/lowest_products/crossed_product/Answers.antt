use Rattle.ratio_integer.proofs.CrossCancelling.{product_lowest}
use Rattle.ratio_integer.proofs.LowestTerms.{lowest_own}
use Rattle.ratio_core.proofs.ProductLemmas.{checks_by_lowest}
use Rattle.ratio_core.proofs.products.lowest_products.crossed_product.Goals as goal

pub multiplied-requires : goal.multiplied-requires
multiplied-requires g c =
    (product_lowest _ _ _ _ _ _ _ _ _ _ _ _ (lowest_own _ _ c.requires.left) (lowest_own _ _ c.requires.right) c.lowest_terms-p.ensures.terms c.lowest_terms-s.ensures.terms).lowest

pub returns : goal.returns
returns g c =
    let v = g.T.Integer.value in
    let low = product_lowest _ _ _ _ _ _ _ _ _ _ _ _ (lowest_own _ _ c.requires.left) (lowest_own _ _ c.requires.right) c.lowest_terms-p.ensures.terms c.lowest_terms-s.ensures.terms in
    checks_by_lowest (λ r. v r.0) (λ r. v r.1) _ _ _ _ _ _ c.multiplied.result low c.multiplied.ensures
