use Rattle.ratio_core.proofs.ProductLemmas.{product_by_lowest}
use Rattle.ratio_core.proofs.products.cancelled_product.Goals as goal

pub returns : goal.returns
returns g c =
    let v = g.T.Integer.value in
    product_by_lowest (λ r. v r.0) (λ r. v r.1) _ _ _ _ _ _ _ _ _ _ c.crossed_product.result c.lowest_terms-a.ensures.terms c.lowest_terms-c.ensures.terms c.crossed_product.ensures
