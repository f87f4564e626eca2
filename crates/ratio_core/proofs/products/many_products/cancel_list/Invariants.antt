use Rattle.ratio_core.proofs.ManyProductLemmas.{ListCancelled}
use Rattle.ratio_core.proofs.products.many_products.cancel_list.Given as goal

abbrev pub invariant-each : goal.invariant-each
invariant-each g l =
    let v = g.T.Integer.value in
    ListCancelled v (v l.fn.n) l.initial.below l.below (v l.rest) l.x-index
