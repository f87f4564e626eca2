use Rattle.ratio_core.proofs.ManyProductLemmas.{ListsCancelled}
use Rattle.ratio_core.proofs.products.many_products.cancel_lists.Given as goal

abbrev pub invariant-each : goal.invariant-each
invariant-each g l = ListsCancelled g.T.Integer.value l.initial.above l.initial.below l.above l.below l.x-index
