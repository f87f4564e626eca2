use Rattle.std.proofs.Common.{◌<◌, arith, length}
use Rattle.ratio_core.proofs.ManyProductLemmas.{factor_numer_nonzero, item_nonzero, lists_start, lists_step}
use Rattle.ratio_core.proofs.products.many_products.cancel_lists.Goals as goal

pub each-init : goal.each-init
each-init g c = lists_start g.T.Integer.value _ _

pub cancel_list-requires-clause-nonzero : goal.cancel_list-requires-clause-nonzero
cancel_list-requires-clause-nonzero g c =
    let inside : c.each.x-index < length c.each.above = omega arith in
    item_nonzero g.T.Integer.value _ _ _ inside (factor_numer_nonzero _ _ _ _ c.each.invariant.factor c.requires.above_nonzero)

pub each-preserved : goal.each-preserved
each-preserved g c =
    let inside : c.each.x-index < length c.each.above = omega arith in
    lists_step g.T.Integer.value _ _ _ _ _ _ _ _ inside c.each.invariant c.cancel_list.ensures.factor c.cancel_list.ensures.coprime
