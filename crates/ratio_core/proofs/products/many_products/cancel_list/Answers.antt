use Rattle.std.proofs.Common.{◌<◌, arith, length}
use Rattle.ratio_core.proofs.ManyProductLemmas.{factor_denom_nonzero, item_nonzero, list_start, list_step}
use Rattle.ratio_core.proofs.products.many_products.cancel_list.Goals as goal

pub each-init : goal.each-init
each-init g c = list_start g.T.Integer.value _ _

pub cancel_pair-numer-requires-clause-fraction : goal.cancel_pair-numer-requires-clause-fraction
cancel_pair-numer-requires-clause-fraction g c =
    let inside : c.each.x-index < length c.each.below = omega arith in
    item_nonzero g.T.Integer.value _ _ _ inside (factor_denom_nonzero _ _ _ _ c.each.invariant.factor c.requires.below_nonzero)

pub each-preserved : goal.each-preserved
each-preserved g c =
    let inside : c.each.x-index < length c.each.below = omega arith in
    list_step g.T.Integer.value _ _ _ _ _ _ _ _ inside c.each.invariant c.cancel_pair-numer.ensures.factor c.cancel_pair-numer.ensures.coprime
