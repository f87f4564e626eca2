use Rattle.ratio_core.specs.Parts.{carried}
use Rattle.ratio_core.proofs.PartLemmas.{carried_held}
use Rattle.ratio_core.proofs.PartsSumLemmas.{carried_total}
use Rattle.ratio_core.proofs.sums.mixed.carried_sum.Goals as goal

pub carried_on-requires : goal.carried_on-requires
carried_on-requires g c = carried_held _ _ _ _ c.sum_over-more.result.0 g.met.T.Integer.range_law c.requires.right c.held.ensures.range.below

pub returns-clause-sum : goal.returns-clause-sum
returns-clause-sum g c =
    let v = g.T.Integer.value in
    carried_total _ _ _ _ (v c.args.g) _ _ _ _ (carried c.sum_over-carry.result.0) (v c.sum_over-carry.result.1) c.sum_over-more.ensures.sum c.carried_on.ensures c.sum_over-carry.ensures.sum
