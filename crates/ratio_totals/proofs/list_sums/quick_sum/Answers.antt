use Rattle.std.proofs.Common.{rules}
use mir.Facts.{to_z-of_z}
use mir.Syntax.{w128}
use mir.Val.{SFits}
use Rattle.ratio_totals.specs.Values.{pair_of}
use Rattle.ratio_totals.proofs.ItemLemmas.{pair_positive}
use Rattle.ratio_totals.proofs.ListSumLemmas.{quick_begins, quick_ends, quick_steps}
use Rattle.ratio_totals.proofs.list_sums.quick_sum.Goals as goal

pub adding-init : goal.adding-init
adding-init g c = quick_begins pair_of pair_positive c.args.items.now

pub adding-preserved : goal.adding-preserved
adding-preserved g c =
    let held : SFits w128 c.in_ok-new.new = search rules in
    let numer : SFits w128 c.parts-numer.result.0 = search rules in
    rw (to_z-of_z held)
    (quick_steps pair_of pair_positive c.args.items.now c.adding.x-index c.x-item.result c.parts-numer.result _ _ _ _ c.adding-test.true c.x-item.is c.parts-numer.ensures.pair (rw (to_z-of_z numer) at c.in_ok-new.ensures) c.adding.invariant)

pub returns : goal.returns
returns g c = quick_ends pair_of pair_positive c.args.items.now c.adding.x-index _ _ c.adding-test.false c.adding.invariant
