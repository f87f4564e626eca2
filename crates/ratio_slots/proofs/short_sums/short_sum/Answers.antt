use Rattle.std.proofs.Common.{rules}
use mir.Facts.{to_z-of_z}
use mir.Syntax.{w128}
use mir.Val.{SFits}
use Rattle.ratio_slots.proofs.ShortSumLemmas.{short_begins, short_ends, steps_at}
use Rattle.ratio_slots.proofs.short_sums.short_sum.Goals as goal

pub joining-init : goal.joining-init
joining-init c = short_begins c.args.slots.now

pub joining-preserved : goal.joining-preserved
joining-preserved c =
    let held : SFits w128 c.in_ok-sum.sum = search rules in
    let numer : SFits w128 c.numer_at.result = search rules in
    rw (to_z-of_z held)
    (steps_at c.args.slots.now c.joining.i _ _ _ _ _ _ c.denom_at-denom.ensures c.numer_at.ensures c.if-denom-eq0.false c.joining-test.true (rw (to_z-of_z numer) at c.in_ok-sum.ensures) c.joining.invariant)

pub returns : goal.returns
returns c = short_ends c.args.slots.now c.joining.i _ _ c.joining-test.false c.joining.invariant
