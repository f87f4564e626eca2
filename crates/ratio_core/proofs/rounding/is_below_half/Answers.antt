use Rattle.std.proofs.Common.{ap, ◌∙◌}
use Rattle.ratio_core.proofs.RoundingLemmas.{missing_above, missing_below}
use Rattle.ratio_core.proofs.TestLemmas.{if_false, less_iff}
use Rattle.ratio_core.proofs.rounding.is_below_half.Goals as goal

pub returns-then-is_below_zero : goal.returns-then-is_below_zero
returns-then-is_below_zero g c =
    let v = g.T.Integer.value in
    let m = g.met.T.Integer in
    less_iff c.lt.result (v c.minus.result) (v c.plus.result) (rw c.lt.ensures (m.lt_law c.minus.result c.plus.result)) (
    missing_below _ _ _ _ _ (c.is_below_zero.ensures.0 c.if-is_below_zero.true) (ap v c.ZERO.ensures ∙ m.zero_law) c.minus.ensures c.plus.ensures)

pub returns-else-is_below_zero : goal.returns-else-is_below_zero
returns-else-is_below_zero g c =
    let v = g.T.Integer.value in
    let m = g.met.T.Integer in
    less_iff c.lt-else-is_below_zero.result (v c.args.part) (v c.minus-else-is_below_zero.result) (rw c.lt-else-is_below_zero.ensures (m.lt_law c.args.part c.minus-else-is_below_zero.result)) (
    missing_above _ _ _ (if_false _ c.is_below_zero.ensures c.if-is_below_zero.false) c.minus-else-is_below_zero.ensures)
