use Rattle.ratio_core.proofs.RoundingLemmas.{floor_less, less_held}
use Rattle.ratio_core.proofs.rounding.floor.Goals as goal

pub previous-requires : goal.previous-requires
previous-requires g c = less_held _ _ _ _ _ _ g.met.T.Integer.range_law c.cut-whole.ensures.held c.cut-whole.ensures.cut (c.is_below_zero.ensures.0 c.if-is_below_zero.true)

pub returns-then-is_below_zero : goal.returns-then-is_below_zero
returns-then-is_below_zero g c = rw c.previous.ensures (floor_less _ _ _ _ c.cut-whole.ensures.cut (c.is_below_zero.ensures.0 c.if-is_below_zero.true))
