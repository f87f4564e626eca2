use Rattle.ratio_core.proofs.RoundingLemmas.{half_nonzero, less_held, more_held, rounded_less, rounded_more, rounded_same}
use Rattle.ratio_core.proofs.TestLemmas.{if_false}
use Rattle.ratio_core.proofs.rounding.round.Goals as goal

pub previous-requires : goal.previous-requires
previous-requires g c = less_held _ _ _ _ _ _ g.met.T.Integer.range_law c.cut-whole.ensures.held c.cut-whole.ensures.cut (c.is_below_zero.ensures.0 c.if-is_below_zero.true)

pub next-requires : goal.next-requires
next-requires g c =
    let half = if_false _ c.is_below_half.ensures c.if-is_below_half.false in
    let above = if_false _ c.is_below_zero.ensures c.if-is_below_zero.false in
    more_held _ _ _ _ _ _ g.met.T.Integer.range_law c.cut-whole.ensures.held c.cut-whole.ensures.cut above (half_nonzero _ _ _ _ c.cut-whole.ensures.cut half)

pub returns-then-is_below_half : goal.returns-then-is_below_half
returns-then-is_below_half g c = rounded_same _ _ _ _ c.cut-whole.ensures.cut (c.is_below_half.ensures.0 c.if-is_below_half.true)

pub returns-then-is_below_zero : goal.returns-then-is_below_zero
returns-then-is_below_zero g c =
    let half = if_false _ c.is_below_half.ensures c.if-is_below_half.false in
    rw c.previous.ensures (rounded_less _ _ _ _ c.cut-whole.ensures.cut half (c.is_below_zero.ensures.0 c.if-is_below_zero.true))

pub returns-else-is_below_zero : goal.returns-else-is_below_zero
returns-else-is_below_zero g c =
    let half = if_false _ c.is_below_half.ensures c.if-is_below_half.false in
    rw c.next.ensures (rounded_more _ _ _ _ c.cut-whole.ensures.cut half (if_false _ c.is_below_zero.ensures c.if-is_below_zero.false))
