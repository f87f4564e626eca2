use Rattle.ratio_core.proofs.SignLemmas.{positive_above, positive_below, not_below_above}
use Rattle.ratio_core.proofs.TestLemmas.{if_false, iff_both}
use Rattle.ratio_core.proofs.sign.is_positive.Goals as goal

pub returns-then-is_below_zero : goal.returns-then-is_below_zero
returns-then-is_below_zero g c = iff_both c.is_below_zero-then-is_below_zero.ensures (positive_below _ _ (c.is_below_zero.ensures.0 c.if-is_below_zero.true))

pub returns-else-is_below_zero : goal.returns-else-is_below_zero
returns-else-is_below_zero g c = iff_both c.is_above_zero.ensures (positive_above _ _ (not_below_above _ c.requires (if_false _ c.is_below_zero.ensures c.if-is_below_zero.false)))
