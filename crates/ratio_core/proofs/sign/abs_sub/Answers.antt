use Rattle.std.proofs.Common.{sym, ◌∙◌}
use Rattle.ratio_core.proofs.sign.abs_sub.Goals as goal

pub sub-requires-clause-answered : goal.sub-requires-clause-answered
sub-requires-clause-answered g c = c.requires.answered (sym c.cross_order.ensures.order ∙ c.in-Greater.is)
