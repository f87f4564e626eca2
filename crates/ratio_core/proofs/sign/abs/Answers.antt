use Rattle.ratio_core.proofs.sign.abs.Goals as goal

pub negate-requires : goal.negate-requires
negate-requires g c = c.requires.held (c.is_negative.ensures.0 c.if-is_negative.true)
