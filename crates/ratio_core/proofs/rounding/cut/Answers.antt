use Rattle.ratio_core.proofs.RoundingLemmas.{cut_division}
use Rattle.ratio_core.proofs.rounding.cut.Goals as goal

pub returns-clause-cut : goal.returns-clause-cut
returns-clause-cut g c = cut_division _ _ _ _ c.requires c.div_rem.ensures.quotient c.div_rem.ensures.remainder
