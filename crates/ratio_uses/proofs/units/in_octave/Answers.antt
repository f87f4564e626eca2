use Rattle.ratio_uses.proofs.OctaveLemmas.{in_octave}
use Rattle.ratio_uses.proofs.units.in_octave.Goals as goal

pub returns : goal.returns
returns c = in_octave _ _ _ c.in_ok-doubled.ensures.0 c.halved.ensures.halved c.halved.ensures.below_two
