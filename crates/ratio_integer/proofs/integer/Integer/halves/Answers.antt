use Rattle.ratio_integer.proofs.HalfLemmas.{divides_by, halves_by}
use Rattle.ratio_integer.proofs.integer.Integer.halves.Goals as goal

pub div_mod_floor-requires : goal.div_mod_floor-requires
div_mod_floor-requires g c = let can = divides_by _ c.requires in record { nonzero = can.0; held = can.1 }

pub returns : goal.returns
returns g c base = halves_by base c.div_mod_floor.ensures
