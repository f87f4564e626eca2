use Rattle.ratio_approximation.proofs.NearestMoves.{not_above_max}
use Rattle.ratio_approximation.proofs.nearest.neighbour.steps_towards.Goals as goal

pub divide_left-whole-requires-clause-held : goal.divide_left-whole-requires-clause-held
divide_left-whole-requires-clause-held g c = not_above_max _ _ _ c.requires.gap

pub divide_right-room-requires-clause-held : goal.divide_right-room-requires-clause-held
divide_right-room-requires-clause-held g c = not_above_max _ _ _ c.requires.denom
