use Rattle.ratio_core.proofs.RoundingLawLemmas.{each_ceiling, each_floor, each_rounded, each_truncation, next_to}
use Rattle.ratio_laws.proofs.laws.roundings.Goals as goal

pub returns : goal.returns
returns c = record { floors = each_floor; ceilings = each_ceiling; truncations = each_truncation; rounded = each_rounded; next = next_to }
