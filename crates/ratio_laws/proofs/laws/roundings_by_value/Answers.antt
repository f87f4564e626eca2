use Rattle.ratio_core.proofs.RoundingLawLemmas.{same_ceiling, same_floor, same_rounded, same_truncation}
use Rattle.ratio_laws.proofs.laws.roundings_by_value.Goals as goal

pub returns : goal.returns
returns c = record { floors = same_floor; ceilings = same_ceiling; truncations = same_truncation; rounded = same_rounded }
