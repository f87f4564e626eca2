use Rattle.ratio_laws.proofs.RationalizedBack.{ends_greater, floats_between, rationalized_back}
use Rattle.ratio_laws.proofs.laws.rationalized_floats.Goals as goal

pub returns : goal.returns
returns c = record { back = rationalized_back; ends = ends_greater; between = floats_between }
