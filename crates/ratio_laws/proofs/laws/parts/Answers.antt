use Rattle.ratio_core.proofs.PowerLawLemmas.{parts_add_up, parts_are_answered}
use Rattle.ratio_laws.proofs.laws.parts.Goals as goal

pub returns : goal.returns
returns c = record { add_up = parts_add_up; answered = parts_are_answered }
