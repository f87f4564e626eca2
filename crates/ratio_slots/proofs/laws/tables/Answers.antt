use Rattle.ratio_slots.proofs.LawLemmas.{differ}
use Rattle.ratio_slots.proofs.laws.tables.Goals as goal

pub returns : goal.returns
returns c = differ
