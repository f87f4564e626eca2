use Rattle.ratio_core.proofs.CutLemmas.{only_fraction, only_slashed}
use Rattle.ratio_laws.proofs.laws.texts.one_reading.Goals as goal

pub returns-clause-fraction : goal.returns-clause-fraction
returns-clause-fraction c = only_fraction

pub returns-clause-slashed : goal.returns-clause-slashed
returns-clause-slashed c = only_slashed
