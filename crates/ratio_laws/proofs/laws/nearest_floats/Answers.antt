use Rattle.ratio_decimal.proofs.FloatLawLemmas.{come_back, monotone, value_only, zero_first}
use Rattle.ratio_laws.proofs.laws.nearest_floats.Goals as goal

pub returns : goal.returns
returns c = record { zero = zero_first; value = value_only; monotone = monotone; back = come_back }
