use Rattle.ratio_laws.proofs.SignLawLemmas.{is_absolute_times_sign}
use Rattle.ratio_laws.proofs.signs.parts.Goals as goal

pub returns : goal.returns
returns g c = is_absolute_times_sign c.args.x.now (rw c.numer.ensures.value at c.both_held.ensures.first) (rw c.denom.ensures.value at c.both_held.ensures.second)
