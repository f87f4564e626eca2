use Rattle.ratio_laws.proofs.SignLawLemmas.{is_double_negative}
use Rattle.ratio_laws.proofs.signs.negatives.Goals as goal

pub returns : goal.returns
returns g c = is_double_negative c.args.x.now (rw c.numer.ensures.value at c.both_held.ensures.first) (rw c.denom.ensures.value at c.both_held.ensures.second)
