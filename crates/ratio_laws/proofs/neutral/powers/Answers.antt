use Rattle.ratio_laws.proofs.NeutralLemmas.{has_first_powers}
use Rattle.ratio_laws.proofs.neutral.powers.Goals as goal

pub returns : goal.returns
returns g c = has_first_powers c.args.x.now g.met.T.Integer.range_law (rw c.numer.ensures.value at c.both_held.ensures.first) (rw c.denom.ensures.value at c.both_held.ensures.second)
