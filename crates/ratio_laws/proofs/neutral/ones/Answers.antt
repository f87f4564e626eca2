use Rattle.ratio_laws.proofs.NeutralLemmas.{is_kept_by_one}
use Rattle.ratio_laws.proofs.neutral.ones.Goals as goal

pub returns : goal.returns
returns g c = is_kept_by_one c.args.x.now g.met.T.Integer.range_law (rw c.numer.ensures.value at c.both_held.ensures.first) (rw c.denom.ensures.value at c.both_held.ensures.second)
