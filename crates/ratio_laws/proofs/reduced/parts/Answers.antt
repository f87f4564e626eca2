use Rattle.ratio_laws.proofs.ReducedLemmas.{is_sum_of_parts}
use Rattle.ratio_laws.proofs.reduced.parts.Goals as goal

pub returns : goal.returns
returns g c = is_sum_of_parts c.args.x.now g.met.T.Integer.range_law (rw c.numer.ensures.value at c.both_held.ensures.first) (rw c.denom.ensures.value at c.both_held.ensures.second)
