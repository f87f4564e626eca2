use Rattle.ratio_laws.proofs.WholeNumberLemmas.{is_ceiling_of_negative}
use Rattle.ratio_laws.proofs.rounding.negatives.Goals as goal

pub returns : goal.returns
returns g c = is_ceiling_of_negative c.args.x.now g.met.T.Integer.range_law (rw c.numer.ensures.value at c.both_held.ensures.first)
