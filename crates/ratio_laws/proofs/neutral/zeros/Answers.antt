use Rattle.ratio_laws.proofs.NeutralLemmas.{is_kept_by_zero, is_zero_times_zero}
use Rattle.ratio_laws.proofs.neutral.zeros.Goals as goal

pub returns-clause-sums : goal.returns-clause-sums
returns-clause-sums g c = is_kept_by_zero c.args.x.now g.met.T.Integer.range_law (rw c.numer.ensures.value at c.both_held.ensures.first) (rw c.denom.ensures.value at c.both_held.ensures.second)

pub returns-clause-product : goal.returns-clause-product
returns-clause-product g c = is_zero_times_zero c.args.x.now g.met.T.Integer.range_law (rw c.numer.ensures.value at c.both_held.ensures.first) (rw c.denom.ensures.value at c.both_held.ensures.second)
