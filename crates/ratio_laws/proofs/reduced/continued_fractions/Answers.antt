use Rattle.ratio_laws.proofs.QuotientLawLemmas.{comes_from_quotients}
use Rattle.ratio_laws.proofs.reduced.continued_fractions.Goals as goal

pub returns : goal.returns
returns g c =
    comes_from_quotients c.args.x.now (rw c.numer.ensures.value at c.both_held.ensures.first) (rw c.denom.ensures.value at c.both_held.ensures.second)
