use Rattle.ratio_laws.proofs.DivisorLawLemmas.{has_multiple_of_both, has_no_multiple_below}
use Rattle.ratio_laws.proofs.divisors.least.Goals as goal

pub returns-clause-divided : goal.returns-clause-divided
returns-clause-divided g c = has_multiple_of_both c.args.x.now c.args.y.now

pub returns-clause-none_below : goal.returns-clause-none_below
returns-clause-none_below g c = has_no_multiple_below c.args.x.now c.args.y.now
