use Rattle.ratio_laws.proofs.DivisorLawLemmas.{has_divisor_of_both, has_no_divisor_above, is_whole_by_divisor}
use Rattle.ratio_laws.proofs.divisors.greatest.Goals as goal

pub returns-clause-divides : goal.returns-clause-divides
returns-clause-divides g c = has_divisor_of_both c.args.x.now c.args.y.now

pub returns-clause-whole : goal.returns-clause-whole
returns-clause-whole g c = is_whole_by_divisor c.args.x.now c.args.y.now

pub returns-clause-none_above : goal.returns-clause-none_above
returns-clause-none_above g c = has_no_divisor_above c.args.x.now c.args.y.now
