use Rattle.ratio_laws.proofs.RemainderLawLemmas.{has_rest_on_its_side, has_smaller_rest, is_quotient_and_rest}
use Rattle.ratio_laws.proofs.remainder.parts.Goals as goal

pub returns-clause-sum : goal.returns-clause-sum
returns-clause-sum g c = is_quotient_and_rest c.args.x.now c.args.y.now

pub returns-clause-smaller : goal.returns-clause-smaller
returns-clause-smaller g c = has_smaller_rest c.args.x.now c.args.y.now

pub returns-clause-sign : goal.returns-clause-sign
returns-clause-sign g c = has_rest_on_its_side c.args.x.now c.args.y.now
