use Rattle.ratio_laws.proofs.ManyProductLawLemmas.{divides_many_in_parts, has_one_quotient_of_many}
use Rattle.ratio_laws.proofs.many_products.quotients.Goals as goal

pub returns-clause-order : goal.returns-clause-order
returns-clause-order g c = has_one_quotient_of_many _ _ c.args.x.now c.args.above.now c.args.others.now c.args.below.now c.args.divisors.now

pub returns-clause-parts : goal.returns-clause-parts
returns-clause-parts g c = divides_many_in_parts _ _ c.args.x.now c.args.above.now c.args.below.now
