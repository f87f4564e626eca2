use Rattle.ratio_laws.proofs.ManyProductLawLemmas.{has_one_product_of_many, multiplies_many_in_parts}
use Rattle.ratio_laws.proofs.many_products.products.Goals as goal

pub returns-clause-order : goal.returns-clause-order
returns-clause-order g c = has_one_product_of_many _ c.args.x.now c.args.first.now c.args.second.now

pub returns-clause-parts : goal.returns-clause-parts
returns-clause-parts g c = multiplies_many_in_parts _ c.args.x.now c.args.first.now c.args.second.now
