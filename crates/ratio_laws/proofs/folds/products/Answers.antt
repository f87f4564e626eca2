use Rattle.ratio_laws.proofs.FoldLawLemmas.{has_no_product_of_both, multiplies_in_any_order, multiplies_in_parts, products_go_on}
use Rattle.ratio_laws.proofs.folds.products.Goals as goal

pub returns-clause-on : goal.returns-clause-on
returns-clause-on g c = products_go_on _ c.args.x.now c.args.first.now c.args.second.now

pub returns-clause-none : goal.returns-clause-none
returns-clause-none g c = has_no_product_of_both _ _ _ c.args.first.now c.args.second.now

pub returns-clause-parts : goal.returns-clause-parts
returns-clause-parts g c = multiplies_in_parts _ c.args.x.now c.args.first.now c.args.second.now

pub returns-clause-order : goal.returns-clause-order
returns-clause-order g c = multiplies_in_any_order _ c.args.x.now c.args.first.now c.args.second.now
