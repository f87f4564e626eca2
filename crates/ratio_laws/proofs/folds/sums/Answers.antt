use Rattle.ratio_laws.proofs.FoldLawLemmas.{adds_in_any_order, adds_in_parts, has_no_sum_of_both, sums_go_on}
use Rattle.ratio_laws.proofs.folds.sums.Goals as goal

pub returns-clause-on : goal.returns-clause-on
returns-clause-on g c = sums_go_on _ c.args.x.now c.args.first.now c.args.second.now

pub returns-clause-none : goal.returns-clause-none
returns-clause-none g c = has_no_sum_of_both _ _ _ c.args.first.now c.args.second.now

pub returns-clause-parts : goal.returns-clause-parts
returns-clause-parts g c = adds_in_parts _ c.args.x.now c.args.first.now c.args.second.now

pub returns-clause-order : goal.returns-clause-order
returns-clause-order g c = adds_in_any_order _ c.args.x.now c.args.first.now c.args.second.now
