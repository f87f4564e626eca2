use Rattle.ratio_core.proofs.LawLemmas.{products_associate, products_commute, products_distribute}
use Rattle.ratio_laws.proofs.laws.products.Goals as goal

pub returns-clause-commute : goal.returns-clause-commute
returns-clause-commute c = products_commute

pub returns-clause-associate : goal.returns-clause-associate
returns-clause-associate c = products_associate

pub returns-clause-distribute : goal.returns-clause-distribute
returns-clause-distribute c = products_distribute
