use Rattle.ratio_uses.proofs.TrainLemmas.{pairs_of}
use Rattle.ratio_uses.proofs.trains.nearest_pairs.Goals as goal

pub returns-clause-nearest : goal.returns-clause-nearest
returns-clause-nearest c = pairs_of _ _ _ _ _ _ _ c.nearest_products-drivers.ensures c.wheels_of-first_driver.ensures c.wheels_of-first_driven.ensures
