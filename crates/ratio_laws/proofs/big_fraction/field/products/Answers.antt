use Rattle.ratio_core.proofs.LawLemmas.{products_associate, products_commute, products_distribute}
use Rattle.ratio_big.specs.Fractions.{big_numbers}
use Rattle.ratio_laws.proofs.BigFieldLawLemmas.{has_inverse, times_one_is}
use Rattle.ratio_laws.proofs.big_fraction.field.products.Goals as goal

pub returns-clause-commute : goal.returns-clause-commute
returns-clause-commute c = products_commute (big_numbers c.args.x.now) (big_numbers c.args.y.now)

pub returns-clause-associate : goal.returns-clause-associate
returns-clause-associate c = products_associate (big_numbers c.args.x.now) (big_numbers c.args.y.now) (big_numbers c.args.z.now)

pub returns-clause-distribute : goal.returns-clause-distribute
returns-clause-distribute c = products_distribute (big_numbers c.args.x.now) (big_numbers c.args.y.now) (big_numbers c.args.z.now)

pub returns-clause-one : goal.returns-clause-one
returns-clause-one c = times_one_is (big_numbers c.args.x.now) c.args.x.now.kept.lowest

pub returns-clause-reciprocal : goal.returns-clause-reciprocal
returns-clause-reciprocal c = has_inverse (big_numbers c.args.x.now) c.args.x.now.kept.lowest
