use Rattle.ratio_big.specs.Fractions.{big_numbers}
use Rattle.ratio_laws.proofs.BigSignLawLemmas.{moves_negative, negative_twice}
use Rattle.ratio_laws.proofs.big_fraction.signs.negatives.Goals as goal

pub returns-clause-twice : goal.returns-clause-twice
returns-clause-twice c = negative_twice (big_numbers c.args.x.now)

pub returns-clause-product : goal.returns-clause-product
returns-clause-product c = moves_negative (big_numbers c.args.x.now) (big_numbers c.args.y.now)
