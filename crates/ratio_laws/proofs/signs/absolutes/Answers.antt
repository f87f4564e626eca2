use Rattle.ratio_laws.proofs.SignLawLemmas.{adds_absolutes, multiplies_absolutes}
use Rattle.ratio_laws.proofs.signs.absolutes.Goals as goal

pub returns-clause-product : goal.returns-clause-product
returns-clause-product g c = multiplies_absolutes c.args.x.now c.args.y.now

pub returns-clause-sum : goal.returns-clause-sum
returns-clause-sum g c = adds_absolutes c.args.x.now c.args.y.now
