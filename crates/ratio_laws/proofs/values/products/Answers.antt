use Rattle.ratio_laws.proofs.EqualValueLemmas.{divides_by_value, multiplies_by_value}
use Rattle.ratio_laws.proofs.values.products.Goals as goal

pub returns-clause-product : goal.returns-clause-product
returns-clause-product g c = multiplies_by_value c.args.x.now c.args.y.now c.args.u.now c.args.v.now

pub returns-clause-quotient : goal.returns-clause-quotient
returns-clause-quotient g c = divides_by_value c.args.x.now c.args.y.now c.args.u.now c.args.v.now
