use Rattle.ratio_laws.proofs.EqualValueLemmas.{adds_by_value, subtracts_by_value}
use Rattle.ratio_laws.proofs.values.sums.Goals as goal

pub returns-clause-sum : goal.returns-clause-sum
returns-clause-sum g c = adds_by_value c.args.x.now c.args.y.now c.args.u.now c.args.v.now

pub returns-clause-difference : goal.returns-clause-difference
returns-clause-difference g c = subtracts_by_value c.args.x.now c.args.y.now c.args.u.now c.args.v.now
