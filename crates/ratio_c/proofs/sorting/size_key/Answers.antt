use Rattle.std.proofs.Common.{arith, rules, subst, sym}
use Rattle.std.specs.Float.{NotNan}
use Rattle.ratio_c.proofs.Keys.{number, short}
use Rattle.ratio_c.proofs.sorting.size_key.Goals as goal

pub float_to_bits-result : goal.float_to_bits-result
float_to_bits-result c = subst NotNan (sym c.to_f64.ensures) (number c.args.n c.args.d c.requires)

pub overflow_cast-result : goal.overflow_cast-result
overflow_cast-result c = rw c.to_f64.ensures (omega (arith, short c.args.n c.args.d c.requires))

pub returns : goal.returns
returns c = rw c.to_f64.ensures (let h = short c.args.n c.args.d c.requires in search rules)
