use Rattle.std.proofs.Common.{arith, ◌-◌}
use Rattle.ratio_c.proofs.Inverses.{power_kept, turn_below, turn_value}
use Rattle.ratio_c.proofs.hash_mod61.turned.Goals as goal

pub overflow_mul-result : goal.overflow_mul-result
overflow_mul-result c = rw (power_kept c.args.count c.requires.count, power_kept (61 - c.args.count) (omega arith)) (omega (arith, turn_below c.args.n c.args.count c.requires.number c.requires.count))

pub overflow_add-result : goal.overflow_add-result
overflow_add-result c = rw (power_kept c.args.count c.requires.count, power_kept (61 - c.args.count) (omega arith)) (omega (arith, turn_below c.args.n c.args.count c.requires.number c.requires.count))

pub returns-clause-below : goal.returns-clause-below
returns-clause-below c = rw (power_kept c.args.count c.requires.count, power_kept (61 - c.args.count) (omega arith)) (turn_below c.args.n c.args.count c.requires.number c.requires.count)

pub returns-clause-value : goal.returns-clause-value
returns-clause-value c = rw (power_kept c.args.count c.requires.count, power_kept (61 - c.args.count) (omega arith)) (turn_value c.args.n c.args.count c.requires.count)
