use Rattle.ratio_c.proofs.Keys.{keys_keep_order, keys_tell_floats}
use Rattle.ratio_c.proofs.laws.keys.Goals as goal

pub returns-clause-order : goal.returns-clause-order
returns-clause-order c = keys_keep_order

pub returns-clause-floats : goal.returns-clause-floats
returns-clause-floats c = keys_tell_floats
