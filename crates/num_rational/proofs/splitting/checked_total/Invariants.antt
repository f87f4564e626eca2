use Rattle.std.specs.Prelude.{◌≡◌, take}
use Rattle.num_rational.specs.Split.{total_of}
use Rattle.num_rational.proofs.splitting.checked_total.Given as goal

abbrev pub invariant-loop-weight : goal.invariant-loop-weight
invariant-loop-weight g l = g.T.Integer.value l.sum ≡ total_of g.T.Integer.value (take l.weight-index l.weights)
