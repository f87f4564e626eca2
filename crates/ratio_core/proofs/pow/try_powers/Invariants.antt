use Rattle.std.specs.Prelude.{◌*ℤ◌}
use Rattle.ratio_core.proofs.PowerLoop.{PowersSoFar}
use Rattle.ratio_core.proofs.pow.try_powers.Given as goal

abbrev pub invariant-bits : goal.invariant-bits
invariant-bits g l =
    let v = g.T.Integer.value in
    PowersSoFar (v l.fn.n) (v l.fn.d) l.fn.exponent (v l.power.0) (v l.power.1) (v l.square.0 *ℤ v l.square.0) (v l.square.1 *ℤ v l.square.1) l.left

abbrev pub decreases-bits : goal.decreases-bits
decreases-bits g l = l.left
