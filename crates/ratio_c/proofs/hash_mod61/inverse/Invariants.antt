use Rattle.std.specs.Prelude.{◌+◌}
use Rattle.ratio_c.proofs.Inverses.{AreMultiples}
use Rattle.ratio_c.proofs.hash_mod61.inverse.Given as goal

abbrev pub invariant-steps : goal.invariant-steps
invariant-steps l = AreMultiples l.number l.a l.b l.u l.v

abbrev pub decreases-steps : goal.decreases-steps
decreases-steps l = l.a + l.b
