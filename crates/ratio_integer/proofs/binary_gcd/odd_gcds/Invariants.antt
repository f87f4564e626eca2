use Rattle.std.specs.Prelude.{◌+◌}
use Rattle.ratio_integer.proofs.Halving.{AreOdd}
use Rattle.ratio_integer.proofs.binary_gcd.odd_gcds.Given as goal

abbrev pub invariant-steps : goal.invariant-steps
invariant-steps l = AreOdd l.fn.a l.fn.b l.x l.y × AreOdd l.fn.c l.fn.d l.u l.v

abbrev pub decreases-steps : goal.decreases-steps
decreases-steps l = l.x + l.y + (l.u + l.v)
