-- Written by templates/write from templates/odd_gcd_invariants.antt.txt: change that file, and write this one anew.
use Rattle.std.specs.Prelude.{◌+◌}
use Rattle.ratio_integer.proofs.Halving.{AreOdd}
use Rattle.ratio_integer.proofs.binary_gcd.odd_gcd_wide.Given as goal

abbrev pub invariant-steps : goal.invariant-steps
invariant-steps l = AreOdd l.fn.a l.fn.b l.x l.y

abbrev pub decreases-steps : goal.decreases-steps
decreases-steps l = l.x + l.y
