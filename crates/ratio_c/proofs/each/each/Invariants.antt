use Rattle.ratio_c.proofs.Places.{Before}
use Rattle.ratio_c.proofs.each.each.Given as goal

abbrev pub invariant-loop-i : goal.invariant-loop-i
invariant-loop-i g l = Before (g.C.Call.gives l.call) l.asked l.answers l.i
