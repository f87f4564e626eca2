use Rattle.std.proofs.Common.{take}
use Rattle.ratio_c.specs.Totals.{AllGo}
use Rattle.ratio_c.proofs.totals.go.Given as goal

abbrev pub invariant-loop-i : goal.invariant-loop-i
invariant-loop-i g l = AllGo g.I.Brings.brings l.way (take l.i l.asked) (l.initial.slots, l.initial.count) (l.slots, l.count)
