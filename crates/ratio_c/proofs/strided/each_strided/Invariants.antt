use Rattle.ratio_c.proofs.StridedPlaces.{AnsweredBefore}
use Rattle.ratio_c.proofs.strided.each_strided.Given as goal

abbrev pub invariant-loop-i : goal.invariant-loop-i
invariant-loop-i g l = AnsweredBefore (g.C.Call.gives l.call) l.left l.left_stride l.right l.right_stride l.answers l.i
