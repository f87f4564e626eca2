use Rattle.std.proofs.Common.{length}
use Rattle.ratio_lines.proofs.PieceSoFar.{PieceSoFar}
use Rattle.ratio_lines.proofs.gathered.answer_piece.Given as goal

abbrev pub invariant-loop-answer : goal.invariant-loop-answer
invariant-loop-answer g l =
    PieceSoFar l.fn.line l.line l.piece l.rest (g.W.Write.contents l.fn.writer, g.W.CalcWrite.calls l.fn.writer) (g.W.Write.contents l.writer, g.W.CalcWrite.calls l.writer)
    l.fn.gathered l.gathered

abbrev pub decreases-loop-answer : goal.decreases-loop-answer
decreases-loop-answer g l = length l.rest
