use Rattle.std.proofs.Common.{length}
use Rattle.ratio_lines.specs.Parts.{parts_of}
use Rattle.ratio_lines.proofs.OperatorsSoFar.{OperatorsSoFar}
use Rattle.ratio_lines.proofs.answer.operators_refusal.Given as goal

abbrev pub invariant-loop-rest : goal.invariant-loop-rest
invariant-loop-rest l = OperatorsSoFar l.fn.first l.last l.is_cmp_last (parts_of l.parts) (parts_of l.rest)

abbrev pub decreases-loop-rest : goal.decreases-loop-rest
decreases-loop-rest l = length (parts_of l.rest)
