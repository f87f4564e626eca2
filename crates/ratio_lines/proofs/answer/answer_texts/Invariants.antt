use Rattle.std.proofs.Common.{◌∷◌, [], length}
use Rattle.std.specs.Prelude.{unwrap_or}
use Rattle.ratio_lines.specs.AnswerText.{outcome_of}
use Rattle.ratio_lines.specs.Answers.{operator_parts, operators_of, right_parts}
use Rattle.ratio_lines.specs.Parts.{parts_of}
use Rattle.ratio_lines.proofs.Applying.{AppliedSoFar}
use Rattle.ratio_lines.proofs.answer.answer_texts.Given as goal

abbrev pub invariant-loop-rest : goal.invariant-loop-rest
invariant-loop-rest l =
    AppliedSoFar (outcome_of l.outcome) (parts_of l.rest) (l.fn.operator ∷ unwrap_or (operators_of (operator_parts (parts_of l.fn.parts))) []) l.fn.left
    (l.fn.right ∷ right_parts (parts_of l.fn.parts))

abbrev pub decreases-loop-rest : goal.decreases-loop-rest
decreases-loop-rest l = length (parts_of l.rest)
