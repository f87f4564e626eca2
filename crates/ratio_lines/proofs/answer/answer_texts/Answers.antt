use Rattle.std.proofs.Common.{ap, sym, ◌∙◌, Err, Ok}
use Rattle.num_rational.specs.Ratio.{denominator, numerator}
use Rattle.ratio_lines.specs.Answers.{right_parts}
use Rattle.ratio_lines.specs.Operands.{IsOperand}
use Rattle.ratio_lines.specs.Parts.{parts_of}
use Rattle.ratio_lines.proofs.Applying.{applied_all, applied_first, applied_named, applied_next, applied_refused, first_refused, positive_so_far}
use Rattle.ratio_lines.proofs.OperatorsSoFar.{first_operator, parts_one, parts_two}
use Rattle.ratio_lines.proofs.answer.answer_texts.Goals as goal

pub returns-in-Err : goal.returns-in-Err
returns-in-Err c = first_refused _ _ _ _ _ c.in-Err.ensures

pub loop-rest-init : goal.loop-rest-init
loop-rest-init c =
    let operates = c.in-Ok.ensures in
    applied_first _ c.requires.others _ _ _ _ _ _ c.requires.named operates.left_reads operates.right_reads operates.is_outcome

pub returns-in_default-after : goal.returns-in_default-after
returns-in_default-after c =
    let parts = parts_one c.loop-rest.rest c.in-Some.text _ c.first_short_part.result.1 c.in-Some.is c.first_short_part.ensures c.in_default-after.is in
    applied_all c.loop-rest.outcome _ _ _ _ c.loop-rest.invariant (ap right_parts parts)

pub unreachable-requires : goal.unreachable-requires
unreachable-requires c =
    let here = first_operator c.loop-rest.rest c.in-Some.text _ c.first_short_part.result.1 c.in-Some.is c.first_short_part.ensures in
    applied_named _ _ here.0 _ _ _ _ c.loop-rest.invariant here.1 (sym c.operator_named.ensures ∙ c.in_default-operator_named.is)

pub returns-in-Err-operand : goal.returns-in-Err-operand
returns-in-Err-operand c =
    let read = c.first_operand-operand.ensures in
    let parts = parts_two c.loop-rest.rest c.in-Some.text _ read.part _ c.first_short_part.result.1 _ c.in-Some.is c.first_short_part.ensures c.in-Some-after.is read.split in
    let refused : IsOperand read.part (Err c.in-Err-operand.refusal) = rw c.in-Err-operand.is at read.reads in
    applied_refused _ _ _ _ _ _ _ _ _ c.in-Err-operand.refusal _ c.loop-rest.invariant parts refused c.kind.ensures c.right_refusal.ensures

pub go_on-outcome-requires-clause-left_positive : goal.go_on-outcome-requires-clause-left_positive
go_on-outcome-requires-clause-left_positive c = positive_so_far c.loop-rest.outcome c.loop-rest.invariant.positive

pub loop-rest-preserved : goal.loop-rest-preserved
loop-rest-preserved c =
    let read = c.first_operand-operand.ensures in
    let parts = parts_two c.loop-rest.rest c.in-Some.text _ read.part _ c.first_short_part.result.1 _ c.in-Some.is c.first_short_part.ensures c.in-Some-after.is read.split in
    let next : IsOperand read.part (Ok (numerator c.in-Ok-operand.next, denominator c.in-Ok-operand.next)) = rw c.in-Ok-operand.is at read.reads in
    applied_next _ _ _ _ _ _ _ _ _ _ _ c.loop-rest.invariant parts (sym c.operator_named.ensures ∙ c.in-Some-operator_named.is) next c.go_on-outcome.ensures

pub returns : goal.returns
returns c = applied_all c.loop-rest.outcome _ _ _ _ c.loop-rest.invariant (ap (λ rest. right_parts (parts_of rest)) c.in_default.is)
