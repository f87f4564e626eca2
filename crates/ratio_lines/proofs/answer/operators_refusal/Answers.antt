use Rattle.std.proofs.Common.{[], ◌&&◌, not, ap, sym, ◌∙◌}
use Rattle.ratio_lines.specs.Answers.{operator_parts}
use Rattle.ratio_lines.proofs.OperatorsSoFar.{cmp_misplaced, first_operator, operators_chained, operators_go_on, operators_start, parts_one, parts_two, unknown_operator}
use Rattle.ratio_lines.proofs.answer.operators_refusal.Goals as goal

pub loop-rest-init : goal.loop-rest-init
loop-rest-init c = operators_start _ _

pub returns-in_default-operator_named : goal.returns-in_default-operator_named
returns-in_default-operator_named c =
    let here = first_operator c.loop-rest.rest c.in-Some.text _ c.first_short_part.result.1 c.in-Some.is c.first_short_part.ensures in
    unknown_operator _ _ _ _ _ here.0 _ c.loop-rest.invariant here.1 (sym c.operator_named.ensures ∙ c.in_default-operator_named.is)

pub loop-rest-preserved-in-Some-after : goal.loop-rest-preserved-in-Some-after
loop-rest-preserved-in-Some-after c =
    let parts = parts_two c.loop-rest.rest c.in-Some.text _ _ _ c.first_short_part.result.1 _ c.in-Some.is c.first_short_part.ensures c.in-Some-after.is c.first_part.ensures in
    operators_go_on _ _ _ _ _ _ _ _ _ c.loop-rest.invariant (ap operator_parts parts) (sym c.operator_named.ensures ∙ c.in-Some-operator_named.is)
    (ap (λ t. c.loop-rest.is_cmp_last && not t) c.is_cmp.ensures)

pub loop-rest-preserved : goal.loop-rest-preserved
loop-rest-preserved c =
    let parts = parts_one c.loop-rest.rest c.in-Some.text _ c.first_short_part.result.1 c.in-Some.is c.first_short_part.ensures c.in-None.is in
    operators_go_on _ _ _ _ _ _ _ [] _ c.loop-rest.invariant (ap operator_parts parts) (sym c.operator_named.ensures ∙ c.in-Some-operator_named.is)
    (ap (λ t. c.loop-rest.is_cmp_last && not t) c.is_cmp.ensures)

pub returns-then-is_cmp_last : goal.returns-then-is_cmp_last
returns-then-is_cmp_last c = operators_chained _ _ _ _ (rw c.in_default.is at c.loop-rest.invariant) c.if-is_cmp_last.true

pub returns-else-is_cmp_last : goal.returns-else-is_cmp_last
returns-else-is_cmp_last c = cmp_misplaced _ _ _ _ (rw c.in_default.is at c.loop-rest.invariant) c.if-is_cmp_last.false
