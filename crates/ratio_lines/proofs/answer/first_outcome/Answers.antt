use Rattle.std.proofs.Common.{◌++◌, ◌∙◌, ap, inl, inr}
use Rattle.std.specs.Prelude.{codes}
use Rattle.ratio_core.specs.Refusal.{refusal_text}
use Rattle.ratio_lines.proofs.answer.first_outcome.Goals as goal

pub returns-in-Err : goal.returns-in-Err
returns-in-Err c = inl (c.in-Err.refusal, c.in-Err.ensures, c.left_refusal.ensures ∙ ap (λ kind. codes "error: left: " ++ refusal_text kind) c.kind.ensures)

pub returns-in-Err-from_str : goal.returns-in-Err-from_str
returns-in-Err-from_str c =
    inr
    (_, c.in-Err-from_str.refusal, c.in-Ok.ensures, c.in-Err-from_str.ensures, c.right_refusal.ensures ∙ ap (λ kind. codes "error: right: " ++ refusal_text kind) c.kind-in-Err-from_str.ensures)

pub returns-in-Ok-from_str : goal.returns-in-Ok-from_str
returns-in-Ok-from_str c = record { first = _; second = _; left_reads = c.in-Ok.ensures; right_reads = c.in-Ok-from_str.ensures; is_outcome = c.apply_operator.ensures }
