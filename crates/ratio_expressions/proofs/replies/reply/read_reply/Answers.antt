use Rattle.std.proofs.Common.{◌∙◌, Err, ap, inl}
use Rattle.ratio_expressions.specs.Refused.{refusal_lines}
use Rattle.ratio_expressions.proofs.replies.reply.read_reply.Goals as goal

pub returns-in_ok-text-in-Err-Refused-clause-reply : goal.returns-in_ok-text-in-Err-Refused-clause-reply
returns-in_ok-text-in-Err-Refused-clause-reply c =
    let r = c.in-Err-Refused.refusal in
    let is = ap Err c.in-Err-Refused.field-0-is in (
      r,
      c.in-Err-Refused.ensures.refusal r is,
      c.in_ok-text-in-Err-Refused.ensures ∙ ap (refusal_lines c.args.line.now) c.in-Err-Refused.refusal-is,
      c.in-Err-Refused.ensures.kept r is,
    )

pub returns-in_err-text-in-Err-Refused-clause-either : goal.returns-in_err-text-in-Err-Refused-clause-either
returns-in_err-text-in-Err-Refused-clause-either c = λ e other.
    inl (c.in-Err-Refused.ensures.kept c.in-Err-Refused.refusal (ap Err c.in-Err-Refused.field-0-is) other)
