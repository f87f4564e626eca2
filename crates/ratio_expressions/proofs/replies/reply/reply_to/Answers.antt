use Rattle.std.proofs.Common.{◌∙◌, arith, sym}
use Rattle.ratio_expressions.specs.Bound.{named}
use Rattle.ratio_expressions.proofs.LengthLemmas.{read_line}
use Rattle.ratio_expressions.proofs.replies.reply.reply_to.Goals as goal

pub returns-clause-reply : goal.returns-clause-reply
returns-clause-reply c =
    read_line c.args.line.now c.args.form (named c.args.names.now) (named c.read_reply.new.names) c.read_reply.result (sym c.is_blank.ensures ∙ c.if-is_blank.false) (λ long. omega (arith, long)) c.read_reply.ensures.reply
