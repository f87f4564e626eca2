use Rattle.std.proofs.Common.{List, ℕ, subst}
use Rattle.std.specs.Prelude.{IfOk}
use Rattle.ratio_big.specs.Decimals.{AnswersBigTyped}
use Rattle.ratio_expressions.proofs.AsciiLemmas.{typed_utf8}
use Rattle.ratio_expressions.proofs.number.read_field.Goals as goal

pub returns-in-Err : goal.returns-in-Err
returns-in-Err c = λ n d numbers h. c.in-Err.ensures.cases.0 (typed_utf8 c.args.text.now n d numbers h)

pub returns-in-Ok : goal.returns-in-Ok
returns-in-Ok c = subst (λ (t : List ℕ). IfOk c.from_text.result (AnswersBigTyped t)) c.in-Ok.ensures.cases.0 c.from_text.ensures.read
