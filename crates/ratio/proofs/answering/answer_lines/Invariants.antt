use Rattle.std.specs.Prelude.{◌≡◌, IfSome}
use Rattle.ratio_expressions.specs.Bound.{named}
use Rattle.ratio.specs.Failures.{NoneFailed}
use Rattle.ratio.proofs.AnswerLemmas.{SoFar}
use Rattle.ratio.proofs.OrderLemmas.{Turns}
use Rattle.ratio.proofs.answering.answer_lines.Given as goal

abbrev pub invariant-loop-turn : goal.invariant-loop-turn
invariant-loop-turn g l =
    let remaining = g.R.LineRead.remaining in
    let contents = g.W.Write.contents in
    let of_reader = g.R.LineRead.calls in
    let of_writer = g.W.CalcWrite.calls in
    record {
      answered : IfSome (remaining l.fn.input) (λ input. SoFar l.form l.setting input (remaining l.input) (contents l.fn.output) (contents l.output) (named l.names) l.all l._turn);
      none : NoneFailed (of_writer l.fn.output) (of_writer l.output);
      reads : (of_reader l.input).failures ≡ (of_reader l.fn.input).failures;
      turns : Turns l.form l.setting (of_reader l.fn.input).moved (of_writer l.fn.output).moved (g.R.LineRead.moments l.fn.input) (of_reader l.input) (of_writer l.output) (g.R.LineRead.moments l.input) (named l.names) l.all;
    }
