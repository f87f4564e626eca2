use Rattle.ratio_lines.specs.Run.{AnswersFirst}
use Rattle.ratio_lines.proofs.RunSoFar.{Progress}
use Rattle.ratio_lines.proofs.calculator.answer_whole_lines.Given as goal

abbrev pub invariant-loop-turn : goal.invariant-loop-turn
invariant-loop-turn g l =
    let reads = g.R.CalcRead.calls in let writes = g.W.CalcWrite.calls in
    record {
      lines : Progress (g.R.Read.remaining l.fn.reader, reads l.fn.reader) (g.R.Read.remaining l.reader, reads l.reader) (g.W.Write.contents l.fn.writer, writes l.fn.writer)
          (g.W.Write.contents l.writer, writes l.writer) l.line l.gathered l._turn;
      first : AnswersFirst (reads l.fn.reader).moved (writes l.fn.writer).moved (g.R.CalcRead.moments l.fn.reader) (g.R.CalcRead.moments l.reader);
    }
