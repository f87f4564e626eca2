use Rattle.std.proofs.Common.{◌∙◌, sym}
use Rattle.ratio_lines.proofs.Pieces.{empty_line}
use Rattle.ratio_lines.proofs.PlainLines.{empty_either_way}
use Rattle.ratio_lines.proofs.line.next_answer.Goals as goal

pub returns-then-is_empty-clause-answered : goal.returns-then-is_empty-clause-answered
returns-then-is_empty-clause-answered c =
    let none = empty_line c.args.line.now (sym c.is_empty.ensures ∙ c.if-is_empty.true) in rw none c.first_answer.ensures

pub returns-then-is_empty-clause-line : goal.returns-then-is_empty-clause-line
returns-then-is_empty-clause-line c = empty_either_way _ c.args.line.now (empty_line c.args.line.now (sym c.is_empty.ensures ∙ c.if-is_empty.true))

pub returns-clause-answered : goal.returns-clause-answered
returns-clause-answered c = record {
  ended = c.in_ok-ended.ended.now;
  none = c.in_ok-ended.ensures.0;
  split = c.in_ok-ended.ensures.1;
  answers = rw c.extend.ensures at c.answer-answer.ensures;
}
