use Rattle.std.proofs.Common.{◌≡◌, ◌∙◌, Err, ap}
use Rattle.ratio_lines.specs.declared.fault.CalcFault.TheVariants.{Write}
use Rattle.ratio_lines.specs.KeptLine.{extended}
use Rattle.ratio_lines.proofs.DeviceCalls.{err_is}
use Rattle.ratio_lines.proofs.PieceSoFar.{after_shorter, piece_done, piece_goes_on, piece_line, piece_starts, piece_stops, piece_waits, piece_waits_no_more}
use Rattle.ratio_lines.proofs.gathered.answer_piece.Goals as goal

pub loop-answer-init : goal.loop-answer-init
loop-answer-init g c = piece_starts _ _ _ _

pub loop-answer-smaller : goal.loop-answer-smaller
loop-answer-smaller g c = after_shorter _ _ _ c.in-Some.ensures.answered.split

pub loop-answer-preserved : goal.loop-answer-preserved
loop-answer-preserved g c =
    let ends = c.in-Some.ensures.answered in
    let put = c.in_ok-put_answer.ensures in
    piece_goes_on _ _ _ _ _ _ _ _ _ _ _ _ _ _ _ c.loop-answer.invariant ends.none ends.split ends.answers c.in-Some.ensures.line put.gathered.1 put.gathered.2 put.waits

pub returns-in_err-put_answer-clause-answered : goal.returns-in_err-put_answer-clause-answered
returns-in_err-put_answer-clause-answered g c =
    let ends = c.in-Some.ensures.answered in
    let put = c.in_err-put_answer.ensures.gathered in
    let stopped : c.from_residual.result ≡ Err Write = err_is _ _ c.from_residual.ensures.1 ∙ ap Err put.0 in
    piece_stops _ _ _ _ _ _ _ _ _ _ _ _ _ _ c.loop-answer.invariant ends.none ends.split ends.answers put.1 stopped

pub returns-in_err-put_answer-clause-waits : goal.returns-in_err-put_answer-clause-waits
returns-in_err-put_answer-clause-waits g c =
    let ends = c.in-Some.ensures.answered in
    piece_waits_no_more _ _ _ _ _ _ _ _ _ _ _ _ _ _ c.loop-answer.invariant ends.none ends.split ends.answers c.in_err-put_answer.ensures.waits

pub returns-clause-line : goal.returns-clause-line
returns-clause-line g c =
    c.extend.ensures ∙ ap (λ line. extended line c.loop-answer.rest.now) c.in_default.ensures.line
    ∙ piece_line _ _ _ _ _ _ _ _ c.loop-answer.invariant c.in_default.ensures.answered

pub returns-clause-answered : goal.returns-clause-answered
returns-clause-answered g c = piece_done _ _ _ _ _ _ _ _ c.loop-answer.invariant c.in_default.ensures.answered

pub returns-clause-waits : goal.returns-clause-waits
returns-clause-waits g c = piece_waits _ _ _ _ _ _ _ _ c.loop-answer.invariant c.in_default.ensures.answered
