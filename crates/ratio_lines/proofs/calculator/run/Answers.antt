use Rattle.std.proofs.Common.{◌∙◌, Err, ap}
use Rattle.ratio_lines.proofs.DeviceCalls.{err_is}
use Rattle.ratio_lines.proofs.RunSoFar.{finished, stopped_reading, stopped_writing}
use Rattle.ratio_lines.proofs.calculator.run.Goals as goal

pub returns-in_err-line-clause-answered : goal.returns-in_err-line-clause-answered
returns-in_err-line-clause-answered g c = (stopped_reading _ _ _ _ _ _ c.in_err-line.ensures.lines (err_is _ _ c.from_residual.ensures.1)).answered

pub returns-in_err-answer_last-clause-answered : goal.returns-in_err-answer_last-clause-answered
returns-in_err-answer_last-clause-answered g c = (stopped_writing _ _ _ _ _ _ _ _ c.in_ok-line.ensures.lines c.in_err-answer_last.ensures.are c.in_err-answer_last.ensures.writes.1 (err_is _ _ c.from_residual-in_err-answer_last.ensures.1 ∙ ap Err c.in_err-answer_last.ensures.writes.0)).answered

pub returns-clause-answered : goal.returns-clause-answered
returns-clause-answered g c = (finished _ _ _ _ _ _ _ _ _ c.in_ok-line.ensures.lines c.in_ok-answer_last.ensures.are c.in_ok-answer_last.ensures.writes c.flush.ensures).answered
