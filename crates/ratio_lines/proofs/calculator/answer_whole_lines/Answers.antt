use Rattle.std.proofs.Common.{◌≡◌, ◌∙◌, Err, ap}
use Rattle.ratio_lines.specs.declared.fault.CalcFault.TheVariants.{Write}
use Rattle.ratio_lines.proofs.DeviceCalls.{err_is, gave_piece}
use Rattle.ratio_lines.proofs.ReadsSoFar.{no_read, one_more_read}
use Rattle.ratio_lines.proofs.RunSoFar.{goes_on, reads_all, starts, stops_at_read, stops_at_write, stops_endless}
use Rattle.ratio_lines.proofs.calculator.answer_whole_lines.Goals as goal

pub loop-turn-init : goal.loop-turn-init
loop-turn-init g c = record { lines = starts _ _ _ _ c.new-line.ensures c.new-gathered.ensures; first = no_read _ _ _ }

pub returns-in-Ok-eq0-clause-lines : goal.returns-in-Ok-eq0-clause-lines
returns-in-Ok-eq0-clause-lines g c =
    reads_all _ _ _ _ _ _ c.loop-turn.gathered _ c.loop-turn.invariant.lines (rw c.in-Ok-eq0.field-0-test at c.in-Ok-eq0.ensures.piece).1

pub returns-in-Ok-eq0-clause-answered_first : goal.returns-in-Ok-eq0-clause-answered_first
returns-in-Ok-eq0-clause-answered_first g c = one_more_read _ _ _ _ _ _ _ _ _ _ c.loop-turn.invariant.lines c.loop-turn.invariant.first c.in-Ok-eq0.ensures.moment

pub returns-in-Err-clause-lines : goal.returns-in-Err-clause-lines
returns-in-Err-clause-lines g c =
    stops_at_read _ _ _ _ _ _ c.loop-turn.gathered _ _ c.loop-turn.invariant.lines c.in-Err.ensures.piece.1 (ap Err c.in-Err.ensures.piece.0)

pub returns-in-Err-clause-answered_first : goal.returns-in-Err-clause-answered_first
returns-in-Err-clause-answered_first g c = one_more_read _ _ _ _ _ _ _ _ _ _ c.loop-turn.invariant.lines c.loop-turn.invariant.first c.in-Err.ensures.moment

pub returns-clause-lines : goal.returns-clause-lines
returns-clause-lines g c = stops_endless _ _ _ _ _ c.loop-turn.gathered _ c.loop-turn.invariant.lines c.loop-turn-test.false

pub returns-in_err-take_piece-in-Ok-clause-lines : goal.returns-in_err-take_piece-in-Ok-clause-lines
returns-in_err-take_piece-in-Ok-clause-lines g c =
    let taken = c.in_err-take_piece-in-Ok.ensures.answered in
    let stopped : c.from_residual.result ≡ Err Write = err_is _ _ c.from_residual.ensures.1 ∙ ap Err taken.gathers.0 in
    stops_at_write _ _ _ _ _ _ _ c.loop-turn.gathered _ _ taken.bytes _ c.loop-turn.invariant.lines (gave_piece _ _ _ c.in-Ok.count c.in-Ok.ensures.piece c.in-Ok.count-test.1).0 taken.are taken.gathers.1
    stopped

pub returns-in_err-take_piece-in-Ok-clause-answered_first : goal.returns-in_err-take_piece-in-Ok-clause-answered_first
returns-in_err-take_piece-in-Ok-clause-answered_first g c = one_more_read _ _ _ _ _ _ _ _ _ _ c.loop-turn.invariant.lines c.loop-turn.invariant.first c.in-Ok.ensures.moment

pub loop-turn-preserved : goal.loop-turn-preserved
loop-turn-preserved g c =
    let taken = c.in_ok-take_piece-in-Ok.ensures in
    record {
      lines =
          goes_on _ _ _ _ _ _ _ _ c.loop-turn.gathered _ _ _ taken.answered.bytes _ c.loop-turn.invariant.lines (gave_piece _ _ _ c.in-Ok.count c.in-Ok.ensures.piece c.in-Ok.count-test.1) taken.answered.are
          taken.answered.gathers.1 taken.answered.gathers.2 taken.line taken.none_wait;
      first = one_more_read _ _ _ _ _ _ _ _ _ _ c.loop-turn.invariant.lines c.loop-turn.invariant.first c.in-Ok.ensures.moment;
    }
