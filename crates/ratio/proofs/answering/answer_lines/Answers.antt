use Rattle.std.proofs.Common.{◌≡◌, ◌∙◌, ◌++◌, ap, ℕ, Bool, List, true, false, Ok, Err, refl, subst, rules}
use Rattle.std.proofs.lemmas.Option.{IfSome_then}
use Rattle.ratio_expressions.specs.Bound.{named}
use Rattle.ratio.specs.Answers.{AnswersInput, AnswersLine}
use Rattle.ratio.specs.Devices.{GivesLine, Takes, TakesFront, after_line, device_change}
use Rattle.ratio_lines.specs.declared.counted.Calls.{Calls}
use Rattle.ratio.specs.Failures.{is_write}
use Rattle.ratio.specs.Settings.{end_of, start_of}
use Rattle.ratio.specs.declared.fault.Fault.TheVariants as faults
use Rattle.ratio.proofs.AnswerLemmas.{ended_by, ends_at, line_stops, no_end, no_start, none_read, not_read, one_more, read_all, too_many, when_some}
use Rattle.ratio.proofs.DeviceLemmas.{handed_on}
use Rattle.ratio.proofs.FailureLemmas.{fails_on, none_after, none_at_fault, stops_after}
use Rattle.ratio.proofs.OrderLemmas.{no_read, one_more_read, one_more_turn, turns_begin}
use Rattle.ratio.proofs.answering.answer_lines.Goals as goal

pub returns-in_err-write-clause-answered : goal.returns-in_err-write-clause-answered
returns-in_err-write-clause-answered g c =
    let form = c.args.form in
    let t = c.args.setting in
    let output = device_change g.W.Write.contents c.args.output.now c.write.new.writer in
    let left = g.R.LineRead.remaining c.args.input.now in
    let fault = c.in_err-write.field-0.0 in
    let stopped : (is_write fault ≡ true) × TakesFront output (start_of t) = (c.in_err-write.ensures.written.0, subst (TakesFront output) c.start.ensures c.in_err-write.ensures.written.1) in
    when_some left (λ input is.
    handed_on c.from_residual.result (AnswersInput form t input left output) fault c.from_residual.ensures.1 (no_start form t input left _ _ fault stopped))

pub loop-turn-init : goal.loop-turn-init
loop-turn-init g c =
    let takes = subst (Takes (device_change g.W.Write.contents c.args.output.now c.write.new.writer)) c.start.ensures c.in_ok-write.ensures.written in
    record {
      answered = when_some _ (λ input is. none_read c.args.form c.args.setting input _ _ _ (named c.new-names.result) is c.new-names.ensures takes);
      none = c.in_ok-write.ensures.failed;
      reads = refl;
      turns = turns_begin _ _ _ _ _ _ _ (named c.new-names.result) refl (subst (λ (l : List ℕ). (g.W.CalcWrite.calls c.write.new.writer).moved ≡ (g.W.CalcWrite.calls c.args.output.now).moved ++ l) c.start.ensures c.in_ok-write.ensures.moved)
          c.in_ok-write.ensures.flushed c.new-names.ensures;
    }

pub returns-in_err-read_line-clause-answered : goal.returns-in_err-read_line-clause-answered
returns-in_err-read_line-clause-answered g c =
    let form = c.args.form in
    let t = c.args.setting in
    let output = device_change g.W.Write.contents c.args.output.now c.loop-turn.output in
    let next = g.R.LineRead.remaining c.read_line.new.self in
    let fault = c.in_err-read_line.field-0.0 in
    IfSome_then (g.R.LineRead.remaining c.args.input.now) c.loop-turn.invariant.answered (λ input so_far.
    handed_on c.from_residual-in_err-read_line.result (AnswersInput form t input next output) fault c.from_residual-in_err-read_line.ensures.1
    (not_read form t input (g.R.LineRead.remaining c.loop-turn.input) next _ _ (named c.loop-turn.names) c.loop-turn.all _ so_far c.read_line.new.line.items fault c.in_err-read_line.ensures.line))

pub returns-in_err-write-2-clause-answered : goal.returns-in_err-write-2-clause-answered
returns-in_err-write-2-clause-answered g c =
    let form = c.args.form in
    let t = c.args.setting in
    let output = device_change g.W.Write.contents c.args.output.now c.write-then-not-branch.new.writer in
    let end = device_change g.W.Write.contents c.loop-turn.output c.write-then-not-branch.new.writer in
    let input_change = device_change g.R.LineRead.remaining c.loop-turn.input c.read_line.new.self in
    let next = g.R.LineRead.remaining c.read_line.new.self in
    let fault = c.in_err-write-2.field-0.0 in
    let line = c.read_line.new.line.items in
    let none : c.in_ok-read_line.field-0 ≡ false = search rules in
    let given : GivesLine input_change line (Ok false) = subst (λ (b : Bool). GivesLine input_change line (Ok b)) none c.in_ok-read_line.ensures.line in
    let stopped : (is_write fault ≡ true) × TakesFront end (end_of t) = (c.in_err-write-2.ensures.written.0, subst (TakesFront end) c.end.ensures c.in_err-write-2.ensures.written.1) in
    IfSome_then (g.R.LineRead.remaining c.args.input.now) c.loop-turn.invariant.answered (λ input so_far.
    handed_on c.from_residual-in_err-write-2.result (AnswersInput form t input next output) fault c.from_residual-in_err-write-2.ensures.1
    (no_end form t input _ next _ _ (named c.loop-turn.names) c.loop-turn.all _ so_far line _ given fault stopped))

pub returns-then-not-branch-clause-answered : goal.returns-then-not-branch-clause-answered
returns-then-not-branch-clause-answered g c =
    let end = device_change g.W.Write.contents c.loop-turn.output c.write-then-not-branch.new.writer in
    let input_change = device_change g.R.LineRead.remaining c.loop-turn.input c.read_line.new.self in
    let line = c.read_line.new.line.items in
    let none : c.in_ok-read_line.field-0 ≡ false = search rules in
    let given : GivesLine input_change line (Ok false) = subst (λ (b : Bool). GivesLine input_change line (Ok b)) none c.in_ok-read_line.ensures.line in
    IfSome_then (g.R.LineRead.remaining c.args.input.now) c.loop-turn.invariant.answered (λ input so_far.
    read_all c.args.form c.args.setting input _ (g.R.LineRead.remaining c.read_line.new.self) (g.W.Write.contents c.args.output.now) _ (named c.loop-turn.names) c.loop-turn.all _ so_far line _ given (subst (Takes end) c.end.ensures c.in_ok-write-2.ensures.written))

pub returns-then-ends_lines-clause-answered : goal.returns-then-ends_lines-clause-answered
returns-then-ends_lines-clause-answered g c =
    let t = c.args.setting in
    let input_change = device_change g.R.LineRead.remaining c.loop-turn.input c.read_line.new.self in
    let line = c.read_line.new.line.items in
    let one : c.in_ok-read_line.field-0 ≡ true = search rules in
    let given : GivesLine input_change line (Ok true) = subst (λ (b : Bool). GivesLine input_change line (Ok b)) one c.in_ok-read_line.ensures.line in
    let ends = ends_at t line c.deref.result.now _ _ c.deref.ensures.value c.without_end.ensures c.ends_lines.ensures c.if-ends_lines.true in
    IfSome_then (g.R.LineRead.remaining c.args.input.now) c.loop-turn.invariant.answered (λ input so_far.
    ended_by c.args.form t input _ _ _ _ (named c.loop-turn.names) c.loop-turn.all _ so_far line (g.W.Write.contents c.loop-turn.output) given (named c.loop-turn.names) ends)

pub returns-in_err-all-clause-answered : goal.returns-in_err-all-clause-answered
returns-in_err-all-clause-answered g c =
    let writes = g.W.CalcWrite.calls c.loop-turn.output in
    let writes' = g.W.CalcWrite.calls c.answer_line.new.output in
    let form = c.args.form in
    let t = c.args.setting in
    let output = device_change g.W.Write.contents c.args.output.now c.answer_line.new.output in
    let more = device_change g.W.Write.contents c.loop-turn.output c.answer_line.new.output in
    let input_change = device_change g.R.LineRead.remaining c.loop-turn.input c.read_line.new.self in
    let next = g.R.LineRead.remaining c.read_line.new.self in
    let fault = c.in_err-all.field-0.0 in
    let line = c.read_line.new.line.items in
    let names = named c.loop-turn.names in
    let behind = named c.answer_line.new.names in
    let one : c.in_ok-read_line.field-0 ≡ true = search rules in
    let given : GivesLine input_change line (Ok true) = subst (λ (b : Bool). GivesLine input_change line (Ok b)) one c.in_ok-read_line.ensures.line in
    let stopped = subst (λ (l : List ℕ). AnswersLine l form t names behind more writes writes' (Err fault)) c.deref-in-loop-turn.ensures.value c.in_err-all.ensures.answered in
    IfSome_then (g.R.LineRead.remaining c.args.input.now) c.loop-turn.invariant.answered (λ input so_far.
    handed_on c.from_residual-in_err-all.result (AnswersInput form t input next output) fault c.from_residual-in_err-all.ensures.1
    (line_stops form t input _ next _ _ names c.loop-turn.all _ so_far line _ given behind fault writes writes' stopped))

pub loop-turn-preserved : goal.loop-turn-preserved
loop-turn-preserved g c =
    let writes = g.W.CalcWrite.calls c.loop-turn.output in
    let writes' = g.W.CalcWrite.calls c.answer_line.new.output in
    let form = c.args.form in
    let t = c.args.setting in
    let more = device_change g.W.Write.contents c.loop-turn.output c.answer_line.new.output in
    let input_change = device_change g.R.LineRead.remaining c.loop-turn.input c.read_line.new.self in
    let line = c.read_line.new.line.items in
    let names = named c.loop-turn.names in
    let behind = named c.answer_line.new.names in
    let one : c.in_ok-read_line.field-0 ≡ true = search rules in
    let given : GivesLine input_change line (Ok true) = subst (λ (b : Bool). GivesLine input_change line (Ok b)) one c.in_ok-read_line.ensures.line in
    let accepted = c.in_ok-all.field-0 in
    let moved = subst (λ (b : Bool). g.R.LineRead.calls c.read_line.new.self ≡ after_line (g.R.LineRead.calls c.loop-turn.input) line (Ok b)) one c.in_ok-read_line.ensures.calls in
    let takes = subst (λ (l : List ℕ). AnswersLine l form t names behind more writes writes' (Ok accepted)) c.deref-in-loop-turn.ensures.value c.in_ok-all.ensures.answered in
    record {
      answered = IfSome_then (g.R.LineRead.remaining c.args.input.now) c.loop-turn.invariant.answered (λ input so_far.
          one_more form t input _ _ _ _ names c.loop-turn.all _ so_far line _ given behind accepted writes writes' takes);
      none = none_after _ _ _ c.loop-turn.invariant.none c.in_ok-all.ensures.failed;
      reads = ap (λ (calls : Calls). calls.failures) moved ∙ c.loop-turn.invariant.reads;
      turns = one_more_turn _ _ _ _ _ _ _ _ _ names c.loop-turn.all c.loop-turn.invariant.turns c.in_ok-read_line.ensures.moments _ writes' line behind accepted more moved c.in_ok-read_line.ensures.stops takes c.in_ok-all.ensures.flushed;
    }

pub returns-clause-answered : goal.returns-clause-answered
returns-clause-answered g c =
    IfSome_then (g.R.LineRead.remaining c.args.input.now) c.loop-turn.invariant.answered (λ input so_far.
    too_many c.args.form c.args.setting input (g.R.LineRead.remaining c.loop-turn.input) (g.R.LineRead.remaining c.loop-turn.input) (g.W.Write.contents c.args.output.now) _ (named c.loop-turn.names) c.loop-turn.all _ so_far c.loop-turn-test.false)

pub returns-in_err-write-clause-failed : goal.returns-in_err-write-clause-failed
returns-in_err-write-clause-failed g c = fails_on _ _ _ c.in_err-write.field-0.0 c.from_residual.ensures.1 c.in_err-write.ensures.failed

pub returns-in_err-read_line-clause-failed : goal.returns-in_err-read_line-clause-failed
returns-in_err-read_line-clause-failed g c =
    none_at_fault _ _ _ c.in_err-read_line.field-0.0 faults.Read c.from_residual-in_err-read_line.ensures.1 c.in_err-read_line.ensures.line.0 refl c.loop-turn.invariant.none

pub returns-in_err-write-2-clause-failed : goal.returns-in_err-write-2-clause-failed
returns-in_err-write-2-clause-failed g c =
    let fault = c.in_err-write-2.field-0.0 in
    fails_on _ _ _ fault c.from_residual-in_err-write-2.ensures.1 (stops_after _ _ _ (is_write fault) c.loop-turn.invariant.none c.in_err-write-2.ensures.failed)

pub returns-then-not-branch-clause-failed : goal.returns-then-not-branch-clause-failed
returns-then-not-branch-clause-failed g c = none_after _ _ _ c.loop-turn.invariant.none c.in_ok-write-2.ensures.failed

pub returns-in_err-all-clause-failed : goal.returns-in_err-all-clause-failed
returns-in_err-all-clause-failed g c =
    let fault = c.in_err-all.field-0.0 in
    fails_on _ _ _ fault c.from_residual-in_err-all.ensures.1 (stops_after _ _ _ (is_write fault) c.loop-turn.invariant.none c.in_err-all.ensures.failed)

pub returns-clause-failed : goal.returns-clause-failed
returns-clause-failed g c = c.loop-turn.invariant.none

pub returns-in_err-write-clause-answered_first : goal.returns-in_err-write-clause-answered_first
returns-in_err-write-clause-answered_first g c = no_read _ _ _ _ _

pub returns-in_err-read_line-clause-answered_first : goal.returns-in_err-read_line-clause-answered_first
returns-in_err-read_line-clause-answered_first g c = one_more_read _ _ _ _ _ _ _ _ _ (named c.loop-turn.names) c.loop-turn.all c.loop-turn.invariant.turns c.in_err-read_line.ensures.moments

pub returns-in_err-write-2-clause-answered_first : goal.returns-in_err-write-2-clause-answered_first
returns-in_err-write-2-clause-answered_first g c = one_more_read _ _ _ _ _ _ _ _ _ (named c.loop-turn.names) c.loop-turn.all c.loop-turn.invariant.turns c.in_ok-read_line.ensures.moments

pub returns-then-not-branch-clause-answered_first : goal.returns-then-not-branch-clause-answered_first
returns-then-not-branch-clause-answered_first g c = one_more_read _ _ _ _ _ _ _ _ _ (named c.loop-turn.names) c.loop-turn.all c.loop-turn.invariant.turns c.in_ok-read_line.ensures.moments

pub returns-then-ends_lines-clause-answered_first : goal.returns-then-ends_lines-clause-answered_first
returns-then-ends_lines-clause-answered_first g c = one_more_read _ _ _ _ _ _ _ _ _ (named c.loop-turn.names) c.loop-turn.all c.loop-turn.invariant.turns c.in_ok-read_line.ensures.moments

pub returns-in_err-all-clause-answered_first : goal.returns-in_err-all-clause-answered_first
returns-in_err-all-clause-answered_first g c = one_more_read _ _ _ _ _ _ _ _ _ (named c.loop-turn.names) c.loop-turn.all c.loop-turn.invariant.turns c.in_ok-read_line.ensures.moments

pub returns-clause-answered_first : goal.returns-clause-answered_first
returns-clause-answered_first g c = c.loop-turn.invariant.turns.first
