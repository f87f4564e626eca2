use Rattle.std.proofs.Common.{[], ◌∷◌, ◌++◌, ◌∙◌, Err, ap}
use Rattle.ratio_lines.specs.AnswerText.{bytes_of}
use Rattle.ratio_lines.proofs.DeviceCalls.{err_is, gathers_after, gathers_part, gathers_stopped, waits_after, waits_stopped}
use Rattle.ratio_lines.proofs.gathered.put_answer.Goals as goal

pub returns-in_err-put_text-clause-gathered : goal.returns-in_err-put_text-clause-gathered
returns-in_err-put_text-clause-gathered g c =
    let put = c.in_err-put_text.ensures.gathered in
    gathers_stopped _ _ c.args.gathered.now c.put_text.new.gathered (bytes_of c.args.answer.now ++ 10 ∷ []) _ (err_is _ _ c.from_residual.ensures.1 ∙ ap Err put.0)
    (gathers_part _ _ c.args.gathered.now (bytes_of c.args.answer.now) (10 ∷ []) put.1)

pub returns-in_err-put_text-clause-waits : goal.returns-in_err-put_text-clause-waits
returns-in_err-put_text-clause-waits g c = waits_stopped _ c.args.gathered.now _ (bytes_of c.args.answer.now) (10 ∷ []) _ c.in_err-put_text.ensures.waits

pub returns-clause-gathered : goal.returns-clause-gathered
returns-clause-gathered g c =
    let put = c.in_ok-put_text.ensures.gathered in
    gathers_after _ _ _ c.args.gathered.now c.put_text.new.gathered c.put.new.self (bytes_of c.args.answer.now) (10 ∷ []) put.0 _ put.1 put.2 c.put.ensures.gathered

pub returns-clause-waits : goal.returns-clause-waits
returns-clause-waits g c =
    waits_after _ _ _ c.args.gathered.now c.put_text.new.gathered c.put.new.self (bytes_of c.args.answer.now) (10 ∷ []) _ c.in_ok-put_text.ensures.waits c.put.ensures.waits
