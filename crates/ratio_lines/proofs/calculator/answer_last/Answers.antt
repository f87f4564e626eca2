use Rattle.std.proofs.Common.{◌≡◌, true, false, [], ◌∷◌, ◌++◌, ◌∙◌, Err, ap, refl, sym}
use Rattle.ratio_lines.specs.AnswerText.{bytes_of}
use Rattle.ratio_lines.specs.KeptLine.{is_empty}
use Rattle.ratio_lines.proofs.DeviceCalls.{err_is, took_nothing, writes_gathered, writes_stopped}
use Rattle.ratio_lines.proofs.calculator.answer_last.Goals as goal

pub returns-then-is_empty : goal.returns-then-is_empty
returns-then-is_empty g c =
    let empty : is_empty c.args.line.now ≡ true = sym c.is_empty.ensures ∙ c.if-is_empty.true in
    record { bytes = []; are = rw empty refl; writes = took_nothing _ }

pub returns-in_err-put_answer : goal.returns-in_err-put_answer
returns-in_err-put_answer g c =
    let begun : is_empty c.args.line.now ≡ false = sym c.is_empty.ensures ∙ c.if-is_empty.false in
    let put = c.in_err-put_answer.ensures.gathered in
    record {
      bytes = bytes_of c.answer.result ++ 10 ∷ [];
      are = rw begun (record { answer = bytes_of c.answer.result; is_answer = c.answer.ensures; text = refl });
      writes = writes_stopped _ _ (bytes_of c.answer.result ++ 10 ∷ []) _ (err_is _ _ c.from_residual.ensures.1 ∙ ap Err put.0) (rw c.new-last.ensures at put.1);
    }

pub returns : goal.returns
returns g c =
    let begun : is_empty c.args.line.now ≡ false = sym c.is_empty.ensures ∙ c.if-is_empty.false in
    let put = c.in_ok-put_answer.ensures.gathered in
    record {
      bytes = bytes_of c.answer.result ++ 10 ∷ [];
      are = rw begun (record { answer = bytes_of c.answer.result; is_answer = c.answer.ensures; text = refl });
      writes = writes_gathered _ _ _ c.new-last.result _ (bytes_of c.answer.result ++ 10 ∷ []) _ _ c.new-last.ensures put.1 put.2 c.write_out.ensures.written;
    }
