use Rattle.std.proofs.Common.{◌∙◌, Err, ap}
use Rattle.ratio_lines.proofs.DeviceCalls.{err_is, gathers_stopped, took_some_before}
use Rattle.ratio_lines.proofs.gathered.Gathered.put_after.Goals as goal

pub returns-in_err-write_out : goal.returns-in_err-write_out
returns-in_err-write_out g c =
    let written = c.in_err-write_out.ensures.written in
    gathers_stopped _ _ c.args.self.now c.write_out.new.self c.args.bytes.now _ (err_is _ _ c.from_residual.ensures.1 ∙ ap Err written.0) (took_some_before _ _ c.args.self.now c.args.bytes.now written.1)
