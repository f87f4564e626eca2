use Rattle.ratio_lines.specs.Devices.{after_failing}
use Rattle.ratio_lines.proofs.counted.Calls.note_failed.Given as goal

abbrev pub ghost-note : goal.ghost-note
ghost-note a = after_failing a.self.now
