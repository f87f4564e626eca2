use Rattle.ratio_lines.specs.Devices.{after_interrupt}
use Rattle.ratio_lines.proofs.counted.Calls.note_interrupted.Given as goal

abbrev pub ghost-note : goal.ghost-note
ghost-note a = after_interrupt a.self.now
