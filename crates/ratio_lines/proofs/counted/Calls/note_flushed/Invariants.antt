use Rattle.ratio_lines.specs.Devices.{after_flushing}
use Rattle.ratio_lines.proofs.counted.Calls.note_flushed.Given as goal

abbrev pub ghost-note : goal.ghost-note
ghost-note a = after_flushing a.self.now
