use Rattle.ratio_lines.specs.Devices.{after_moving}
use Rattle.ratio_lines.proofs.counted.Calls.note_moved.Given as goal

abbrev pub ghost-note : goal.ghost-note
ghost-note a = after_moving a.self.now a._bytes.now
