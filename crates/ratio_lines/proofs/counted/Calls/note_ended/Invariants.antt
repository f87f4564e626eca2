use Rattle.ratio_lines.specs.Devices.{after_ending}
use Rattle.ratio_lines.proofs.counted.Calls.note_ended.Given as goal

abbrev pub ghost-note : goal.ghost-note
ghost-note a = after_ending a.self.now
