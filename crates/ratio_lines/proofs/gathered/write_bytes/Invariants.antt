use Rattle.std.proofs.Common.{◌≤◌, ◌-◌, length, take}
use Rattle.ratio_lines.specs.Devices.{Took}
use Rattle.ratio_lines.proofs.gathered.write_bytes.Given as goal

abbrev pub invariant-loop-at : goal.invariant-loop-at
invariant-loop-at g l = record {
  within : l.at ≤ length l.bytes;
  took : Took (g.W.Write.contents l.fn.writer, g.W.CalcWrite.calls l.fn.writer) (g.W.Write.contents l.writer, g.W.CalcWrite.calls l.writer) (take l.at l.bytes);
}

abbrev pub decreases-loop-at : goal.decreases-loop-at
decreases-loop-at g l = length l.bytes - l.at
