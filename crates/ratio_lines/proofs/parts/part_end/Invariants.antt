use Rattle.std.proofs.Common.{◌≤◌, ◌-◌, drop, length, take}
use Rattle.ratio_lines.specs.PlainLine.{IsGraphic}
use Rattle.ratio_lines.proofs.parts.part_end.Given as goal

abbrev pub invariant-loop-end : goal.invariant-loop-end
invariant-loop-end l = (l.fn.from ≤ l.end) × (l.end ≤ length l.bytes) × IsGraphic (take (l.end - l.fn.from) (drop l.fn.from l.bytes))

abbrev pub decreases-loop-end : goal.decreases-loop-end
decreases-loop-end l = length l.bytes - l.end
