use Rattle.std.proofs.Common.{drop}
use Rattle.ratio_slots.specs.Merging.{IsPouring}
use Rattle.ratio_slots.specs.Turning.{turned_slots}
use Rattle.ratio_slots.proofs.changes.pour.Given as goal

abbrev pub invariant-pouring : goal.invariant-pouring
invariant-pouring l = IsPouring l.initial.slots (turned_slots l.out l.other) l.slots (drop l.i (turned_slots l.out l.other)) l.fn.tally.weight l.fn.more.weight
