use Rattle.std.proofs.Common.{◌≡◌, ◌≤◌, ◌+◌, drop}
use Rattle.ratio_slots.specs.Merging.{free_of}
use Rattle.ratio_slots.proofs.slots.count_free.Given as goal

-- the slots that are still to come have the rest
abbrev pub invariant-counting : goal.invariant-counting
invariant-counting l = record { within : l.count ≤ l.i; rest : l.count + free_of (drop l.i l.slots) ≡ free_of l.slots }
