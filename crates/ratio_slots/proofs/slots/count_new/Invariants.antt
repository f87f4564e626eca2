use Rattle.std.proofs.Common.{◌≡◌, ◌≤◌, ◌+◌, drop}
use Rattle.ratio_slots.specs.Merging.{new_of}
use Rattle.ratio_slots.proofs.slots.count_new.Given as goal

-- the slots that are still to come have the rest
abbrev pub invariant-counting : goal.invariant-counting
invariant-counting l = record { within : l.count ≤ l.i; rest : l.count + new_of l.slots (drop l.i l.other) ≡ new_of l.slots l.other }
