use Rattle.std.proofs.Common.{◌≡◌, ◌≤◌, ◌<◌, ◌++◌, ℕ, take, drop}
use Rattle.std.specs.List.{filter}
use Rattle.ratio_slots.specs.Growth.{is_nonzero}
use Rattle.ratio_slots.specs.Slots.{empty_slot, slot_at}
use Rattle.ratio_slots.proofs.growth.leave_zeros.Given as goal

-- the slots that are still to come have the rest, and each slot between is empty
abbrev pub invariant-leaving : goal.invariant-leaving
invariant-leaving l = record {
  within : l.left ≤ l.i;
  first : take l.left l.slots ++ filter is_nonzero (drop l.i l.slots) ≡ filter is_nonzero l.initial.slots;
  behind : (k : ℕ) → l.left ≤ k → k < l.i → slot_at l.slots k ≡ empty_slot;
}
