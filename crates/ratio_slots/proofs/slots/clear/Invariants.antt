use Rattle.std.proofs.Common.{◌≡◌, ℕ, ◌<◌}
use Rattle.ratio_slots.specs.Slots.{empty_slot, slot_at}
use Rattle.ratio_slots.proofs.slots.clear.Given as goal

abbrev pub invariant-clearing : goal.invariant-clearing
invariant-clearing l = (k : ℕ) → k < l.slot-index → slot_at l.slots k ≡ empty_slot
