use Rattle.std.proofs.Common.{◌≤◌, ℕ, ◌<◌, length}
use Rattle.ratio_slots.specs.Slots.{IsOpenTo, slot_at}
use Rattle.ratio_slots.proofs.slots.find.Given as goal

-- no slot from the start on is open, as far as the search has come
abbrev pub invariant-upper : goal.invariant-upper
invariant-upper l = (k : ℕ) → l.start ≤ k → k < l.i → ¬ (IsOpenTo l.denom (slot_at l.slots k))

-- nor is one from index 0 on
abbrev pub invariant-lower : goal.invariant-lower
invariant-lower l =
    ((k : ℕ) → l.start ≤ k → k < length l.slots → ¬ (IsOpenTo l.denom (slot_at l.slots k)))
    × ((k : ℕ) → k < l.i → ¬ (IsOpenTo l.denom (slot_at l.slots k)))
