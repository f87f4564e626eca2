use Rattle.std.proofs.Common.{◌≡◌, ◌+◌, pos, length, drop}
use Rattle.ratio_slots.specs.Merging.{free_of}
use Rattle.ratio_slots.specs.Sums.{SameSum, pair_sum}
use Rattle.ratio_totals.specs.Items.{denominators_of}
use Rattle.ratio_totals.specs.Values.{pair_of, slots_of, sum_of_items, value_of}
use Rattle.ratio_totals.proofs.DenominatorLemmas.{held_in, new_items}
use Rattle.ratio_totals.proofs.ItemLemmas.{pair_positive}
use Rattle.ratio_totals.proofs.ListSumLemmas.{HoldsSoFar}
use Rattle.ratio_totals.proofs.total_changes.total_of.Given as goal

abbrev pub invariant-adding : goal.invariant-adding
invariant-adding g l = record {
  same_slots : l.total.slots.ghost_name ≡ l.initial.total.slots.ghost_name;
  length_kept : length (slots_of l.total) ≡ length l.fn.slots;
  sum : SameSum (pair_sum (value_of l.total) (sum_of_items pair_of (drop l.x-index l.items))) (sum_of_items pair_of l.items);
  count : l.total.tally.count ≡ pos l.x-index;
  weight : l.total.tally.weight ≡ l.x-index;
  room : free_of (slots_of l.total) + denominators_of pair_of l.items ≡ length l.fn.slots + new_items pair_of pair_positive (held_in (slots_of l.total)) (drop l.x-index l.items);
  held : HoldsSoFar pair_of l.items (drop l.x-index l.items) (slots_of l.total);
}
