use Rattle.std.proofs.Common.{◌≡◌, ◌+◌, ◌<◌, ℕ, pos, length, drop, get_or}
use Rattle.std.specs.List.{zip}
use Rattle.ratio_slots.specs.Merging.{free_of}
use Rattle.ratio_slots.specs.Sums.{SameSum, pair_sum}
use Rattle.ratio_totals.specs.Dots.{HasShortPair, product_of_both}
use Rattle.ratio_totals.specs.Items.{denominators_of}
use Rattle.ratio_totals.specs.Values.{pair_of, slots_of, sum_of_items, value_of}
use Rattle.ratio_totals.proofs.DenominatorLemmas.{held_in, new_items}
use Rattle.ratio_totals.proofs.DotLemmas.{low_of, low_positive}
use Rattle.ratio_totals.proofs.ItemLemmas.{pair_positive}
use Rattle.ratio_totals.proofs.total_changes.dot.Given as goal

abbrev pub invariant-adding : goal.invariant-adding
invariant-adding g l = record {
  same_slots : l.total.slots.ghost_name ≡ l.initial.total.slots.ghost_name;
  length_kept : length (slots_of l.total) ≡ length l.fn.slots;
  sum : SameSum (pair_sum (value_of l.total) (sum_of_items (product_of_both pair_of) (drop l.i (zip l.xs l.ys)))) (sum_of_items (product_of_both pair_of) (zip l.xs l.ys));
  count : l.total.tally.count ≡ pos l.i;
  weight : l.total.tally.weight ≡ l.i;
  short : (k : ℕ) → k < l.i → (d : _) → HasShortPair (product_of_both pair_of (get_or (zip l.xs l.ys) k d));
  room : free_of (slots_of l.total) + denominators_of (low_of pair_of pair_positive) (zip l.xs l.ys) ≡ length l.fn.slots + new_items (low_of pair_of pair_positive) (low_positive pair_of pair_positive) (held_in (slots_of l.total)) (drop l.i (zip l.xs l.ys));
}
