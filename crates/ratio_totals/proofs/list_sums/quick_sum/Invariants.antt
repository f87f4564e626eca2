use Rattle.std.proofs.Common.{drop}
use Rattle.ratio_slots.proofs.ShortSumLemmas.{IsShortSoFar}
use Rattle.ratio_totals.specs.ListSums.{table_of}
use Rattle.ratio_totals.specs.Values.{pair_of}
use Rattle.ratio_totals.proofs.list_sums.quick_sum.Given as goal

abbrev pub invariant-adding : goal.invariant-adding
invariant-adding g l = IsShortSoFar (table_of pair_of l.items) (table_of pair_of (drop l.x-index l.items)) l.sum l.common
