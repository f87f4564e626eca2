use Rattle.std.proofs.Common.{drop}
use Rattle.ratio_slots.proofs.ShortSumLemmas.{IsShortSoFar}
use Rattle.ratio_slots.proofs.short_sums.short_sum.Given as goal

abbrev pub invariant-joining : goal.invariant-joining
invariant-joining l = IsShortSoFar l.slots (drop l.i l.slots) l.numer l.common
