use Rattle.std.proofs.Common.{◌≡◌, ◌≢◌, pos, unsigned_abs}
use Rattle.ratio_core.proofs.Hashing.{IsBegun}
use Rattle.ratio_core.proofs.hash.take_codes.Given as goal

abbrev pub invariant-rounds : goal.invariant-rounds
invariant-rounds g l =
    let v = g.T.Counted.value in
    record {
      nonzero : v l.denom ≢ pos 0;
      begun : IsBegun g.L.CodeList.after g.T.Counted.lo g.T.Counted.hi (v l.fn.n) (v l.fn.d) l.initial.list l.initial.steps.left (v l.numer) (v l.denom) l.list l.steps.left;
      right_stays : l.steps.right ≡ l.initial.steps.right;
    }

abbrev pub decreases-rounds : goal.decreases-rounds
decreases-rounds g l = unsigned_abs (g.T.Counted.value l.denom)
