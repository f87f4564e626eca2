use Rattle.std.specs.Prelude.{◌+◌, ◌+ℤ◌, unsigned_abs}
use Rattle.ratio_approximation.specs.SearchCount.{IsSearchCount}
use Rattle.ratio_approximation.proofs.SimplestSearch.{Searches}
use Rattle.ratio_approximation.proofs.simplest.search.search.Given as goal

abbrev pub invariant-rounds : goal.invariant-rounds
invariant-rounds g l =
    let v = g.T.Counted.value in
    Searches g.T.Counted.lo g.T.Counted.hi (v l.fn.n) (v l.fn.d) (v l.fn.m) (v l.fn.e) (v l.moving.numer) (v l.moving.denom) (v l.moving.own) (v l.moving.other) (v l.fixed.numer) (v l.fixed.denom) (v l.fixed.own) (v l.fixed.other) l.fn.steps.left l.steps.left l.fn.steps.right l.steps.right (IsSearchCount (v l.fn.left.own) (v l.fn.left.own +ℤ v l.fn.right.other) (v l.fn.left.other) (v l.fn.left.other +ℤ v l.fn.right.own))

abbrev pub decreases-rounds : goal.decreases-rounds
decreases-rounds g l =
    let v = g.T.Counted.value in
    unsigned_abs (v l.moving.own) + unsigned_abs (v l.moving.other) + unsigned_abs (v l.fixed.own) + unsigned_abs (v l.fixed.other)
