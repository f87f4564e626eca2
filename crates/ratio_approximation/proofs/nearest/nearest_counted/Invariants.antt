use Rattle.std.specs.Prelude.{◌<ℤ◌, pos, unsigned_abs}
use Rattle.ratio_core.proofs.Around.{Surround}
use Rattle.ratio_approximation.proofs.NearestCounting.{HaveGone}
use Rattle.ratio_approximation.proofs.NearestMoves.{IsAsked}
use Rattle.ratio_approximation.proofs.nearest.nearest_counted.Given as goal

abbrev pub invariant-steps : goal.invariant-steps
invariant-steps g l =
    let v = g.T.Counted.value in
    record {
      asked : IsAsked g.T.Counted.lo g.T.Counted.hi (v l.fn.n) (v l.fn.d) (v l.fn.most);
      around : Surround (v l.fn.n) (v l.fn.d) (v l.fn.most) (v l.moving.numer) (v l.moving.denom) (v l.moving.gap) (v l.fixed.numer) (v l.fixed.denom) (v l.fixed.gap);
      gone : HaveGone (v l.fn.n) (v l.fn.d) (v l.fn.most) l.fn.steps.left l.steps.left l.fn.steps.right l.steps.right (v l.moving.denom) (v l.moving.gap) (v l.fixed.denom) (v l.fixed.gap);
      left_over : pos 0 <ℤ v l.fixed.gap;
    }

abbrev pub decreases-steps : goal.decreases-steps
decreases-steps g l = unsigned_abs (g.T.Counted.value l.fixed.gap)
