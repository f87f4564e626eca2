use Rattle.std.proofs.Common.{◌+◌, ◌<◌, arith, refl}
use Rattle.ratio_uses.proofs.GearLemmas.{best_next, nearest_begins, nearest_kept, nearest_taken, nearest_too_far, nearest_whole, one_pair}
use Rattle.ratio_uses.proofs.gears.nearest_wheels.Goals as goal
use Rattle.ratio_uses.proofs.gears.nearest_wheels.Goals.{then-near-second+then-other_gap-second, then-near-second+else-other_gap-second, else-near-second}

pub returns-then-least-most : goal.returns-then-least-most
returns-then-least-most c = one_pair _ _ _ c.if-least-most.true

pub loop-before-init : goal.loop-before-init
loop-before-init c = record {
  nearest = nearest_begins _ _ _ _ (c.best_first-first.ensures _ _ c.requires.least c.divided-best.ensures);
  best = c.divided-best.ensures;
  gap_is = c.gap_of-gap.ensures.gap;
  gap_small = c.gap_of-gap.ensures.small;
}

pub loop-before-preserved : goal.loop-before-preserved
loop-before-preserved c =
    let so_far = c.loop-before.invariant in
    let best = best_next _ _ _ _ _ _ _ _ _ so_far.best c.divided-step.ensures c.sum_of-best.ensures in
    let up : 0 < c.loop-before.before + 1 = omega arith in
    elim c.if-near-second.branch [
      | then-near-second+then-other_gap-second w ↦ rw (w.first-is, w.second-is, w.gap-is) record {
        nearest = nearest_taken _ _ _ _ _ _ _ _ c.requires.least so_far.nearest refl (w.best_first-other.ensures _ _ up best) (rw (w.gap_of-other_gap.ensures.gap, so_far.gap_is) at w.if-other_gap-second.true);
        best = best;
        gap_is = w.gap_of-other_gap.ensures.gap;
        gap_small = w.gap_of-other_gap.ensures.small;
      }
      | then-near-second+else-other_gap-second w ↦ rw (w.first-is, w.second-is, w.gap-is) record {
        nearest = nearest_kept _ _ _ _ _ _ _ _ c.requires.least so_far.nearest refl (w.best_first-other.ensures _ _ up best) (rw (w.gap_of-other_gap.ensures.gap, so_far.gap_is) at w.if-other_gap-second.false);
        best = best;
        gap_is = so_far.gap_is;
        gap_small = so_far.gap_small;
      }
      | else-near-second w ↦ rw (w.first-is, w.second-is, w.gap-is) record {
        nearest = nearest_too_far _ _ _ _ _ _ _ so_far.nearest (λ m. nearest_whole _ _ _ _ _ m best) (rw (c.min-near.ensures, so_far.gap_is) at w.if-near-second.false);
        best = best;
        gap_is = so_far.gap_is;
        gap_small = so_far.gap_small;
      }
    ]
