use Rattle.std.proofs.Common.{◌<◌, ◌≤◌, ◌^◌, arith, rules, sym}
use Rattle.ratio_uses.proofs.GearLemmas.{quotient_small, scaled_small}
use Rattle.ratio_uses.proofs.TrainLemmas.{best_next, multiple_two, too_far, with_begins, with_ends, with_goes_on, with_kept}
use Rattle.ratio_uses.proofs.trains.nearest_with.Goals as goal
use Rattle.ratio_uses.proofs.trains.nearest_with.Goals.{then-near-first, else-near-first}

pub loop-large-init : goal.loop-large-init
loop-large-init c = record {
  first = with_begins _ _ _ _ _ c.requires.nearest_drivers c.requires.nearest_driven;
  best = c.divided-best.ensures;
  gap_is = c.gap_of-gap.ensures.gap;
  gap_small = c.gap_of-gap.ensures.small;
}

pub nearer-first-requires-clause-driven : goal.nearer-first-requires-clause-driven
nearer-first-requires-clause-driven c = multiple_two _ _ _ _ c.requires.small c.loop-large.auto.large (omega (arith, c.loop-large-test.true))

pub sum_of-best-requires-clause-other_small : goal.sum_of-best-requires-clause-other_small
sum_of-best-requires-clause-other_small c =
    let high = c.requires.small.at_most in
    let numer_small : c.args.request.numer < 2 ^ 64 = search rules in
    let most_small : c.args.request.most < 2 ^ 16 = search rules in
    quotient_small _ _ _ _ c.args.request.ratio (scaled_small c.args.request.numer c.args.small numer_small (omega (arith, most_small))) c.divided-step.ensures

pub loop-large-preserved : goal.loop-large-preserved
loop-large-preserved c =
    let so_far = c.loop-large.invariant in
    let best = best_next _ _ _ _ _ _ _ _ _ _ so_far.best c.divided-step.ensures c.sum_of-best.ensures in
    let within : c.loop-large.large ≤ c.args.request.most = omega (arith, c.loop-large-test.true) in
    elim c.if-near-first.branch [
      | then-near-first w ↦ rw (w.first-is, w.gap-is) record {
        first = with_goes_on _ _ _ _ _ _ _ _ c.args.request.teeth c.requires.small within c.requires.nearest_driven so_far.first w.nearer-first.ensures;
        best = best;
        gap_is = w.gap_of-gap-then-near-first.ensures.gap;
        gap_small = w.gap_of-gap-then-near-first.ensures.small;
      }
      | else-near-first w ↦ rw (w.first-is, w.gap-is) record {
        first = with_kept _ _ _ _ _ _ _ c.args.request.teeth c.requires.small within c.requires.nearest_driven so_far.first
            (λ x. too_far _ _ _ _ _ _ _ x so_far.best (rw (sym so_far.gap_is, sym c.min-near.ensures) w.if-near-first.false));
        best = best;
        gap_is = so_far.gap_is;
        gap_small = so_far.gap_small;
      }
    ]

pub returns : goal.returns
returns c = with_ends _ _ _ _ _ _ _ (omega (arith, c.loop-large-test.false)) c.loop-large.invariant.first
