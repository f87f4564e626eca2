use Rattle.std.proofs.Common.{◌<◌, arith}
use Rattle.ratio_uses.specs.Gears.{IsWheel}
use Rattle.ratio_uses.proofs.ProductLemmas.{above_kept, above_taken}
use Rattle.ratio_uses.proofs.trains.products.least_above.Goals as goal
use Rattle.ratio_uses.proofs.trains.products.least_above.Goals.{then-large-most, else-large-most}

pub loop-small-preserved : goal.loop-small-preserved
loop-small-preserved c =
    let low = c.loop-small.auto.small in
    let some = c.requires.least in
    let up : 0 < c.loop-small.small = omega arith in
    let within : IsWheel c.args.least c.args.most c.loop-small.small = record { at_least = low; at_most = omega (arith, c.loop-small-test.true) } in
    elim c.if-large-most.branch [
      | then-large-most w ↦ rw w.best-is (above_taken _ _ _ _ _ _ up within c.max-large.ensures c.loop-small.invariant _ w.if-large-most.true w.min-best.ensures)
      | else-large-most w ↦ rw w.best-is (above_kept _ _ _ _ _ _ up within c.max-large.ensures c.loop-small.invariant w.if-large-most.false)
    ]
