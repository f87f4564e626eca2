use Rattle.std.proofs.Common.{◌<◌, arith}
use Rattle.ratio_uses.specs.Gears.{IsWheel}
use Rattle.ratio_uses.proofs.ProductLemmas.{up_to_kept, up_to_taken}
use Rattle.ratio_uses.proofs.trains.products.greatest_up_to.Goals as goal
use Rattle.ratio_uses.proofs.trains.products.greatest_up_to.Goals.{then-large-least, else-large-least}

pub loop-small-preserved : goal.loop-small-preserved
loop-small-preserved c =
    let low = c.loop-small.auto.small in
    let some = c.requires.least in
    let up : 0 < c.loop-small.small = omega arith in
    let within : IsWheel c.args.least c.args.most c.loop-small.small = record { at_least = low; at_most = omega (arith, c.loop-small-test.true) } in
    elim c.if-large-least.branch [
      | then-large-least w ↦ rw w.best-is (up_to_taken _ _ _ _ _ _ up within c.min-large.ensures c.loop-small.invariant _ w.if-large-least.true w.max-best.ensures)
      | else-large-least w ↦ rw w.best-is (up_to_kept _ _ _ _ _ _ up within c.min-large.ensures c.loop-small.invariant w.if-large-least.false)
    ]
