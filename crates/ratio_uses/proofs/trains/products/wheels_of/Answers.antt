use Rattle.std.proofs.Common.{◌<◌, arith}
use Rattle.ratio_uses.specs.Gears.{IsWheel}
use Rattle.ratio_uses.proofs.ProductLemmas.{none_at, wheels_at, wheels_end}
use Rattle.ratio_uses.proofs.trains.products.wheels_of.Goals as goal
use Rattle.ratio_uses.proofs.trains.products.wheels_of.Goals.{else-large-most-via-then-large-most+else-large-small, else-large-most-via-else-large-most}

pub loop-small-preserved : goal.loop-small-preserved
loop-small-preserved c =
    let low = c.loop-small.auto.small in
    let some = c.requires.least in
    let up : 0 < c.loop-small.small = omega arith in
    none_at _ _ _ _ up c.loop-small.invariant
    (elim c.else-large-most.branch [
      | else-large-most-via-then-large-most+else-large-small w ↦ λ within same. w.if-large-small.false same
      | else-large-most-via-else-large-most w ↦ λ within same. let past = w.if-large-most.false in absurd (omega arith)
    ])

pub returns-then-large-small : goal.returns-then-large-small
returns-then-large-small c =
    let low = c.loop-small.auto.small in
    let some = c.requires.least in
    let up : 0 < c.loop-small.small = omega arith in
    let within : IsWheel c.args.least c.args.most c.loop-small.small = record { at_least = low; at_most = omega (arith, c.loop-small-test.true) } in
    wheels_at _ _ _ _ up c.loop-small.invariant _ within c.if-large-most.true c.if-large-small.true c.requires.product

pub returns : goal.returns
returns c = wheels_end _ _ _ _ c.loop-small-test.false c.loop-small.invariant c.requires.product
