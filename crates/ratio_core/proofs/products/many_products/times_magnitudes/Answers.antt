use Rattle.std.proofs.Common.{◌∙◌}
use Rattle.ratio_core.proofs.ManyProductLemmas.{magnitudes_more, magnitudes_nonzero, magnitudes_out}
use Rattle.ratio_core.proofs.products.many_products.times_magnitudes.Goals as goal

pub times_magnitude-requires : goal.times_magnitude-requires
times_magnitude-requires g c =
    let v = g.T.Integer.value in
    magnitudes_nonzero v c.args.items.now c.each.x-index c.x-item.result c.each-test.true c.x-item.is (v c.args.start) (v c.each.total) c.each.invariant c.requires.start_nonzero c.requires.nonzero

pub returns-in_err-total : goal.returns-in_err-total
returns-in_err-total g c =
    let v = g.T.Integer.value in
    rw c.from_residual.ensures (magnitudes_out v c.args.items.now c.each.x-index c.x-item.result c.each-test.true c.x-item.is (v c.args.start) (v c.each.total) c.each.invariant _ _ g.met.T.Integer.range_law c.requires.nonzero c.in_err-total.ensures)

pub each-preserved : goal.each-preserved
each-preserved g c =
    let v = g.T.Integer.value in
    c.in_ok-total.ensures.1 ∙ magnitudes_more v c.args.items.now c.each.x-index c.x-item.result c.each-test.true c.x-item.is (v c.args.start) (v c.each.total) c.each.invariant
