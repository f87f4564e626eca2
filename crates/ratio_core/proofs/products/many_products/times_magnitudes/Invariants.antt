use Rattle.std.specs.Prelude.{◌≡◌, ◌*ℤ◌, pos, unsigned_abs}
use Rattle.std.proofs.Common.{take}
use Rattle.ratio_core.specs.ManyProducts.{product_by}
use Rattle.ratio_core.proofs.products.many_products.times_magnitudes.Given as goal

abbrev pub invariant-each : goal.invariant-each
invariant-each g l =
    let v = g.T.Integer.value in
    v l.total ≡ v l.fn.start *ℤ pos (unsigned_abs (product_by v (take l.x-index l.items)))
