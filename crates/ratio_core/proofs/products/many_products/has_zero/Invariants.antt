use Rattle.std.specs.Prelude.{◌≢◌, pos}
use Rattle.std.proofs.Common.{take}
use Rattle.ratio_core.specs.ManyProducts.{product_by}
use Rattle.ratio_core.proofs.products.many_products.has_zero.Given as goal

abbrev pub invariant-each : goal.invariant-each
invariant-each g l = product_by g.T.Integer.value (take l.x-index l.items) ≢ pos 0
