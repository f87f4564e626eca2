use Rattle.std.specs.Prelude.{◌≡◌}
use Rattle.std.proofs.Common.{take}
use Rattle.ratio_core.specs.ManyProducts.{product_by}
use Rattle.num_rational.specs.ManyProducts.{denominator_product, numerator_product}
use Rattle.num_rational.proofs.many_products.put_numbers.Given as goal

abbrev pub invariant-each : goal.invariant-each
invariant-each g l =
    let v = g.T.Integer.value in
    let view = g.O.ReducedOperand.two_numbers in
    (product_by v (take l.i l.numers) ≡ numerator_product view (take l.i l.items)) × (product_by v (take l.i l.denoms) ≡ denominator_product view (take l.i l.items))
