use Rattle.std.specs.Prelude.{◌≡◌, ◌*ℤ◌, ◌++◌}
use Rattle.ratio_core.specs.ManyProducts.{product_by}
use Rattle.num_rational.specs.ManyProducts.{denominator_product, numerator_product}
use Rattle.num_rational.proofs.ManyProductLemmas.{held_same, out_same, parts_product}
use Rattle.num_rational.proofs.many_products.cancelled_first.Goals as goal

pub returns-in-Some : goal.returns-in-Some
returns-in-Some g c =
    let v = g.T.Integer.value in
    let view = g.O.ReducedOperand.two_numbers in
    let shows = g.P.ReducedOperand.two_numbers in
    let upper : product_by v (c.put_numbers.new.numers ++ c.put_numbers-2.new.denoms) ≡ numerator_product view c.args.above.now *ℤ denominator_product shows c.args.below.now = parts_product v _ _ _ _ c.put_numbers.ensures.numers c.put_numbers-2.ensures.denoms in
    let lower : product_by v (c.put_numbers.new.denoms ++ c.put_numbers-2.new.numers) ≡ denominator_product view c.args.above.now *ℤ numerator_product shows c.args.below.now = parts_product v _ _ _ _ c.put_numbers.ensures.denoms c.put_numbers-2.ensures.numers in
    rw (c.new_raw.ensures.numer, c.new_raw.ensures.denom) (held_same _ _ _ _ _ _ upper lower _ _ c.in-Some.ensures)

pub returns-in-None : goal.returns-in-None
returns-in-None g c =
    let v = g.T.Integer.value in
    let view = g.O.ReducedOperand.two_numbers in
    let shows = g.P.ReducedOperand.two_numbers in
    let upper : product_by v (c.put_numbers.new.numers ++ c.put_numbers-2.new.denoms) ≡ numerator_product view c.args.above.now *ℤ denominator_product shows c.args.below.now = parts_product v _ _ _ _ c.put_numbers.ensures.numers c.put_numbers-2.ensures.denoms in
    let lower : product_by v (c.put_numbers.new.denoms ++ c.put_numbers-2.new.numers) ≡ denominator_product view c.args.above.now *ℤ numerator_product shows c.args.below.now = parts_product v _ _ _ _ c.put_numbers.ensures.denoms c.put_numbers-2.ensures.numers in
    out_same _ _ _ _ _ _ upper lower c.in-None.ensures
