use Rattle.std.specs.Prelude.{◌≡◌, ◌*ℤ◌, ◌++◌, ℤ, List}
use Rattle.ratio_core.specs.ManyProducts.{product_by}
use Rattle.num_rational.specs.ManyProducts.{denominator_product, numerator_product}
use Rattle.num_rational.proofs.ManyProductLemmas.{parts_product}
use Rattle.ratio_c.specs.Numbers64.{fraction64}
use Rattle.ratio_c.proofs.many.quotient.Goals as goal

pub returns : goal.returns
returns c =
    let value : ℤ → ℤ = λ n. n in
    let numers : List ℤ = c.put_numbers.new.numers in
    let denoms : List ℤ = c.put_numbers.new.denoms in
    let turned_numers : List ℤ = c.put_numbers-2.new.numers in
    let turned_denoms : List ℤ = c.put_numbers-2.new.denoms in
    let above = c.args.above.now in
    let below = c.args.below.now in
    let upper : product_by value (numers ++ turned_denoms) ≡ numerator_product fraction64 above *ℤ denominator_product fraction64 below =
    parts_product value numers turned_denoms (numerator_product fraction64 above) (denominator_product fraction64 below) c.put_numbers.ensures.numers c.put_numbers-2.ensures.denoms in
    let lower : product_by value (denoms ++ turned_numers) ≡ denominator_product fraction64 above *ℤ numerator_product fraction64 below =
    parts_product value denoms turned_numers (denominator_product fraction64 above) (numerator_product fraction64 below) c.put_numbers.ensures.denoms c.put_numbers-2.ensures.numers in
    rw (upper, lower) at c.checked_quotient_of_products.ensures
