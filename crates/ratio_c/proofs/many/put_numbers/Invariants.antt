use Rattle.std.specs.Prelude.{◌≡◌}
use Rattle.std.proofs.Common.{take}
use Rattle.ratio_core.specs.ManyProducts.{product_by}
use Rattle.num_rational.specs.ManyProducts.{denominator_product, numerator_product}
use Rattle.ratio_c.specs.Numbers64.{fraction64}
use Rattle.ratio_c.proofs.many.put_numbers.Given as goal

abbrev pub invariant-each : goal.invariant-each
invariant-each l =
    (product_by (λ n. n) (take l.i l.numers) ≡ numerator_product fraction64 (take l.i l.items)) × (product_by (λ n. n) (take l.i l.denoms) ≡ denominator_product fraction64 (take l.i l.items))
