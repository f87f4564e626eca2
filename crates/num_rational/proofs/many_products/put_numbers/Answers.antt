use Rattle.std.specs.Prelude.{◌≡◌, ◌<◌, ℤ, length}
use Rattle.std.proofs.Common.{ap, arith, ◌∙◌}
use Rattle.num_rational.proofs.ManyProductLemmas.{product_written}
use Rattle.num_rational.proofs.many_products.put_numbers.Goals as goal

pub each-preserved : goal.each-preserved
each-preserved g c =
    let v = g.T.Integer.value in
    let view = g.O.ReducedOperand.two_numbers in
    let in_numers : c.each.i < length c.each.numers = omega arith in
    let in_denoms : c.each.i < length c.each.denoms = omega arith in
    let numer_is : v c.into_raw-numer.result.0 ≡ (view c.index-items-i.result).0 = c.into_raw-numer.ensures.numer ∙ ap (λ (q : ℤ × ℤ). q.0) c.reduced.ensures in
    let denom_is : v c.into_raw-numer.result.1 ≡ (view c.index-items-i.result).1 = c.into_raw-numer.ensures.denom ∙ ap (λ (q : ℤ × ℤ). q.1) c.reduced.ensures in (
      product_written (λ x. (view x).0) v c.args.items.now c.each.numers c.each.i c.index-items-i.result _ c.each-test.true c.index-items-i.is in_numers numer_is c.each.invariant.0,
      product_written (λ x. (view x).1) v c.args.items.now c.each.denoms c.each.i c.index-items-i.result _ c.each-test.true c.index-items-i.is in_denoms denom_is c.each.invariant.1,
    )
