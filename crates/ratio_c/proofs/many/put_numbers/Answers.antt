use Rattle.std.specs.Prelude.{◌≡◌, ◌<◌, get_or, length, pos}
use Rattle.std.proofs.Common.{arith, rules}
use Rattle.std.proofs.lemmas.List.{get_or_default}
use mir.Val.{to_z, of_z}
use mir.Syntax.{w64}
use Rattle.num_rational.proofs.ManyProductLemmas.{product_written}
use Rattle.ratio_c.specs.Numbers64.{fraction64}
use Rattle.ratio_c.specs.declared.numbers64.Fraction64.{Fraction64}
use Rattle.ratio_c.proofs.many.put_numbers.Goals as goal

pub each-preserved : goal.each-preserved
each-preserved c =
    let none : Fraction64 = record { numer = pos 0; denom = pos 0 } in
    let items = c.args.items.now in
    let i = c.each.i in
    let x : Fraction64 = get_or c.args.items.now c.each.i none in
    let same_numer : to_z w64 (of_z w64 (get_or c.args.items.now c.each.i none).numer) ≡ (get_or c.args.items.now c.each.i none).numer = search rules in
    let same_denom : to_z w64 (of_z w64 (get_or c.args.items.now c.each.i none).denom) ≡ (get_or c.args.items.now c.each.i none).denom = search rules in
    let is : x ≡ get_or items i x = get_or_default items i none x c.each-test.true in
    let in_numers : c.each.i < length c.each.numers = omega arith in
    let in_denoms : c.each.i < length c.each.denoms = omega arith in (
      product_written (λ y. (fraction64 y).0) (λ n. n) items c.each.numers i x (to_z w64 (of_z w64 x.numer)) c.each-test.true is in_numers same_numer c.each.invariant.0,
      product_written (λ y. (fraction64 y).1) (λ n. n) items c.each.denoms i x (to_z w64 (of_z w64 x.denom)) c.each-test.true is in_denoms same_denom c.each.invariant.1,
    )
