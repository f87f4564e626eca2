use Rattle.std.specs.Prelude.{false, true, ◌≡◌}
use Rattle.std.proofs.Common.{refl}
use Rattle.ratio_core.proofs.ManyProductLemmas.{item_zero, more_nonzero}
use Rattle.ratio_core.proofs.products.many_products.has_zero.Goals as goal

pub returns-then-is_zero : goal.returns-then-is_zero
returns-then-is_zero g c =
    let v = g.T.Integer.value in
    ((λ h. item_zero v c.args.items.now c.each.x-index c.x-item.result c.each-test.true c.x-item.is (c.is_zero.ensures.0 c.if-is_zero.true)), λ h. refl)

pub each-preserved : goal.each-preserved
each-preserved g c =
    let v = g.T.Integer.value in
    more_nonzero v c.args.items.now c.each.x-index c.x-item.result c.each-test.true c.x-item.is c.each.invariant (λ h. absurd (let no : c.is_zero.result ≡ true = c.is_zero.ensures.1 h in let yes : c.is_zero.result ≡ false = c.if-is_zero.false in cc))
