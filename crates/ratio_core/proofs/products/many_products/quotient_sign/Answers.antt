use Rattle.std.specs.Prelude.{◌≡◌, negsuc}
use Rattle.ratio_core.proofs.ManyProductLemmas.{minus_one_held, sign_minus, sign_plus, tests_differ, tests_same}
use Rattle.ratio_core.proofs.products.many_products.quotient_sign.Goals as goal

pub minus-requires : goal.minus-requires
minus-requires g c =
    rw (c.ZERO.ensures, c.ONE.ensures, g.met.T.Integer.zero_law, g.met.T.Integer.one_law)
    (minus_one_held _ _ c.is_negative.result c.is_negative-2.result g.met.T.Integer.range_law (tests_differ _ _ c.if-is_negative.true) c.is_negative.ensures.signed c.is_negative-2.ensures.signed)

pub returns-then-is_negative : goal.returns-then-is_negative
returns-then-is_negative g c =
    let v = g.T.Integer.value in
    let one : v c.minus.result ≡ negsuc 0 = rw (c.ZERO.ensures, c.ONE.ensures, g.met.T.Integer.zero_law, g.met.T.Integer.one_law) at c.minus.ensures in
    rw one (sign_minus _ _ c.is_negative.result c.is_negative-2.result c.is_negative.ensures.below c.is_negative-2.ensures.below (tests_differ _ _ c.if-is_negative.true))

pub returns-else-is_negative : goal.returns-else-is_negative
returns-else-is_negative g c =
    rw (c.ONE-else-is_negative.ensures, g.met.T.Integer.one_law)
    (sign_plus _ _ c.is_negative.result c.is_negative-2.result c.is_negative.ensures.below c.is_negative-2.ensures.below (tests_same _ _ c.if-is_negative.false))
