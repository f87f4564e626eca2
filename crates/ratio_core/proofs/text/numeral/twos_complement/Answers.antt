use Rattle.std.specs.Prelude.{◌≡◌, ◌^◌, ◌-ℤ◌, pos}
use Rattle.std.proofs.Common.{arith}
use Rattle.std.proofs.lemmas.Int.{ints}
use Rattle.ratio_core.proofs.TwosComplement.{IsBelowZero, below_zero, complement_sum, natural_is, some_natural}
use Rattle.ratio_core.proofs.text.numeral.twos_complement.Given.{Over}
use Rattle.ratio_core.proofs.text.numeral.twos_complement.Goals.{After-unwrap-in-None, In-None}
use Rattle.ratio_core.proofs.text.numeral.twos_complement.Goals as goal

negative : (g : Over) (c : In-None g) → IsBelowZero g.T.Integer.lo g.T.Integer.hi (g.T.Integer.value c.args.t) (pos (2 ^ g.T.Primitive.BITS))
negative g c = below_zero _ _ _ _ g.met.T.Integer.range_law g.met.T.Primitive.width_law c.held.ensures.range c.in-None.ensures

-- how far the number is above the least one, and the greatest one
distances : (g : Over) (c : After-unwrap-in-None g) → (let t = g.T.Integer in (pos c.unwrap.result ≡ (t.value c.args.t -ℤ t.lo)) × (pos c.unwrap-in-None.result ≡ t.hi))
distances g c =
    let t = g.T.Integer in
    let m = g.met.T.Integer in
    let above = natural_is (t.value c.minus.result) c.to_u128-in-None.result c.unwrap.result c.to_u128-in-None.ensures c.unwrap.ensures in
    let greatest = natural_is (t.value c.MAX.result) c.to_u128-in-None-2.result c.unwrap-in-None.result c.to_u128-in-None-2.ensures c.unwrap-in-None.ensures in
    (grind (arith, ints, m.min_law, above, c.minus.ensures), grind (arith, ints, m.max_law, greatest))

pub minus-requires : goal.minus-requires
minus-requires g c =
    grind (arith, ints, negative g (goal.at.minus-requires g c).In-None, g.met.T.Integer.min_law, c.MIN.ensures)

pub unwrap-requires : goal.unwrap-requires
unwrap-requires g c =
    let m = g.met.T.Integer in
    let h = negative g (goal.at.unwrap-requires g c).In-None in
    some_natural (g.T.Integer.value c.minus.result) c.to_u128-in-None.result c.to_u128-in-None.ensures (grind (arith, ints, h, m.min_law, c.minus.ensures)) (grind (arith, ints, h, m.min_law, c.minus.ensures))

pub unwrap-requires-in-None : goal.unwrap-requires-in-None
unwrap-requires-in-None g c =
    let m = g.met.T.Integer in
    let h = negative g (goal.at.unwrap-requires-in-None g c).In-None in
    some_natural (g.T.Integer.value c.MAX.result) c.to_u128-in-None-2.result c.to_u128-in-None-2.ensures (grind (arith, ints, h, m.max_law)) (grind (arith, ints, h, m.max_law))

pub overflow_add-result : goal.overflow_add-result
overflow_add-result g c =
    let at = goal.at.overflow_add-result g c in
    let h = negative g at.In-None in
    let is = distances g at.After-unwrap-in-None in
    grind (arith, ints, h, is)

pub overflow_add-result-in-None : goal.overflow_add-result-in-None
overflow_add-result-in-None g c =
    let at = goal.at.overflow_add-result-in-None g c in
    let h = negative g at.In-None in
    let is = distances g at.After-unwrap-in-None in
    grind (arith, ints, h, is)

pub returns-in-None : goal.returns-in-None
returns-in-None g c =
    let at = goal.at.returns-in-None g c in
    let t = g.T.Integer in
    let is = distances g at.After-unwrap-in-None in
    complement_sum t.lo t.hi (t.value c.args.t) g.T.Primitive.BITS c.unwrap.result c.unwrap-in-None.result (negative g at.In-None) is.0 is.1
