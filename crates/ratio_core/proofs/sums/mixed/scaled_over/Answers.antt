use Rattle.ratio_core.specs.Parts.{IsDivided}
use Rattle.ratio_core.proofs.MultipleLemmas.{piece_in_range}
use Rattle.ratio_core.proofs.PartLemmas.{divided_by, from_itself, from_positive}
use Rattle.ratio_core.proofs.PartsSumLemmas.{divided_by_one, scaled_divided, scaled_held, whole_held}
use Rattle.ratio_core.proofs.sums.mixed.scaled_over.Given.{Over}
use Rattle.ratio_core.proofs.sums.mixed.scaled_over.Goals.{After-div_rem-quotient}
use Rattle.ratio_core.proofs.sums.mixed.scaled_over.Goals as goal

divided : (g : Over) (c : After-div_rem-quotient g) → (let v = g.T.Integer.value in IsDivided (v c.args.number) (v c.args.g) (v c.div_rem-quotient.result.0) (v c.div_rem-quotient.result.1))
divided g c = divided_by _ _ _ _ c.requires.number c.requires.divisor c.div_rem-quotient.ensures.quotient c.div_rem-quotient.ensures.remainder

pub returns-then-is_one : goal.returns-then-is_one
returns-then-is_one g c =
    divided_by_one _ _ _ _ _ (c.is_one.ensures.0 c.if-is_one.true) (divided g (goal.at.returns-then-is_one g c).After-div_rem-quotient)

pub product_over-more-requires-clause-product : goal.product_over-more-requires-clause-product
product_over-more-requires-clause-product g c =
    let v = g.T.Integer.value in
    piece_in_range _ _ (v c.div_rem-quotient.result.1) (v c.args.factor) (v c.args.g) (v c.args.factor) g.met.T.Integer.range_law c.requires.multiple (divided g (goal.at.product_over-more-requires-clause-product g c).After-div_rem-quotient).rest (from_positive _ c.requires.factor) (from_itself (v c.args.factor))

pub times-requires : goal.times-requires
times-requires g c =
    let v = g.T.Integer.value in
    scaled_held _ _ (v c.args.number) (v c.args.factor) (v c.args.g) _ _ _ _ g.met.T.Integer.range_law c.requires.number c.requires.factor c.requires.room (divided g (goal.at.times-requires g c).After-div_rem-quotient) c.product_over-more.ensures

pub plus-requires : goal.plus-requires
plus-requires g c =
    let v = g.T.Integer.value in
    whole_held _ _ (v c.args.number) (v c.args.factor) (v c.args.g) _ _ _ _ g.met.T.Integer.range_law c.requires.number c.requires.factor c.requires.room (divided g (goal.at.plus-requires g c).After-div_rem-quotient) c.product_over-more.ensures _ c.times.ensures

pub returns : goal.returns
returns g c =
    scaled_divided _ _ _ _ _ _ _ _ _ (divided g (goal.at.returns g c).After-div_rem-quotient) c.product_over-more.ensures c.times.ensures c.plus.ensures
