use Rattle.std.specs.Prelude.{◌+ℤ◌, ℤ}
use Rattle.std.proofs.Common.{ap, ◌∙◌}
use Rattle.ratio_core.specs.Parts.{IsDivided}
use Rattle.ratio_core.proofs.MixedLemmas.{carry_held, mixed_answer, numer_not_held, parts_out, rest_lowest, whole_not_held}
use Rattle.ratio_core.proofs.PartLemmas.{from_floored}
use Rattle.ratio_core.proofs.sums.mixed.mixed_sum.Given.{Over}
use Rattle.ratio_core.proofs.sums.mixed.mixed_sum.Goals.{After-div_mod_floor-other}
use Rattle.ratio_core.proofs.sums.mixed.mixed_sum.Goals as goal

left : (g : Over) (c : After-div_mod_floor-other g) → (let v = g.T.Integer.value in IsDivided (v c.args.a) (v c.args.b) (v c.div_mod_floor-floor.result.0) (v c.div_mod_floor-floor.result.1))
left g c = from_floored _ _ _ _ c.requires.left.positive c.div_mod_floor-floor.ensures

right : (g : Over) (c : After-div_mod_floor-other g) → (let v = g.T.Integer.value in IsDivided (v c.args.c) (v c.args.d) (v c.div_mod_floor-other.result.0) (v c.div_mod_floor-other.result.1))
right g c = from_floored _ _ _ _ c.requires.right.positive c.div_mod_floor-other.ensures

pub parts_sum-requires-clause-left : goal.parts_sum-requires-clause-left
parts_sum-requires-clause-left g c =
    (left g (goal.at.parts_sum-requires-clause-left g c).After-div_mod_floor-other).rest

pub parts_sum-requires-clause-right : goal.parts_sum-requires-clause-right
parts_sum-requires-clause-right g c =
    (right g (goal.at.parts_sum-requires-clause-right g c).After-div_mod_floor-other).rest

pub parts_sum-requires-clause-left_lowest : goal.parts_sum-requires-clause-left_lowest
parts_sum-requires-clause-left_lowest g c =
    rest_lowest _ _ _ _ c.requires.left (left g (goal.at.parts_sum-requires-clause-left_lowest g c).After-div_mod_floor-other)

pub parts_sum-requires-clause-right_lowest : goal.parts_sum-requires-clause-right_lowest
parts_sum-requires-clause-right_lowest g c =
    let v = g.T.Integer.value in
    rest_lowest (v c.args.c) (v c.args.d) (v c.div_mod_floor-other.result.0) (v c.div_mod_floor-other.result.1) c.requires.right (right g (goal.at.parts_sum-requires-clause-right_lowest g c).After-div_mod_floor-other)

pub returns-in_err-carry : goal.returns-in_err-carry
returns-in_err-carry g c =
    let at = (goal.at.returns-in_err-carry g c).After-div_mod_floor-other in
    rw c.from_residual.ensures (parts_out _ _ _ _ _ _ _ _ _ _ g.met.T.Integer.range_law (left g at) (right g at) c.in_err-carry.ensures)

pub carried_on-requires : goal.carried_on-requires
carried_on-requires g c =
    let at = (goal.at.carried_on-requires g c).After-div_mod_floor-other in
    let v = g.T.Integer.value in
    carry_held _ _ (v c.args.a) (v c.args.b) _ _ (v c.div_mod_floor-other.result.1) (v c.args.d) _ _ c.in_ok-carry.carry g.met.T.Integer.range_law c.held.ensures.range c.held-2.ensures.range (left g at) (right g at).rest c.in_ok-carry.ensures

pub returns-in_err-whole : goal.returns-in_err-whole
returns-in_err-whole g c =
    let at = (goal.at.returns-in_err-whole g c).After-div_mod_floor-other in
    let v = g.T.Integer.value in
    rw c.from_residual-in_err-whole.ensures (whole_not_held _ _ _ _ _ _ _ _ _ _ g.met.T.Integer.range_law (left g at) (right g at) c.in_ok-carry.carry (v c.in_ok-carry.part) (v c.in_ok-carry.denom) (v c.carried_on.result +ℤ v c.div_mod_floor-other.result.0) c.in_ok-carry.ensures (ap (λ (z : ℤ). z +ℤ v c.div_mod_floor-other.result.0) c.carried_on.ensures) c.in_err-whole.ensures)

pub returns-in_err-numerator_of : goal.returns-in_err-numerator_of
returns-in_err-numerator_of g c =
    let at = (goal.at.returns-in_err-numerator_of g c).After-div_mod_floor-other in
    let v = g.T.Integer.value in
    rw c.from_residual-in_err-numerator_of.ensures (numer_not_held _ _ _ _ _ _ _ _ _ _ g.met.T.Integer.range_law (left g at) (right g at) c.in_ok-carry.carry (v c.in_ok-carry.part) (v c.in_ok-carry.denom) (v c.in_ok-whole.whole) c.in_ok-carry.ensures (c.in_ok-whole.ensures.1 ∙ ap (λ (z : ℤ). z +ℤ v c.div_mod_floor-other.result.0) c.carried_on.ensures) c.in_err-numerator_of.ensures)

pub returns : goal.returns
returns g c =
    let at = (goal.at.returns g c).After-div_mod_floor-other in
    let v = g.T.Integer.value in
    mixed_answer _ _ _ _ _ _ _ _ _ _ g.met.T.Integer.range_law (left g at) (right g at) c.in_ok-carry.carry (v c.in_ok-carry.part) (v c.in_ok-carry.denom) (v c.in_ok-whole.whole) c.in_ok-carry.ensures (c.in_ok-whole.ensures.1 ∙ ap (λ (z : ℤ). z +ℤ v c.div_mod_floor-other.result.0) c.carried_on.ensures) _ c.in_ok-numerator_of.ensures
