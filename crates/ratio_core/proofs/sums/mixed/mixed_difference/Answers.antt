use Rattle.std.specs.Prelude.{◌-ℤ◌, ◌*ℤ◌, ℤ, neg_ℤ}
use Rattle.std.proofs.Common.{ap, subst, ◌∙◌}
use Rattle.ratio_integer.specs.Fraction.{Fits, IsHeldLowest}
use Rattle.ratio_core.specs.Parts.{IsDivided}
use Rattle.ratio_core.proofs.KeptLowest.{negative_lowest}
use Rattle.ratio_core.proofs.MixedLemmas.{carry_held, difference_turned, mixed_answer, numer_not_held, parts_out, rest_lowest, whole_not_held}
use Rattle.ratio_core.proofs.PartLemmas.{from_floored}
use Rattle.ratio_core.proofs.sums.mixed.mixed_difference.Given.{Over}
use Rattle.ratio_core.proofs.sums.mixed.mixed_difference.Goals.{After-ceiling-other}
use Rattle.ratio_core.proofs.sums.mixed.mixed_difference.Goals as goal

left : (g : Over) (c : After-ceiling-other g) → (let v = g.T.Integer.value in IsDivided (v c.args.a) (v c.args.b) (v c.div_mod_floor-floor.result.0) (v c.div_mod_floor-floor.result.1))
left g c = from_floored _ _ _ _ c.requires.left.positive c.div_mod_floor-floor.ensures

pub parts_sum-requires-clause-left : goal.parts_sum-requires-clause-left
parts_sum-requires-clause-left g c =
    (left g (goal.at.parts_sum-requires-clause-left g c).After-ceiling-other).rest

pub parts_sum-requires-clause-right : goal.parts_sum-requires-clause-right
parts_sum-requires-clause-right g c =
    c.ceiling-other.ensures.rest

pub parts_sum-requires-clause-left_lowest : goal.parts_sum-requires-clause-left_lowest
parts_sum-requires-clause-left_lowest g c =
    rest_lowest _ _ _ _ c.requires.left (left g (goal.at.parts_sum-requires-clause-left_lowest g c).After-ceiling-other)

pub parts_sum-requires-clause-right_lowest : goal.parts_sum-requires-clause-right_lowest
parts_sum-requires-clause-right_lowest g c =
    let v = g.T.Integer.value in
    rest_lowest (neg_ℤ (v c.args.c)) (v c.args.d) (neg_ℤ (v c.ceiling-other.result.0)) (v c.ceiling-other.result.1) (negative_lowest _ _ c.requires.right) c.ceiling-other.ensures

pub returns-in_err-carry : goal.returns-in_err-carry
returns-in_err-carry g c =
    let v = g.T.Integer.value in
    rw c.from_residual.ensures (subst (λ (z : ℤ). ¬ (Fits g.T.Integer.lo g.T.Integer.hi z (v c.args.b *ℤ v c.args.d))) (difference_turned (v c.args.a) (v c.args.b) (v c.args.c) (v c.args.d)) (parts_out _ _ _ _ _ _ _ _ _ _ g.met.T.Integer.range_law (left g (goal.at.returns-in_err-carry g c).After-ceiling-other) c.ceiling-other.ensures c.in_err-carry.ensures))

pub carried_on-requires : goal.carried_on-requires
carried_on-requires g c =
    let v = g.T.Integer.value in
    carry_held _ _ (v c.args.a) (v c.args.b) _ _ (v c.ceiling-other.result.1) (v c.args.d) _ _ c.in_ok-carry.carry g.met.T.Integer.range_law c.held.ensures.range c.held-2.ensures.range (left g (goal.at.carried_on-requires g c).After-ceiling-other) c.ceiling-other.ensures.rest c.in_ok-carry.ensures

pub returns-in_err-whole : goal.returns-in_err-whole
returns-in_err-whole g c =
    let v = g.T.Integer.value in
    rw c.from_residual-in_err-whole.ensures (subst (λ (z : ℤ). ¬ (Fits g.T.Integer.lo g.T.Integer.hi z (v c.args.b *ℤ v c.args.d))) (difference_turned (v c.args.a) (v c.args.b) (v c.args.c) (v c.args.d)) (whole_not_held _ _ _ _ _ _ _ _ _ _ g.met.T.Integer.range_law (left g (goal.at.returns-in_err-whole g c).After-ceiling-other) c.ceiling-other.ensures c.in_ok-carry.carry (v c.in_ok-carry.part) (v c.in_ok-carry.denom) (v c.carried_on.result -ℤ v c.ceiling-other.result.0) c.in_ok-carry.ensures (ap (λ (z : ℤ). z -ℤ v c.ceiling-other.result.0) c.carried_on.ensures) c.in_err-whole.ensures))

pub returns-in_err-numerator_of : goal.returns-in_err-numerator_of
returns-in_err-numerator_of g c =
    let v = g.T.Integer.value in
    rw c.from_residual-in_err-numerator_of.ensures (subst (λ (z : ℤ). ¬ (Fits g.T.Integer.lo g.T.Integer.hi z (v c.args.b *ℤ v c.args.d))) (difference_turned (v c.args.a) (v c.args.b) (v c.args.c) (v c.args.d)) (numer_not_held _ _ _ _ _ _ _ _ _ _ g.met.T.Integer.range_law (left g (goal.at.returns-in_err-numerator_of g c).After-ceiling-other) c.ceiling-other.ensures c.in_ok-carry.carry (v c.in_ok-carry.part) (v c.in_ok-carry.denom) (v c.in_ok-whole.whole) c.in_ok-carry.ensures (c.in_ok-whole.ensures.1 ∙ ap (λ (z : ℤ). z -ℤ v c.ceiling-other.result.0) c.carried_on.ensures) c.in_err-numerator_of.ensures))

pub returns : goal.returns
returns g c =
    let v = g.T.Integer.value in
    subst (λ (z : ℤ). IsHeldLowest g.T.Integer.lo g.T.Integer.hi z (v c.args.b *ℤ v c.args.d) (v c.in_ok-numerator_of.field-0) (v c.in_ok-carry.denom)) (difference_turned (v c.args.a) (v c.args.b) (v c.args.c) (v c.args.d)) (mixed_answer _ _ _ _ _ _ _ _ _ _ g.met.T.Integer.range_law (left g (goal.at.returns g c).After-ceiling-other) c.ceiling-other.ensures c.in_ok-carry.carry (v c.in_ok-carry.part) (v c.in_ok-carry.denom) (v c.in_ok-whole.whole) c.in_ok-carry.ensures (c.in_ok-whole.ensures.1 ∙ ap (λ (z : ℤ). z -ℤ v c.ceiling-other.result.0) c.carried_on.ensures) _ c.in_ok-numerator_of.ensures)
