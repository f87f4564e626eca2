use Rattle.std.specs.Prelude.{◌≡◌, ◌+ℤ◌, ℤ, pos}
use Rattle.std.proofs.Common.{ap, ◌∙◌}
use Rattle.ratio_core.specs.Parts.{IsDivided}
use Rattle.ratio_core.proofs.MixedLemmas.{after_floor_held, ceiling_divided, negative_divided}
use Rattle.ratio_core.proofs.PartLemmas.{from_floored, missing_held, part_above_zero, part_at_most}
use Rattle.ratio_core.proofs.TestLemmas.{if_false}
use Rattle.ratio_core.proofs.sums.mixed.ceiling.Given.{Over}
use Rattle.ratio_core.proofs.sums.mixed.ceiling.Goals.{After-div_mod_floor-floor}
use Rattle.ratio_core.proofs.sums.mixed.ceiling.Goals as goal

divided : (g : Over) (c : After-div_mod_floor-floor g) → (let v = g.T.Integer.value in IsDivided (v c.args.c) (v c.args.d) (v c.div_mod_floor-floor.result.0) (v c.div_mod_floor-floor.result.1))
divided g c = from_floored _ _ _ _ c.requires c.div_mod_floor-floor.ensures

pub returns-then-is_zero : goal.returns-then-is_zero
returns-then-is_zero g c =
    negative_divided _ _ _ _ (divided g (goal.at.returns-then-is_zero g c).After-div_mod_floor-floor) (c.is_zero.ensures.0 c.if-is_zero.true)

pub plus-requires : goal.plus-requires
plus-requires g c =
    let v = g.T.Integer.value in
    let m = g.met.T.Integer in
    let is = divided g (goal.at.plus-requires g c).After-div_mod_floor-floor in
    let some = part_above_zero _ _ is.rest (if_false _ c.is_zero.ensures c.if-is_zero.false) in
    rw (ap v c.ONE.ensures ∙ m.one_law) (after_floor_held _ _ (v c.args.c) (v c.args.d) _ _ m.range_law c.held.ensures.range c.held-3.ensures.range is some)

pub minus-requires : goal.minus-requires
minus-requires g c =
    let m = g.met.T.Integer in
    let is = divided g (goal.at.minus-requires g c).After-div_mod_floor-floor in
    missing_held _ _ _ _ m.range_law c.held-2.ensures.range is.rest.above (part_at_most _ _ is.rest)

pub returns : goal.returns
returns g c =
    let v = g.T.Integer.value in
    let m = g.met.T.Integer in
    let is = divided g (goal.at.returns g c).After-div_mod_floor-floor in
    let some = part_above_zero _ _ is.rest (if_false _ c.is_zero.ensures c.if-is_zero.false) in
    let next : v c.plus.result ≡ v c.div_mod_floor-floor.result.0 +ℤ pos 1 = c.plus.ensures ∙ ap (λ (z : ℤ). v c.div_mod_floor-floor.result.0 +ℤ z) (ap v c.ONE.ensures ∙ m.one_law) in
    ceiling_divided _ _ _ _ _ _ is some next c.minus.ensures
