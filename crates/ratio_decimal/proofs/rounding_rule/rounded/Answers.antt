use Rattle.std.specs.Prelude.{◌*ℤ◌}
use Rattle.std.proofs.Common.{subst, sym}
use Rattle.ratio_core.specs.Parts.{IsDivided}
use Rattle.ratio_decimal.specs.RoundingRules.{IsRoundedBy}
use Rattle.ratio_core.proofs.MixedLemmas.{after_floor_held}
use Rattle.ratio_core.proofs.PartLemmas.{from_floored}
use Rattle.ratio_decimal.proofs.RoundedLemmas.{multiple_divided, part_of_rest, rest_of_multiple}
use Rattle.ratio_decimal.proofs.RoundingRuleLemmas.{rises, some_rest, stays}
use Rattle.ratio_core.proofs.TestLemmas.{if_false}
use Rattle.ratio_decimal.proofs.rounding_rule.rounded.Goals as goal

pub goes_up-requires-clause-part : goal.goes_up-requires-clause-part
goes_up-requires-clause-part g c =
    let v = g.T.Integer.value in
    let floor : IsDivided (v c.args.n) (v c.args.d) (v c.div_mod_floor-floor.result.0) (v c.div_mod_floor-floor.result.1) = from_floored _ _ _ _ c.requires.positive c.div_mod_floor-floor.ensures in
    part_of_rest _ _ _ _ _ floor.rest c.requires.some c.multiple_over-part.ensures

pub next-requires-clause-part : goal.next-requires-clause-part
next-requires-clause-part g c =
    let v = g.T.Integer.value in
    let floor : IsDivided (v c.args.n) (v c.args.d) (v c.div_mod_floor-floor.result.0) (v c.div_mod_floor-floor.result.1) = from_floored _ _ _ _ c.requires.positive c.div_mod_floor-floor.ensures in
    part_of_rest _ _ _ _ _ floor.rest c.requires.some c.multiple_over-part.ensures

pub next-requires-clause-room : goal.next-requires-clause-room
next-requires-clause-room g c =
    let v = g.T.Integer.value in
    let floor : IsDivided (v c.args.n) (v c.args.d) (v c.div_mod_floor-floor.result.0) (v c.div_mod_floor-floor.result.1) = from_floored _ _ _ _ c.requires.positive c.div_mod_floor-floor.ensures in
    let below = part_of_rest _ _ _ _ _ floor.rest c.requires.some c.multiple_over-part.ensures in
    let all = multiple_divided _ _ _ _ _ _ _ floor c.multiple_over-part.ensures in
    let left = some_rest _ _ _ _ all c.args.rule (c.goes_up.ensures.0 c.if-goes_up.true) in
    after_floor_held _ _ (v c.args.n) (v c.args.d) _ _ g.met.T.Integer.range_law c.both_held.ensures.first c.held-2.ensures.range floor
    (rest_of_multiple _ _ _ _ _ floor.rest c.multiple_over-part.ensures below left)

pub returns-then-goes_up-clause-rounded : goal.returns-then-goes_up-clause-rounded
returns-then-goes_up-clause-rounded g c =
    let v = g.T.Integer.value in
    let floor : IsDivided (v c.args.n) (v c.args.d) (v c.div_mod_floor-floor.result.0) (v c.div_mod_floor-floor.result.1) = from_floored _ _ _ _ c.requires.positive c.div_mod_floor-floor.ensures in
    let all = multiple_divided _ _ _ _ _ _ _ floor c.multiple_over-part.ensures in
    subst (IsRoundedBy c.args.rule (v c.args.n *ℤ v c.args.parts) (v c.args.d)) (sym c.next.ensures.next) (rises _ _ _ _ all c.args.rule (c.goes_up.ensures.0 c.if-goes_up.true))

pub returns-else-goes_up-clause-part : goal.returns-else-goes_up-clause-part
returns-else-goes_up-clause-part g c =
    let v = g.T.Integer.value in
    let floor : IsDivided (v c.args.n) (v c.args.d) (v c.div_mod_floor-floor.result.0) (v c.div_mod_floor-floor.result.1) = from_floored _ _ _ _ c.requires.positive c.div_mod_floor-floor.ensures in
    part_of_rest _ _ _ _ _ floor.rest c.requires.some c.multiple_over-part.ensures

pub returns-else-goes_up-clause-rounded : goal.returns-else-goes_up-clause-rounded
returns-else-goes_up-clause-rounded g c =
    let v = g.T.Integer.value in
    let floor : IsDivided (v c.args.n) (v c.args.d) (v c.div_mod_floor-floor.result.0) (v c.div_mod_floor-floor.result.1) = from_floored _ _ _ _ c.requires.positive c.div_mod_floor-floor.ensures in
    let all = multiple_divided _ _ _ _ _ _ _ floor c.multiple_over-part.ensures in
    stays _ _ _ _ all c.args.rule (if_false _ c.goes_up.ensures c.if-goes_up.false)
