use Rattle.std.specs.Prelude.{◌≡◌, ◌*ℤ◌, ℤ, pos}
use Rattle.std.proofs.Common.{ap, arith, sym, ◌∙◌}
use lib.IntN.{*ℤ-one, one}
use Rattle.std.proofs.lemmas.Int.{ints}
use Rattle.ratio_core.specs.Parts.{IsDivided}
use Rattle.ratio_core.proofs.PartLemmas.{from_floored}
use Rattle.ratio_decimal.proofs.ProductLemmas.{whole_is_rounded}
use Rattle.ratio_decimal.proofs.QuotientLemmas.{in_ones, next_is_held}
use Rattle.ratio_decimal.proofs.SideLemmas.{rounded_at}
use Rattle.ratio_decimal.proofs.rounding_rule.rounded_whole.Goals as goal

pub side_of-requires : goal.side_of-requires
side_of-requires g c = (from_floored _ _ _ _ c.requires c.div_mod_floor-floor.ensures).rest

pub takes_next-up-requires : goal.takes_next-up-requires
takes_next-up-requires g c =
    let v = g.T.Integer.value in
    let one : v c.ONE.result ≡ pos 1 = ap v c.ONE.ensures ∙ g.met.T.Integer.one_law in
    let zero : v c.ZERO.result ≡ pos 0 = ap v c.ZERO.ensures ∙ g.met.T.Integer.zero_law in
    record { above = omega (arith, ints); below = omega (arith, ints) }

pub carried_on-whole-requires : goal.carried_on-whole-requires
carried_on-whole-requires g c =
    let v = g.T.Integer.value in
    let one : v c.ONE.result ≡ pos 1 = ap v c.ONE.ensures ∙ g.met.T.Integer.one_law in
    let zero : v c.ZERO.result ≡ pos 0 = ap v c.ZERO.ensures ∙ g.met.T.Integer.zero_law in
    let is : IsDivided (v c.args.n) (v c.args.d) (v c.div_mod_floor-floor.result.0) (v c.div_mod_floor-floor.result.1) = from_floored _ _ _ _ c.requires c.div_mod_floor-floor.ensures in
    next_is_held _ _ (v c.args.n) (v c.args.d) (v c.div_mod_floor-floor.result.0) (v c.div_mod_floor-floor.result.1) c.args.rule c.side_of.result c.takes_next-up.result g.met.T.Integer.range_law c.both_held.ensures.first c.held.ensures.range is c.side_of.ensures
    (rw (in_ones (v c.div_mod_floor-floor.result.0) (v c.ONE.result) (v c.ZERO.result) one zero) at c.takes_next-up.ensures)

pub returns-clause-rounded : goal.returns-clause-rounded
returns-clause-rounded g c =
    let v = g.T.Integer.value in
    let one : v c.ONE.result ≡ pos 1 = ap v c.ONE.ensures ∙ g.met.T.Integer.one_law in
    let zero : v c.ZERO.result ≡ pos 0 = ap v c.ZERO.ensures ∙ g.met.T.Integer.zero_law in
    let is : IsDivided (v c.args.n) (v c.args.d) (v c.div_mod_floor-floor.result.0) (v c.div_mod_floor-floor.result.1) = from_floored _ _ _ _ c.requires c.div_mod_floor-floor.ensures in
    rw c.carried_on-whole.ensures (rounded_at c.args.rule (v c.args.n) (v c.args.d) (v c.div_mod_floor-floor.result.0) (v c.div_mod_floor-floor.result.1) c.side_of.result c.takes_next-up.result is c.side_of.ensures
    (rw (in_ones (v c.div_mod_floor-floor.result.0) (v c.ONE.result) (v c.ZERO.result) one zero) at c.takes_next-up.ensures))

pub returns-then-is_one-clause-rounded : goal.returns-then-is_one-clause-rounded
unfolding one
returns-then-is_one-clause-rounded g c =
    let v = g.T.Integer.value in
    let same : v c.args.n ≡ v c.args.n *ℤ v c.args.d = sym (ap (λ (t : ℤ). v c.args.n *ℤ t) (c.is_one.ensures.0 c.if-is_one.true) ∙ *ℤ-one (v c.args.n)) in
    whole_is_rounded c.args.rule (v c.args.n) (v c.args.d) (v c.args.n) c.requires same
