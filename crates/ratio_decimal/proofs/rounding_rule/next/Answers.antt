use Rattle.std.specs.Prelude.{◌≡◌, ◌+ℤ◌, ℤ, pos}
use Rattle.std.proofs.Common.{ap, sym, ◌∙◌}
use Rattle.ratio_decimal.proofs.RoundedLemmas.{next_carried, next_held, next_kept}
use Rattle.ratio_decimal.proofs.rounding_rule.next.Goals as goal

pub plus-part-requires : goal.plus-part-requires
plus-part-requires g c =
    let v = g.T.Integer.value in
    let m = g.met.T.Integer in
    rw (ap v c.ONE.ensures ∙ m.one_law) (next_held _ _ _ _ m.range_law c.held.ensures.range c.requires.part)

pub returns-then-eq-clause-next : goal.returns-then-eq-clause-next
returns-then-eq-clause-next g c =
    let v = g.T.Integer.value in
    let m = g.met.T.Integer in
    let one : v c.ONE.result ≡ pos 1 = ap v c.ONE.ensures ∙ m.one_law in
    let again : v c.ONE-then-eq.result ≡ pos 1 = ap v c.ONE-then-eq.ensures ∙ m.one_law in
    let all : v c.plus-part.result ≡ v c.args.parts = (m.eq_law c.plus-part.result c.args.parts).0 (sym c.eq.ensures ∙ c.if-eq.true) in
    next_carried _ _ _ _ _ (c.plus.ensures ∙ ap (λ (z : ℤ). v c.args.x.0 +ℤ z) again) (sym (c.plus-part.ensures ∙ ap (λ (z : ℤ). v c.args.x.1 +ℤ z) one) ∙ all) (ap v c.ZERO.ensures ∙ m.zero_law)

pub returns-else-eq-clause-next : goal.returns-else-eq-clause-next
returns-else-eq-clause-next g c =
    let v = g.T.Integer.value in
    let m = g.met.T.Integer in
    let one : v c.ONE.result ≡ pos 1 = ap v c.ONE.ensures ∙ m.one_law in
    next_kept (v c.args.x.0) (v c.args.parts) (v c.args.x.1) (v c.plus-part.result) (c.plus-part.ensures ∙ ap (λ (z : ℤ). v c.args.x.1 +ℤ z) one)
