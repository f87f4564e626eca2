use Rattle.std.proofs.Common.{◌∙◌, ap, refl, subst, sym}
use Rattle.std.specs.Prelude.{◌≡◌, ◌≢◌, ◌≤ℤ◌, ◌<ℤ◌, ◌<◌, ℤ, ℕ, false, pos}
use Rattle.ratio_core.proofs.TestLemmas.{if_false}
use Rattle.ratio_c.specs.Crossing.{rule_of}
use Rattle.ratio_c.proofs.Cases.{where_held, where_not}
use Rattle.ratio_c.proofs.Multiples.{rounded_quotient_said}
use Rattle.ratio_c.proofs.rounded.QuotientToCall.answer.Goals as goal

pub returns-in-Some-options : goal.returns-in-Some-options
returns-in-Some-options g c =
    let both = c.in-Some.ensures in
    let chosen = c.in-Some-options.ensures in
    let parts : pos 0 <ℤ g.P.PartedPair.parts c.args.pair.now = subst (λ (z : ℤ). pos 0 <ℤ z) c.parts-parts.ensures chosen.0 in
    let few : g.P.RuledPair.rule c.args.pair.now < 6 = subst (λ (k : ℕ). k < 6) c.rule.ensures chosen.1 in
    rw (sym both.1, sym both.2) (where_held both.0 (where_held parts (where_held few (where_held (c.if-is_zero.ensures.0 refl) c.refused.ensures))))

pub returns-in-Some-2 : goal.returns-in-Some-2
returns-in-Some-2 g c =
    let v = g.P.Inside.Integer.value in
    let both = c.in-Some.ensures in
    let chosen = c.in-Some-options.ensures in
    let parts : pos 0 <ℤ g.P.PartedPair.parts c.args.pair.now = subst (λ (z : ℤ). pos 0 <ℤ z) c.parts-parts.ensures chosen.0 in
    let few : g.P.RuledPair.rule c.args.pair.now < 6 = subst (λ (k : ℕ). k < 6) c.rule.ensures chosen.1 in
    rw (sym both.1, sym both.2) (where_held both.0 (where_held parts (where_held few (where_not (if_false false c.if-is_zero.ensures refl)
    (rounded_quotient_said (λ r. v r.0) (λ r. v r.1) g.P.Inside.Integer.lo g.P.Inside.Integer.hi _ _ _ _ _ c.rounded_quotient_to.result _ (chosen.2 ∙ ap rule_of c.rule.ensures) c.parts-parts.ensures c.rounded_quotient_to.ensures c.checked.ensures)))))
