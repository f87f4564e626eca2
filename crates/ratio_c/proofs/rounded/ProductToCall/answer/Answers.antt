use Rattle.std.proofs.Common.{◌∙◌, ap, subst, sym}
use Rattle.std.specs.Prelude.{◌≡◌, ◌≤ℤ◌, ◌<ℤ◌, ◌<◌, ℤ, ℕ, pos}
use Rattle.ratio_c.specs.Crossing.{rule_of}
use Rattle.ratio_c.proofs.Cases.{where_held}
use Rattle.ratio_c.proofs.Multiples.{rounded_said}
use Rattle.ratio_c.proofs.rounded.ProductToCall.answer.Goals as goal

pub returns-in-Some-options : goal.returns-in-Some-options
returns-in-Some-options g c =
    let v = g.P.Inside.Integer.value in
    let both = c.in-Some.ensures in
    let chosen = c.in-Some-options.ensures in
    let parts : pos 0 <ℤ g.P.PartedPair.parts c.args.pair.now = subst (λ (z : ℤ). pos 0 <ℤ z) c.parts-parts.ensures chosen.0 in
    let few : g.P.RuledPair.rule c.args.pair.now < 6 = subst (λ (k : ℕ). k < 6) c.rule.ensures chosen.1 in
    rw (sym both.1, sym both.2) (where_held both.0 (where_held parts (where_held few
    (rounded_said (λ r. v r.0) (λ r. v r.1) g.P.Inside.Integer.lo g.P.Inside.Integer.hi _ _ _ _ _ _ c.rounded_product_to.result _ (chosen.2 ∙ ap rule_of c.rule.ensures) c.parts-parts.ensures c.rounded_product_to.ensures c.checked.ensures))))
