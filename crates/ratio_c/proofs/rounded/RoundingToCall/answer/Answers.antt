use Rattle.std.proofs.Common.{◌∙◌, ap, subst, sym}
use Rattle.std.specs.Prelude.{◌≡◌, ◌≤ℤ◌, ◌<ℤ◌, ◌<◌, ℤ, ℕ, pos}
use Rattle.ratio_c.specs.Crossing.{rule_of}
use Rattle.ratio_c.proofs.Cases.{where_held}
use Rattle.ratio_c.proofs.Multiples.{rounded_said}
use Rattle.ratio_c.proofs.rounded.RoundingToCall.answer.Goals as goal

pub returns-in-Some-options : goal.returns-in-Some-options
returns-in-Some-options g c =
    let v = g.F.Inside.Integer.value in
    let one = c.in-Some.ensures in
    let chosen = c.in-Some-options.ensures in
    let parts : pos 0 <ℤ g.F.Parted.parts c.args.x.now = subst (λ (z : ℤ). pos 0 <ℤ z) c.parts-parts.ensures chosen.0 in
    let few : g.F.Ruled.rule c.args.x.now < 6 = subst (λ (k : ℕ). k < 6) c.rule.ensures chosen.1 in
    rw (sym one.1) (where_held one.0 (where_held parts (where_held few
    (rounded_said (λ r. v r.0) (λ r. v r.1) g.F.Inside.Integer.lo g.F.Inside.Integer.hi _ _ _ _ _ _ c.round_to.result _ (chosen.2 ∙ ap rule_of c.rule.ensures) c.parts-parts.ensures c.round_to.ensures c.checked.ensures))))
