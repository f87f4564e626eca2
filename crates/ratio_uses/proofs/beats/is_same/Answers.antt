use Rattle.std.proofs.Common.{◌∙◌, ap, rules, sym}
use Rattle.std.specs.Prelude.{◌↔◌, ◌≡◌, ◌*ℤ◌, ℤ, IsTrue, nat_eq}
use Rattle.std.proofs.lemmas.Int.{to_z-of_z}
use Rattle.std.proofs.lemmas.Bool.Decides.{Decides-eqb}
use mir.Syntax.{w128, w64}
use mir.Val.{SFits, of_z, to_z}
use Rattle.ratio_uses.proofs.BeatLemmas.{product_fits, wide_fits}
use Rattle.ratio_uses.proofs.beats.is_same.Goals as goal

same_told : (x y : ℤ) → SFits w128 x → SFits w128 y → IsTrue (nat_eq (of_z w128 x) (of_z w128 y)) ↔ (x ≡ y)
same_told x y x_fits y_fits = (λ told. sym (to_z-of_z w128 x x_fits) ∙ ap (to_z w128) ((Decides-eqb (of_z w128 x) (of_z w128 y)).0 told) ∙ to_z-of_z w128 y y_fits, λ same. (Decides-eqb (of_z w128 x) (of_z w128 y)).1 (ap (of_z w128) same))

pub returns : goal.returns
returns c =
    let x = c.args.first in
    let y = c.args.second in
    let top : SFits w64 c.args.first.0 = search rules in
    let bottom : SFits w64 c.args.first.1 = search rules in
    let top-2 : SFits w64 c.args.second.0 = search rules in
    let bottom-2 : SFits w64 c.args.second.1 = search rules in
    let top_wide : SFits w128 c.args.first.0 = wide_fits _ top in
    let bottom_wide : SFits w128 c.args.first.1 = wide_fits _ bottom in
    let top_wide-2 : SFits w128 c.args.second.0 = wide_fits _ top-2 in
    let bottom_wide-2 : SFits w128 c.args.second.1 = wide_fits _ bottom-2 in
    let left : SFits w128 (c.args.first.0 *ℤ c.args.second.1) = product_fits _ _ top bottom-2 in
    let right : SFits w128 (c.args.second.0 *ℤ c.args.first.1) = product_fits _ _ top-2 bottom in
    simp to_z-of_z (same_told (c.args.first.0 *ℤ c.args.second.1) (c.args.second.0 *ℤ c.args.first.1) left right)
