use Rattle.std.proofs.Common.{arith, rules}
use Rattle.std.specs.Prelude.{◌↔◌, ◌<ℤ◌, ◌*ℤ◌, ℤ, IsTrue}
use Rattle.std.proofs.lemmas.Int.{ints, to_z-of_z}
use lib.Signed.{lt_z}
use mir.Syntax.{w128, w64}
use mir.Val.{SFits}
use Rattle.ratio_uses.proofs.BeatLemmas.{product_fits, wide_fits}
use Rattle.ratio_uses.proofs.beats.is_before.Goals as goal

less_told : (x y : ℤ) → IsTrue (lt_z x y) ↔ (x <ℤ y)
less_told x y = (λ told. grind (arith, ints), λ less. grind (arith, ints))

pub returns : goal.returns
returns c =
    let x = c.args.first in
    let y = c.args.second in
    let top : SFits w64 c.args.first.0 = search rules in
    let bottom : SFits w64 c.args.first.1 = search rules in
    let top-2 : SFits w64 c.args.second.0 = search rules in
    let bottom-2 : SFits w64 c.args.second.1 = search rules in
    let top_wide : SFits w128 c.args.first.0 = wide_fits _ top in
    let bottom_wide : SFits w128 c.args.first.1 = wide_fits _ bottom in
    let top_wide-2 : SFits w128 c.args.second.0 = wide_fits _ top-2 in
    let bottom_wide-2 : SFits w128 c.args.second.1 = wide_fits _ bottom-2 in
    let left : SFits w128 (c.args.first.0 *ℤ c.args.second.1) = product_fits _ _ top bottom-2 in
    let right : SFits w128 (c.args.second.0 *ℤ c.args.first.1) = product_fits _ _ top-2 bottom in
    simp to_z-of_z (less_told (c.args.first.0 *ℤ c.args.second.1) (c.args.second.0 *ℤ c.args.first.1))
