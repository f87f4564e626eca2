use Rattle.std.proofs.Common.{arith, rules, pos}
use Rattle.std.specs.Prelude.{◌≡◌, ◌≤ℤ◌, ◌<ℤ◌, ◌*ℤ◌, ℤ, false}
use lib.Signed.{lt_z}
use Rattle.std.proofs.lemmas.Int.{ints, to_z-of_z}
use mir.Syntax.{w64, w128}
use mir.Val.{SFits}
use Rattle.ratio_integer.proofs.Whole.{mul_positive}
use Rattle.num_rational.specs.Reduced.{lowest_numbers}
use Rattle.ratio_uses.proofs.BeatLemmas.{count_answers, floor_had, no_period, product_fits, wide_fits}
use Rattle.ratio_uses.proofs.beats.count_at.Goals as goal

above_zero : (z : ℤ) → lt_z z (pos 1) ≡ false → pos 0 <ℤ z
above_zero z is = grind (arith, ints)

pub returns-then-numer-lt1 : goal.returns-then-numer-lt1
returns-then-numer-lt1 c =
    let numer_fits : SFits w64 c.into_raw-numer.result.0 = search rules in
    let low : (lowest_numbers c.args.period.now).0 ≤ℤ pos 0 = grind (arith, ints, c.into_raw-numer.ensures.numer, c.if-numer-lt1.true) in
    no_period (lowest_numbers c.args.time.now) (lowest_numbers c.args.period.now) low c.args.time.now.lowest.positive c.args.period.now.lowest.positive

pub floor-requires : goal.floor-requires
floor-requires c =
    let numer_fits : SFits w64 c.into_raw-numer.result.0 = search rules in
    let bottom_fits : SFits w64 c.into_raw-top.result.1 = search rules in
    let numer_wide : SFits w128 c.into_raw-numer.result.0 = wide_fits _ numer_fits in
    let bottom_wide : SFits w128 c.into_raw-top.result.1 = wide_fits _ bottom_fits in
    let product_wide : SFits w128 (c.into_raw-top.result.1 *ℤ c.into_raw-numer.result.0) = product_fits _ _ bottom_fits numer_fits in
    let above = above_zero c.into_raw-numer.result.0 (simp to_z-of_z at c.if-numer-lt1.false) in
    let up : pos 0 <ℤ c.into_raw-top.result.1 = rw c.into_raw-top.ensures.denom c.args.time.now.lowest.positive in
    simp to_z-of_z (mul_positive _ _ up above)

pub returns : goal.returns
returns c =
    let numer_fits : SFits w64 c.into_raw-numer.result.0 = search rules in
    let some = above_zero c.into_raw-numer.result.0 (simp to_z-of_z at c.if-numer-lt1.false) in
    let denom_fits : SFits w64 c.into_raw-numer.result.1 = search rules in
    let top_fits : SFits w64 c.into_raw-top.result.0 = search rules in
    let bottom_fits : SFits w64 c.into_raw-top.result.1 = search rules in
    let floor_fits : SFits w128 c.floor.result = search rules in
    let numer_wide : SFits w128 c.into_raw-numer.result.0 = wide_fits _ numer_fits in
    let denom_wide : SFits w128 c.into_raw-numer.result.1 = wide_fits _ denom_fits in
    let top_wide : SFits w128 c.into_raw-top.result.0 = wide_fits _ top_fits in
    let bottom_wide : SFits w128 c.into_raw-top.result.1 = wide_fits _ bottom_fits in
    let part_wide : SFits w128 (c.into_raw-top.result.0 *ℤ c.into_raw-numer.result.1) = product_fits _ _ top_fits denom_fits in
    let whole_wide : SFits w128 (c.into_raw-top.result.1 *ℤ c.into_raw-numer.result.0) = product_fits _ _ bottom_fits numer_fits in
    let t = lowest_numbers c.args.time.now in
    let p = lowest_numbers c.args.period.now in
    let above = rw c.into_raw-numer.ensures.numer at some in
    let floor = rw (c.into_raw-top.ensures.numer, c.into_raw-numer.ensures.denom, c.into_raw-top.ensures.denom, c.into_raw-numer.ensures.numer) at (simp to_z-of_z at c.floor.ensures) in
    rw c.ok.ensures.value (count_answers t p c.floor.result c.try_from.result (mul_positive t.1 p.0 c.args.time.now.lowest.positive above) (floor_had t p c.floor.result floor) (simp to_z-of_z at c.try_from.ensures))
