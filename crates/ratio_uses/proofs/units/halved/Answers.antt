use Rattle.std.proofs.Common.{arith, rules}
use Rattle.std.specs.Prelude.{◌-◌, ◌^◌, ◌≤ℤ◌, ◌*ℤ◌, pos}
use Rattle.std.proofs.lemmas.Int.{ints}
use mir.Syntax.{w64}
use mir.Val.{SFits}
use Rattle.ratio_integer.specs.SignedBits.{greatest64}
use Rattle.ratio_integer.proofs.LowestTerms.{lowest_own}
use Rattle.num_rational.specs.Reduced.{lowest_numbers}
use Rattle.ratio_uses.proofs.OctaveLemmas.{answered, half_fits, halved_more, halving_nearer, no_halving}
use Rattle.ratio_uses.proofs.units.halved.Goals as goal

pub loop-pitch-init : goal.loop-pitch-init
loop-pitch-init c = no_halving _ (lowest_own _ _ c.args.interval.now.lowest) c.requires

pub returns-clause-below_two : goal.returns-clause-below_two
returns-clause-below_two c =
    let numer_fits : SFits w64 c.numer.result.now = search rules in
    let denom_fits : SFits w64 c.denom.result.now = search rules in
    let again_fits : SFits w64 c.denom-in-loop-pitch.result.now = search rules in
    let up = c.loop-pitch.pitch.lowest.positive in
    let at_least = c.loop-pitch.invariant.at_least_one in
    grind (arith, ints, c.numer.ensures.value, c.denom.ensures.value, c.denom-in-loop-pitch.ensures.value, c.loop-pitch-test.false)

pub unwrap-pitch-requires : goal.unwrap-pitch-requires
unwrap-pitch-requires c =
    let numer_fits : SFits w64 c.numer.result.now = search rules in
    let denom_fits : SFits w64 c.denom.result.now = search rules in
    let again_fits : SFits w64 c.denom-in-loop-pitch.result.now = search rules in
    let up = c.loop-pitch.pitch.lowest.positive in
    let at_least = c.loop-pitch.invariant.at_least_one in
    let least : (pos 2 *ℤ (lowest_numbers c.loop-pitch.pitch).1) ≤ℤ (lowest_numbers c.loop-pitch.pitch).0 = grind (arith, ints, c.numer.ensures.value, c.denom.ensures.value, c.denom-in-loop-pitch.ensures.value, c.loop-pitch-test.true) in
    let held : (lowest_numbers c.loop-pitch.pitch).0 ≤ℤ greatest64 = grind (arith, ints, c.numer.ensures.value) in
    answered _ _ (half_fits (2 ^ 63 - 1) (lowest_numbers c.loop-pitch.pitch) up least held) c.checked_div.ensures

pub loop-pitch-smaller : goal.loop-pitch-smaller
loop-pitch-smaller c =
    let numer_fits : SFits w64 c.numer.result.now = search rules in
    let denom_fits : SFits w64 c.denom.result.now = search rules in
    let again_fits : SFits w64 c.denom-in-loop-pitch.result.now = search rules in
    let up = c.loop-pitch.pitch.lowest.positive in
    let at_least = c.loop-pitch.invariant.at_least_one in
    let least : (pos 2 *ℤ (lowest_numbers c.loop-pitch.pitch).1) ≤ℤ (lowest_numbers c.loop-pitch.pitch).0 = grind (arith, ints, c.numer.ensures.value, c.denom.ensures.value, c.denom-in-loop-pitch.ensures.value, c.loop-pitch-test.true) in
    let next = rw c.unwrap-pitch.ensures at c.checked_div.ensures in
    halving_nearer (lowest_numbers c.loop-pitch.pitch) (lowest_numbers c.unwrap-pitch.result) up least next.terms

pub loop-pitch-preserved : goal.loop-pitch-preserved
loop-pitch-preserved c =
    let numer_fits : SFits w64 c.numer.result.now = search rules in
    let denom_fits : SFits w64 c.denom.result.now = search rules in
    let again_fits : SFits w64 c.denom-in-loop-pitch.result.now = search rules in
    let up = c.loop-pitch.pitch.lowest.positive in
    let at_least = c.loop-pitch.invariant.at_least_one in
    let least : (pos 2 *ℤ (lowest_numbers c.loop-pitch.pitch).1) ≤ℤ (lowest_numbers c.loop-pitch.pitch).0 = grind (arith, ints, c.numer.ensures.value, c.denom.ensures.value, c.denom-in-loop-pitch.ensures.value, c.loop-pitch-test.true) in
    let next = rw c.unwrap-pitch.ensures at c.checked_div.ensures in
    halved_more _ _ _ c.loop-pitch.invariant least next.terms
