use Rattle.std.proofs.Common.{arith, rules}
use Rattle.std.specs.Prelude.{◌<ℤ◌}
use Rattle.std.proofs.lemmas.Int.{ints}
use mir.Syntax.{w64}
use mir.Val.{SFits}
use Rattle.ratio_integer.proofs.LowestTerms.{lowest_own}
use Rattle.num_rational.specs.Reduced.{lowest_numbers}
use Rattle.ratio_uses.proofs.OctaveLemmas.{doubled_above, doubled_more, doubling_nearer, doubling_out, no_doubling}
use Rattle.ratio_uses.proofs.units.doubled.Goals as goal

pub loop-pitch-init : goal.loop-pitch-init
loop-pitch-init c = record { doubled = no_doubling _ (lowest_own _ _ c.args.interval.now.lowest); above = c.requires }

pub returns-in_err-pitch : goal.returns-in_err-pitch
returns-in_err-pitch c =
    let numer_fits : SFits w64 c.numer.result.now = search rules in
    let denom_fits : SFits w64 c.denom.result.now = search rules in
    let less : (lowest_numbers c.loop-pitch.pitch).0 <ℤ (lowest_numbers c.loop-pitch.pitch).1 = grind (arith, ints, c.numer.ensures.value, c.denom.ensures.value, c.loop-pitch-test.true) in
    rw c.from_residual.ensures (doubling_out _ _ c.args.interval.now.lowest.positive c.loop-pitch.invariant.doubled less c.in_err-pitch.ensures)

pub loop-pitch-smaller : goal.loop-pitch-smaller
loop-pitch-smaller c =
    let numer_fits : SFits w64 c.numer.result.now = search rules in
    let denom_fits : SFits w64 c.denom.result.now = search rules in
    let less : (lowest_numbers c.loop-pitch.pitch).0 <ℤ (lowest_numbers c.loop-pitch.pitch).1 = grind (arith, ints, c.numer.ensures.value, c.denom.ensures.value, c.loop-pitch-test.true) in
    doubling_nearer (lowest_numbers c.loop-pitch.pitch) (lowest_numbers c.in_ok-pitch.pitch) c.loop-pitch.invariant.above less c.in_ok-pitch.ensures.terms

pub loop-pitch-preserved : goal.loop-pitch-preserved
loop-pitch-preserved c =
    let next = c.in_ok-pitch.ensures.terms in
    record { doubled = doubled_more _ _ _ c.loop-pitch.invariant.doubled next; above = doubled_above _ _ c.loop-pitch.invariant.above c.loop-pitch.pitch.lowest.positive next }
