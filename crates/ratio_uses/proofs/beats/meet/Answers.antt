use Rattle.std.proofs.Common.{arith, pos, rules, subst, sym}
use Rattle.std.specs.Prelude.{◌<◌, ◌-◌, ◌^◌, ◌≡◌, ◌≤ℤ◌, ◌<ℤ◌, length}
use Rattle.std.proofs.lemmas.Int.{ints}
use mir.Syntax.{w64}
use mir.Val.{SFits}
use Rattle.ratio_integer.specs.SignedBits.{least64}
use Rattle.num_rational.specs.Reduced.{lowest_numbers}
use Rattle.ratio_uses.specs.Beats.{period_of}
use Rattle.ratio_uses.specs.declared.beats.Voice.{Voice}
use Rattle.ratio_uses.proofs.BeatLemmas.{number_held}
use Rattle.ratio_uses.proofs.MeetLemmas.{MeetSoFar, meet_begins, meet_ends, meet_more, meet_out, never_meet, no_voices}
use Rattle.ratio_uses.proofs.beats.meet.Goals as goal

pub returns-then-is_empty : goal.returns-then-is_empty
returns-then-is_empty c =
    let none : length c.args.voices.now ≡ 0 = search rules in
    λ time up meeting fits. no_voices c.args.voices.now none time up meeting

pub returns-then-numer-lt1 : goal.returns-then-numer-lt1
returns-then-numer-lt1 c =
    let within : 0 < length c.args.voices.now = search rules in
    let numer_fits : SFits w64 c.numer.result.now = search rules in
    let first = rw (sym c.index-voices-0.is) at c.numer.ensures.value in
    let low : (period_of c.index-voices-0.result).0 ≤ℤ pos 0 = grind (arith, ints, first, c.if-numer-lt1.true) in
    λ time up meeting fits. never_meet c.args.voices.now 0 c.index-voices-0.result within c.index-voices-0.is c.index-voices-0.result.period.lowest.positive low time up meeting

pub loop-voice-init : goal.loop-voice-init
loop-voice-init c =
    let within : 0 < length c.args.voices.now = search rules in
    let numer_fits : SFits w64 c.numer.result.now = search rules in
    let first = rw (sym c.index-voices-0.is) at c.numer.ensures.value in
    let above : pos 0 <ℤ (period_of c.index-voices-0.result).0 = grind (arith, ints, first, c.if-numer-lt1.false) in
    subst (λ (v : Voice). MeetSoFar c.args.voices.now 0 (period_of v)) c.index-voices-0.is (meet_begins c.args.voices.now 0 c.index-voices-0.result within c.index-voices-0.is above)

pub returns-then-numer-lt1-2 : goal.returns-then-numer-lt1-2
returns-then-numer-lt1-2 c =
    let numer_fits : SFits w64 c.into_raw-numer.result.0 = search rules in
    let low : (period_of c.voice-item.result).0 ≤ℤ pos 0 = grind (arith, ints, c.into_raw-numer.ensures.numer, c.if-numer-lt1-2.true) in
    λ time up meeting fits. never_meet c.args.voices.now c.loop-voice.voice-index c.voice-item.result c.loop-voice-test.true c.voice-item.is c.voice-item.result.period.lowest.positive low time up meeting

pub returns-in_err-time : goal.returns-in_err-time
returns-in_err-time c =
    let numer_fits : SFits w64 c.into_raw-numer.result.0 = search rules in
    let above : pos 0 <ℤ (period_of c.voice-item.result).0 = grind (arith, ints, c.into_raw-numer.ensures.numer, c.if-numer-lt1-2.false) in
    let denom_fits : SFits w64 c.into_raw-numer.result.1 = search rules in
    rw c.from_residual.ensures (meet_out c.args.voices.now c.loop-voice.voice-index c.voice-item.result c.loop-voice-test.true c.voice-item.is (lowest_numbers c.loop-voice.time) c.loop-voice.invariant c.loop-voice.time.lowest c.voice-item.result.period.lowest above
    (2 ^ 63 - 1) least64 (omega (arith, ints)) (rw c.into_raw-numer.ensures.denom at (number_held _ denom_fits)) c.in_err-time.ensures)

pub loop-voice-preserved : goal.loop-voice-preserved
loop-voice-preserved c =
    let numer_fits : SFits w64 c.into_raw-numer.result.0 = search rules in
    let above : pos 0 <ℤ (period_of c.voice-item.result).0 = grind (arith, ints, c.into_raw-numer.ensures.numer, c.if-numer-lt1-2.false) in
    meet_more c.args.voices.now c.loop-voice.voice-index c.voice-item.result c.loop-voice-test.true c.voice-item.is (lowest_numbers c.loop-voice.time) c.loop-voice.invariant c.loop-voice.time.lowest c.voice-item.result.period.lowest above
    (lowest_numbers c.in_ok-time.time) c.in_ok-time.ensures.pair (λ v. v.period.lowest.positive)

pub returns : goal.returns
returns c = meet_ends c.args.voices.now c.loop-voice.voice-index (lowest_numbers c.loop-voice.time) c.loop-voice-test.false c.loop-voice.time.lowest.positive c.loop-voice.invariant
