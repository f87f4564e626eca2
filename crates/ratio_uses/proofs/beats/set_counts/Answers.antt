use Rattle.std.proofs.Common.{ap, arith, rules, subst, sym}
use Rattle.std.specs.Prelude.{◌<◌, length}
use Rattle.std.proofs.lemmas.Int.{to_z-of_z}
use mir.Syntax.{w64}
use mir.Val.{SFits}
use Rattle.num_rational.specs.Reduced.{lowest_numbers}
use Rattle.ratio_uses.specs.Beats.{CountIsHeld, period_of}
use Rattle.ratio_uses.specs.declared.beats.Voice.{Voice}
use Rattle.ratio_uses.proofs.BeatLemmas.{IsStarted, changed_begins, changed_more, count_some, starts_each}
use Rattle.ratio_uses.proofs.beats.set_counts.Goals as goal

pub loop-voice-init : goal.loop-voice-init
loop-voice-init c = changed_begins (IsStarted (lowest_numbers c.args.time.now)) c.args.voices.now

pub unwrap-voice-requires : goal.unwrap-voice-requires
unwrap-voice-requires c =
    count_some _ _ _ c.count_at.ensures
    (subst (λ (v : Voice). CountIsHeld (lowest_numbers c.args.time.now) (period_of v)) (sym (c.loop-voice.invariant.rest c.loop-voice.voice-index c.voice-item.result (omega arith))) (c.requires c.loop-voice.voice-index c.voice-item.result c.loop-voice-test.true))

pub loop-voice-preserved : goal.loop-voice-preserved
loop-voice-preserved c =
    let fits : SFits w64 c.unwrap-voice.result = search rules in
    let is = c.voice-item.is in
    let within : c.loop-voice.voice-index < length c.loop-voice.voices = omega (arith, c.loop-voice-test.true, c.loop-voice.auto.voices) in
    let had = rw c.unwrap-voice.ensures at c.count_at.ensures in
    simp to_z-of_z (changed_more (IsStarted (lowest_numbers c.args.time.now)) c.args.voices.now c.loop-voice.voices c.loop-voice.voice-index c.voice-item.result _ within c.loop-voice.invariant is (ap (λ (v : Voice). v.period) (sym is), had.0))

pub returns : goal.returns
returns c = starts_each (lowest_numbers c.args.time.now) c.args.voices.now c.loop-voice.voices c.loop-voice.voice-index (omega (arith, c.loop-voice-test.false, c.loop-voice.auto.voices)) c.loop-voice.invariant
