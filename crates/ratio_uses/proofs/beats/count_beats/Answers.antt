use Rattle.std.proofs.Common.{ap, arith, rules, subst, sym}
use Rattle.std.specs.Prelude.{◌<◌, length}
use Rattle.std.proofs.lemmas.Int.{to_z-of_z}
use mir.Syntax.{w64}
use mir.Val.{SFits}
use Rattle.num_rational.specs.Reduced.{lowest_numbers}
use Rattle.ratio_uses.specs.Beats.{CountsBeat}
use Rattle.ratio_uses.specs.declared.beats.Voice.{Voice}
use Rattle.ratio_uses.proofs.BeatLemmas.{IsCounted, changed_begins, changed_more, counts_each}
use Rattle.ratio_uses.proofs.beats.count_beats.Goals as goal

pub loop-voice-init : goal.loop-voice-init
loop-voice-init c = changed_begins (IsCounted (lowest_numbers c.args.time.now)) c.args.voices.now

pub count_after-voice-requires-clause-held : goal.count_after-voice-requires-clause-held
count_after-voice-requires-clause-held c =
    rw (c.loop-voice.invariant.rest c.loop-voice.voice-index c.voice-item.result (omega arith)) (c.requires.held c.loop-voice.voice-index c.voice-item.result c.loop-voice-test.true)

pub count_after-voice-requires-clause-up_to : goal.count_after-voice-requires-clause-up_to
count_after-voice-requires-clause-up_to c =
    rw (c.loop-voice.invariant.rest c.loop-voice.voice-index c.voice-item.result (omega arith)) (c.requires.earliest.each c.loop-voice.voice-index c.voice-item.result c.loop-voice-test.true)

pub loop-voice-preserved : goal.loop-voice-preserved
loop-voice-preserved c =
    let fits : SFits w64 c.count_after-voice.result = search rules in
    let is = c.voice-item.is in
    let within : c.loop-voice.voice-index < length c.loop-voice.voices = omega (arith, c.loop-voice-test.true, c.loop-voice.auto.voices) in
    let by = subst (λ (v : Voice). CountsBeat (lowest_numbers c.args.time.now) v c.count_after-voice.result) (sym is) c.count_after-voice.ensures in
    simp to_z-of_z (changed_more (IsCounted (lowest_numbers c.args.time.now)) c.args.voices.now c.loop-voice.voices c.loop-voice.voice-index c.voice-item.result _ within c.loop-voice.invariant is (ap (λ (v : Voice). v.period) (sym is), by))

pub returns : goal.returns
returns c = counts_each (lowest_numbers c.args.time.now) c.args.voices.now c.loop-voice.voices c.loop-voice.voice-index (omega (arith, c.loop-voice-test.false, c.loop-voice.auto.voices)) c.loop-voice.invariant
