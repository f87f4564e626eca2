use Rattle.std.proofs.Common.{inr, rules}
use Rattle.std.specs.Prelude.{◌<◌, length}
use Rattle.std.proofs.lemmas.Int.{to_z-of_z}
use mir.Syntax.{w64}
use mir.Val.{SFits}
use Rattle.ratio_uses.proofs.BeatLemmas.{earliest_begins, earliest_ends, earliest_kept, earliest_moved, earliest_told, not_before, numbers_fit, up_to_itself, voice_out}
use Rattle.ratio_uses.proofs.beats.earliest.Goals as goal
use Rattle.ratio_uses.proofs.beats.earliest.Goals.{else-is_before, then-is_before}

pub loop-i-init : goal.loop-i-init
loop-i-init c =
    let count_fits : SFits w64 c.index-voices-0.result.count = search rules in
    let within : 0 < length c.args.voices.now = search rules in
    let beat = simp to_z-of_z at c.in_ok-time.ensures in
    let v = c.index-voices-0.result in
    let time = c.in_ok-time.time in
    let begun = earliest_begins c.args.voices.now 0 v within c.index-voices-0.is time beat.3 in
    record {
      first = earliest_kept c.args.voices.now 0 v within c.index-voices-0.is time beat.3 time begun beat.1 beat.2 beat.2 v.period.lowest.positive (up_to_itself time);
      up = beat.2;
    }

pub returns-in_err-next : goal.returns-in_err-next
returns-in_err-next c =
    let count_fits : SFits w64 c.index-voices-i.result.count = search rules in
    rw c.from_residual-in_err-next.ensures (inr (voice_out c.args.voices.now c.loop-i.i c.index-voices-i.result c.loop-i-test.true c.index-voices-i.is (simp to_z-of_z at c.in_err-next.ensures)))

pub loop-i-preserved : goal.loop-i-preserved
loop-i-preserved c =
    let count_fits : SFits w64 c.index-voices-i.result.count = search rules in
    let beat = simp to_z-of_z at c.in_ok-next.ensures in
    let v = c.index-voices-i.result in
    let next = c.in_ok-next.next in
    let time = c.loop-i.time in
    let so_far = c.loop-i.invariant in
    elim c.if-is_before.branch [
      | then-is_before w ↦ rw w.time-is record {
        first = earliest_moved c.args.voices.now c.loop-i.i v c.loop-i-test.true c.index-voices-i.is next beat.3 time so_far.first beat.1 so_far.up beat.2 (λ voice. voice.period.lowest.positive) (c.is_before.ensures.0 w.if-is_before.true);
        up = beat.2;
      }
      | else-is_before w ↦ rw w.time-is record {
        first = earliest_kept c.args.voices.now c.loop-i.i v c.loop-i-test.true c.index-voices-i.is next beat.3 time so_far.first beat.1 so_far.up beat.2 v.period.lowest.positive (not_before next time _ c.is_before.ensures w.if-is_before.false);
        up = so_far.up;
      }
    ]

pub returns : goal.returns
returns c =
    let top_fits : SFits w64 c.loop-i.time.0 = search rules in
    let bottom_fits : SFits w64 c.loop-i.time.1 = search rules in
    let up = c.loop-i.invariant.up in
    earliest_told c.args.voices.now c.loop-i.time c.checked_new.result (numbers_fit _ _ top_fits bottom_fits up) up (λ v. v.period.lowest.positive) (earliest_ends c.args.voices.now c.loop-i.i c.loop-i.time c.loop-i-test.false c.loop-i.invariant.first) (simp to_z-of_z at c.checked_new.ensures)
