use Rattle.std.proofs.Common.{◌∙◌}
use Rattle.std.proofs.lemmas.Int.{to_z-of_z}
use mir.Syntax.{w64}
use mir.Val.{SFits}
use Rattle.num_rational.specs.Reduced.{lowest_numbers}
use Rattle.ratio_uses.proofs.BeatLemmas.{beat_is, count_out, time_out, fits_next}
use Rattle.ratio_uses.proofs.beats.beat_after.Goals as goal

pub returns-in_err-next : goal.returns-in_err-next
returns-in_err-next c =
    let count_fits : SFits w64 c.args.count = c.ranges.count in
    rw c.from_residual.ensures (count_out (lowest_numbers c.args.period.now) c.args.count (simp to_z-of_z at c.in_err-next.ensures))

pub returns-in_err-checked_mul : goal.returns-in_err-checked_mul
returns-in_err-checked_mul c =
    let count_fits : SFits w64 c.args.count = c.ranges.count in
    let next = simp to_z-of_z at c.in_ok-next.ensures in
    let next_fits : SFits w64 c.in_ok-next.next = fits_next c.in_ok-next.next c.args.count next.0 next.1 in
    rw c.from_residual-in_err-checked_mul.ensures (time_out (lowest_numbers c.args.period.now) c.in_ok-next.next c.args.count next.1 (rw (to_z-of_z w64 c.in_ok-next.next next_fits) at c.in_err-checked_mul.ensures))

pub returns : goal.returns
returns c =
    let count_fits : SFits w64 c.args.count = c.ranges.count in
    let next = simp to_z-of_z at c.in_ok-next.ensures in
    let next_fits : SFits w64 c.in_ok-next.next = fits_next c.in_ok-next.next c.args.count next.0 next.1 in
    let beat = beat_is (lowest_numbers c.args.period.now) c.in_ok-next.next c.args.count (lowest_numbers c.in_ok-checked_mul.field-0) next.0 next.1 (rw (to_z-of_z w64 c.in_ok-next.next next_fits) at c.in_ok-checked_mul.ensures) in
    (to_z-of_z w64 c.in_ok-next.next next_fits ∙ next.1, beat.0, beat.1)
