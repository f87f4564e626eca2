use Rattle.std.proofs.Common.{rules}
use Rattle.std.proofs.lemmas.Int.{to_z-of_z}
use mir.Syntax.{w64}
use mir.Val.{SFits}
use Rattle.num_rational.specs.Reduced.{lowest_numbers}
use Rattle.ratio_uses.proofs.BeatLemmas.{fits_next, quick_beat}
use Rattle.ratio_uses.proofs.beats.next_numbers.Goals as goal

pub returns-in-Some : goal.returns-in-Some
returns-in-Some c =
    let count_fits : SFits w64 c.args.count = c.ranges.count in
    let next = simp to_z-of_z at c.in_ok-next.ensures in
    let numer_fits : SFits w64 c.into_raw-numer.result.0 = search rules in
    let denom_fits : SFits w64 c.into_raw-numer.result.1 = search rules in
    let next_fits : SFits w64 c.in_ok-next.next = fits_next c.in_ok-next.next c.args.count next.0 next.1 in
    let product = simp to_z-of_z at c.in-Some.ensures in
    let product_fits : SFits w64 c.in-Some.product = rw product.1 product.0 in
    let numer = c.into_raw-numer.ensures.numer in
    let denom = c.into_raw-numer.ensures.denom in
    let beat = quick_beat (lowest_numbers c.args.period.now) c.in_ok-next.next c.args.count c.in-Some.product next.0 next.1 product_fits (rw numer at product.1) (rw denom at denom_fits) c.args.period.now.lowest.positive in
    simp to_z-of_z (next.1, beat.0, rw denom beat.1, rw denom beat.2)

pub returns-in_err-next-2 : goal.returns-in_err-next-2
returns-in_err-next-2 c =
    let count_fits : SFits w64 c.args.count = c.ranges.count in
    let x = simp to_z-of_z at c.in_err-next-2.ensures in
    rw c.from_residual-in_err-next-2.ensures x

pub returns : goal.returns
returns c =
    let count_fits : SFits w64 c.args.count = c.ranges.count in
    let beat = simp to_z-of_z at c.in_ok-next-2.ensures in
    let next_fits : SFits w64 c.in_ok-next-2.next = rw beat.0 (simp to_z-of_z at c.in_ok-next.ensures).0 in
    let numer = c.into_raw.ensures.numer in
    let denom = c.into_raw.ensures.denom in
    simp to_z-of_z (beat.0, beat.1, rw denom beat.2.lowest.positive, rw (numer, denom) beat.2.same)
