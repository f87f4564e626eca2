use Rattle.std.proofs.Common.{inl, inr, refl, rules}
use Rattle.std.proofs.lemmas.Int.{to_z-of_z}
use mir.Syntax.{w64}
use mir.Val.{SFits}
use Rattle.num_rational.specs.Reduced.{lowest_numbers}
use Rattle.ratio_uses.specs.Beats.{next_time}
use Rattle.ratio_uses.proofs.BeatLemmas.{beat_numbers_some, comes_after, comes_then}
use Rattle.ratio_uses.proofs.beats.count_after.Goals as goal

pub unwrap-count-requires : goal.unwrap-count-requires
unwrap-count-requires c =
    let count_fits : SFits w64 c.args.voice.now.count = search rules in
    beat_numbers_some _ _ _ (simp to_z-of_z at c.next_numbers.ensures) c.requires.held

pub returns : goal.returns
returns c =
    let count_fits : SFits w64 c.args.voice.now.count = search rules in
    let next_fits : SFits w64 c.unwrap-count.result.0 = search rules in
    let beat = simp to_z-of_z at (rw c.unwrap-count.ensures at c.next_numbers.ensures) in
    let told = rw (c.into_raw.ensures.numer, c.into_raw.ensures.denom) at c.is_same.ensures in
    let v = c.args.voice.now in
    let same = comes_then (next_time v) c.unwrap-count.result.1 (lowest_numbers c.args.time.now) v.period.lowest.positive beat.2 c.args.time.now.lowest.positive beat.3 (told.0 c.if-not-is_same.false) in
    simp to_z-of_z (inl (same, beat.0))

pub returns-then-not-is_same : goal.returns-then-not-is_same
returns-then-not-is_same c =
    let count_fits : SFits w64 c.args.voice.now.count = search rules in
    let beat = simp to_z-of_z at (rw c.unwrap-count.ensures at c.next_numbers.ensures) in
    let told = rw (c.into_raw.ensures.numer, c.into_raw.ensures.denom) at c.is_same.ensures in
    let v = c.args.voice.now in
    let after = comes_after (next_time v) c.unwrap-count.result.1 (lowest_numbers c.args.time.now) v.period.lowest.positive beat.2 c.args.time.now.lowest.positive beat.3 _ told c.if-not-is_same.true c.requires.up_to in
    simp to_z-of_z (inr (after, refl))
