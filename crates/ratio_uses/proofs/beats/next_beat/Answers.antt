use Rattle.num_rational.specs.Reduced.{lowest_numbers}
use Rattle.ratio_uses.proofs.BeatLemmas.{is_next_beat}
use Rattle.ratio_uses.proofs.beats.next_beat.Goals as goal

pub returns : goal.returns
returns c = (c.in_ok-time.ensures.0, is_next_beat c.args.voices.now _ (lowest_numbers c.in_ok-time.time) c.in_ok-time.time.lowest.positive (λ v. v.period.lowest.positive) c.in_ok-time.ensures.1 c.count_beats.ensures)
