use Rattle.num_rational.specs.Reduced.{lowest_numbers}
use Rattle.ratio_uses.proofs.BeatLemmas.{count_told}
use Rattle.ratio_uses.proofs.beats.has_count.Goals as goal

pub returns : goal.returns
returns c = rw c.is_some.ensures (count_told (lowest_numbers c.args.time.now) (lowest_numbers c.args.period.now) c.count_at.result c.count_at.ensures)
