use Rattle.num_rational.specs.Split.{share_numbers}
use Rattle.std.specs.Prelude.{slice_index_or}
use Rattle.ratio_laws.proofs.SplitLawLemmas.{one_split}
use Rattle.ratio_laws.proofs.splits.one_split.Goals as goal

pub returns : goal.returns
returns g c =
    let T = g.T.Integer in
    one_split share_numbers T.value (T.value c.args.amount) c.args.shares.now (λ k share below. (slice_index_or c.args.shares.now k share).lowest.positive) c.args.parts.now c.args.others.now
