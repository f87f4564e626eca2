use Rattle.num_rational.specs.Split.{share_numbers}
use Rattle.std.specs.Prelude.{slice_index_or}
use Rattle.ratio_laws.proofs.SplitLawLemmas.{marks_of_one}
use Rattle.ratio_laws.proofs.splits.marks_of_one.Goals as goal

pub returns : goal.returns
returns g c =
    let T = g.T.Integer in
    marks_of_one share_numbers T.lo T.hi (T.value c.args.amount) c.args.shares.now g.met.T.Integer.range_law c.held.ensures.range (λ k share below. (slice_index_or c.args.shares.now k share).lowest.positive)
