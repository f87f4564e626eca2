use Rattle.ratio_slots.proofs.WideLawLemmas.{joined_wide_means, joined_wide_multiples, joined_wide_sums, wide_results_agree, wide_sums_extend}
use Rattle.ratio_slots.proofs.laws.wide_reads.Goals as goal

pub returns-clause-one_result : goal.returns-clause-one_result
returns-clause-one_result c = wide_results_agree

pub returns-clause-extend : goal.returns-clause-extend
returns-clause-extend c = wide_sums_extend

pub returns-clause-sum : goal.returns-clause-sum
returns-clause-sum c = joined_wide_sums

pub returns-clause-mean : goal.returns-clause-mean
returns-clause-mean c = joined_wide_means

pub returns-clause-multiple : goal.returns-clause-multiple
returns-clause-multiple c = joined_wide_multiples
