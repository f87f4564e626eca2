use Rattle.ratio_slots.proofs.SumsAgree.{mean_results_agree, sum_results_agree, sums_agree}
use Rattle.ratio_slots.proofs.laws.sums.Goals as goal

pub returns-clause-value : goal.returns-clause-value
returns-clause-value c = sums_agree

pub returns-clause-one_result : goal.returns-clause-one_result
returns-clause-one_result c = sum_results_agree

pub returns-clause-one_mean : goal.returns-clause-one_mean
returns-clause-one_mean c = mean_results_agree
