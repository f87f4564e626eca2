use Rattle.ratio_c.proofs.JoinedAgree.{decimals_answer_alike, floats_answer_alike, joined_is_sum, means_answer_alike, signs_answer_alike, sums_answer_alike}
use Rattle.ratio_c.proofs.laws.joined_totals.Goals as goal

pub returns-clause-holds : goal.returns-clause-holds
returns-clause-holds c = joined_is_sum

pub returns-clause-sums : goal.returns-clause-sums
returns-clause-sums c = sums_answer_alike

pub returns-clause-means : goal.returns-clause-means
returns-clause-means c = means_answer_alike

pub returns-clause-signs : goal.returns-clause-signs
returns-clause-signs c = signs_answer_alike

pub returns-clause-floats : goal.returns-clause-floats
returns-clause-floats c = floats_answer_alike

pub returns-clause-decimals : goal.returns-clause-decimals
returns-clause-decimals c = decimals_answer_alike
