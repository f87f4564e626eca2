use Rattle.ratio_c.proofs.ReadsAgree.{means_read_alike, signs_agree, sums_read_alike}
use Rattle.ratio_c.proofs.laws.total_reads.Goals as goal

pub returns-clause-sums : goal.returns-clause-sums
returns-clause-sums c = sums_read_alike

pub returns-clause-means : goal.returns-clause-means
returns-clause-means c = means_read_alike

pub returns-clause-signs : goal.returns-clause-signs
returns-clause-signs c = signs_agree
