use Rattle.ratio_slots.proofs.CommonLemmas.{common_exists}
use Rattle.ratio_slots.proofs.ReadingLemmas.{commons_agree, reads_agree}
use Rattle.ratio_slots.proofs.laws.reads.Goals as goal

pub returns-clause-common : goal.returns-clause-common
returns-clause-common c = common_exists

pub returns-clause-one_common : goal.returns-clause-one_common
returns-clause-one_common c = commons_agree

pub returns-clause-one_read : goal.returns-clause-one_read
returns-clause-one_read c = reads_agree
