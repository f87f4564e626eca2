use Rattle.ratio_c.proofs.Hashes.{equal_value_hashes}
use Rattle.ratio_c.proofs.laws.hashes.Goals as goal

pub returns : goal.returns
returns c = equal_value_hashes
