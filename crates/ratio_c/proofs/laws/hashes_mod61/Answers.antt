use Rattle.ratio_c.proofs.Mod61Hashes.{equal_values, whole_numbers}
use Rattle.ratio_c.proofs.laws.hashes_mod61.Goals as goal

pub returns-clause-equal : goal.returns-clause-equal
returns-clause-equal c = equal_values

pub returns-clause-whole : goal.returns-clause-whole
returns-clause-whole c = whole_numbers
