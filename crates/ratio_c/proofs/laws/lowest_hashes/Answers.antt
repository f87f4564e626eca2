use Rattle.ratio_c.proofs.LowestHashes.{denominator_hashes, equal_hashes, numerator_hashes}
use Rattle.ratio_c.proofs.laws.lowest_hashes.Goals as goal

pub returns-clause-equal : goal.returns-clause-equal
returns-clause-equal c = equal_hashes

pub returns-clause-numerators : goal.returns-clause-numerators
returns-clause-numerators c = numerator_hashes

pub returns-clause-denominators : goal.returns-clause-denominators
returns-clause-denominators c = denominator_hashes
