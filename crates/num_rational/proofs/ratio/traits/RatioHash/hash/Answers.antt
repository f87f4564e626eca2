use Rattle.std.proofs.Common.{rules}
use Rattle.ratio_core.proofs.HashLaws.{codes_of_are}
use Rattle.num_rational.specs.Hashing.{codes_of_ratio}
use Rattle.num_rational.proofs.ratio.traits.RatioHash.hash.Goals as goal

pub returns-clause-codes : goal.returns-clause-codes
returns-clause-codes g c = (codes_of_ratio c.args.self.now, codes_of_are _ _ _ _ c.args.self.now.nonzero, search rules)
