use Rattle.num_rational.proofs.ratio.Ratio.hash_counted.Goals as goal

pub returns-clause-codes : goal.returns-clause-codes
returns-clause-codes g c = c.hash_counted.ensures.codes

pub returns-clause-left : goal.returns-clause-left
returns-clause-left g c = c.hash_counted.ensures.left
