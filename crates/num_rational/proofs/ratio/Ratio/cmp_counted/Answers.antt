use Rattle.num_rational.proofs.ratio.Ratio.cmp_counted.Goals as goal

pub returns-clause-steps : goal.returns-clause-steps
returns-clause-steps g c = c.cmp_counted.ensures.steps
