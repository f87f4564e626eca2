use Rattle.ratio_laws.proofs.ReducedLemmas.{adds_exponents, is_inverted_by_reciprocal}
use Rattle.ratio_laws.proofs.reduced.powers.Goals as goal

pub returns-clause-add : goal.returns-clause-add
returns-clause-add g c = adds_exponents c.args.x.now

pub returns-clause-invert : goal.returns-clause-invert
returns-clause-invert g c = is_inverted_by_reciprocal c.args.x.now g.met.T.Integer.range_law
