use Rattle.ratio_laws.proofs.NearestBoundLemmas.{has_nearest, keeps_nearest, nears_with_bound}
use Rattle.ratio_laws.proofs.nearest.bounds.Goals as goal

pub returns-clause-exists : goal.returns-clause-exists
returns-clause-exists g c = has_nearest c.args.x.now

pub returns-clause-nearer : goal.returns-clause-nearer
returns-clause-nearer g c = nears_with_bound c.args.x.now

pub returns-clause-kept : goal.returns-clause-kept
returns-clause-kept g c = keeps_nearest c.args.x.now
