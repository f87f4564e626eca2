use Rattle.ratio_laws.proofs.EqualValueLemmas.{is_nearest_by_value}
use Rattle.ratio_laws.proofs.values.nearest.Goals as goal

pub returns : goal.returns
returns g c = is_nearest_by_value c.args.x.now c.args.u.now
