use Rattle.ratio_laws.proofs.UndoingLemmas.{is_zero_without_itself}
use Rattle.ratio_laws.proofs.undoing.itself.Goals as goal

pub returns : goal.returns
returns g c = is_zero_without_itself c.args.x.now g.met.T.Integer.range_law
