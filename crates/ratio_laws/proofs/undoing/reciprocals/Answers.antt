use Rattle.ratio_laws.proofs.UndoingLemmas.{divides_by_reciprocal}
use Rattle.ratio_laws.proofs.undoing.reciprocals.Goals as goal

pub returns : goal.returns
returns g c = divides_by_reciprocal c.args.x.now c.args.y.now
