use Rattle.ratio_laws.proofs.UndoingLemmas.{subtracts_by_negative}
use Rattle.ratio_laws.proofs.undoing.negatives.Goals as goal

pub returns : goal.returns
returns g c = subtracts_by_negative c.args.x.now c.args.y.now
