use Rattle.std.specs.Prelude.{pos}
use Rattle.ratio_uses.specs.Trains.{AreFirstOver}
use Rattle.ratio_uses.proofs.TrainLemmas.{IsProductBefore}
use Rattle.ratio_uses.proofs.trains.nearest_products.Given as goal

abbrev pub invariant-loop-small : goal.invariant-loop-small
invariant-loop-small l = AreFirstOver (pos l.request.numer, pos l.request.denom) l.request.least l.request.most (IsProductBefore l.request.least l.request.most l.small) (l.start, l.start) l.nearest
