use Rattle.ratio_uses.proofs.ProductLemmas.{UpToSoFar}
use Rattle.ratio_uses.proofs.trains.products.greatest_up_to.Given as goal

abbrev pub invariant-loop-small : goal.invariant-loop-small
invariant-loop-small l = UpToSoFar l.least l.most l.bound l.small l.best
