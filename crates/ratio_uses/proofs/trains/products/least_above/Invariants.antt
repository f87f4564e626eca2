use Rattle.ratio_uses.proofs.ProductLemmas.{AboveSoFar}
use Rattle.ratio_uses.proofs.trains.products.least_above.Given as goal

abbrev pub invariant-loop-small : goal.invariant-loop-small
invariant-loop-small l = AboveSoFar l.least l.most l.bound l.small l.best
