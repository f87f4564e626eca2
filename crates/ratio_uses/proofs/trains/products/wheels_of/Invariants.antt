use Rattle.ratio_uses.proofs.ProductLemmas.{NoneBefore}
use Rattle.ratio_uses.proofs.trains.products.wheels_of.Given as goal

abbrev pub invariant-loop-small : goal.invariant-loop-small
invariant-loop-small l = NoneBefore l.least l.most l.product l.small
