use Rattle.num_rational.proofs.RunningSums.{IsProductSoFar}
use Rattle.ratio_uses.proofs.conditions.chained.Given as goal

abbrev pub invariant-loop-rate : goal.invariant-loop-rate
invariant-loop-rate l = IsProductSoFar l.rates l.rate-index l.product
