use Rattle.num_rational.proofs.RunningSums.{IsSumSoFar}
use Rattle.ratio_uses.proofs.readme.total.Given as goal

abbrev pub invariant-loop-share : goal.invariant-loop-share
invariant-loop-share l = IsSumSoFar l.shares l.share-index l.sum
