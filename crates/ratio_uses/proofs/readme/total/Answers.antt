use Rattle.num_rational.proofs.RunningSums.{sum_more, sum_refused}
use Rattle.ratio_uses.proofs.readme.total.Goals as goal

pub returns-in_err-sum : goal.returns-in_err-sum
returns-in_err-sum c = rw c.from_residual.ensures (sum_refused _ _ _ c.loop-share.sum c.loop-share-test.true c.share-item.is c.loop-share.invariant c.in_err-sum.ensures)

pub loop-share-preserved : goal.loop-share-preserved
loop-share-preserved c = sum_more _ _ _ c.loop-share.sum c.loop-share-test.true c.share-item.is c.loop-share.invariant c.in_ok-sum.sum c.in_ok-sum.ensures
