use Rattle.num_rational.proofs.RunningSums.{product_more, product_refused}
use Rattle.ratio_uses.proofs.conditions.chained.Goals as goal

pub returns-in_err-product-clause-product : goal.returns-in_err-product-clause-product
returns-in_err-product-clause-product c = rw c.from_residual.ensures (product_refused _ _ _ c.loop-rate.product c.loop-rate-test.true c.rate-item.is c.loop-rate.invariant c.in_err-product.ensures)

pub loop-rate-preserved : goal.loop-rate-preserved
loop-rate-preserved c = product_more _ _ _ c.loop-rate.product c.loop-rate-test.true c.rate-item.is c.loop-rate.invariant c.requires c.in_ok-product.product c.in_ok-product.ensures
