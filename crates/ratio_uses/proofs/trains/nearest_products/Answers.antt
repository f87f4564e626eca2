use Rattle.std.proofs.Common.{arith}
use Rattle.ratio_uses.proofs.ProductLemmas.{product_of, wheel_least}
use Rattle.ratio_uses.proofs.TrainLemmas.{all_end, all_go_on}
use Rattle.ratio_uses.proofs.trains.nearest_products.Goals as goal

pub loop-small-preserved : goal.loop-small-preserved
loop-small-preserved c =
    let least_in = wheel_least c.args.request.least c.args.request.most c.args.request.range in
    all_go_on _ _ _ _ _ _ _ c.args.request.teeth (omega (arith, c.loop-small-test.true)) (product_of _ _ _ _ least_in least_in) c.loop-small.invariant c.nearest_with-nearest.ensures

pub returns : goal.returns
returns c = all_end _ _ _ _ _ _ (omega (arith, c.loop-small-test.false)) c.loop-small.invariant
