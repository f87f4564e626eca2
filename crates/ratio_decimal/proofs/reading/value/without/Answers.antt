use Rattle.ratio_decimal.proofs.ShortDecimals.{one_out}
use Rattle.ratio_decimal.proofs.reading.value.without.Goals as goal

pub factors-preserved : goal.factors-preserved
factors-preserved c = one_out c.args.prime c.args.number c.args.most c.factors.rest c.factors.left c.factors.invariant c.factors-test.true c.if-rest-prime-eq0.true
