use Rattle.ratio_decimal.proofs.ShortDecimals.{IsTakenOut}
use Rattle.ratio_decimal.proofs.reading.value.without.Given as goal

abbrev pub invariant-factors : goal.invariant-factors
invariant-factors l = IsTakenOut l.prime l.number l.most l.rest l.left

abbrev pub decreases-factors : goal.decreases-factors
decreases-factors l = l.left
