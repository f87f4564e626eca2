use Rattle.ratio_decimal.proofs.DecimalDigits.{AreZerosRead}
use Rattle.ratio_decimal.proofs.reading.terms.zeros_before.Given as goal

abbrev pub invariant-zeros : goal.invariant-zeros
invariant-zeros l = AreZerosRead l.zeros l.fn.behind.numer l.fn.behind.denom l.left l.terms.numer l.terms.denom

abbrev pub decreases-zeros : goal.decreases-zeros
decreases-zeros l = l.left
