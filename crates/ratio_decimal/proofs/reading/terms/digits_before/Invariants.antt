use Rattle.ratio_decimal.proofs.DecimalDigits.{IsReadFrom}
use Rattle.ratio_decimal.proofs.reading.terms.digits_before.Given as goal

abbrev pub invariant-digits : goal.invariant-digits
invariant-digits l = IsReadFrom l.digits l.fn.behind.numer l.fn.behind.denom l.at l.terms.numer l.terms.denom

abbrev pub decreases-digits : goal.decreases-digits
decreases-digits l = l.at
