use Rattle.std.proofs.Common.{◌-◌, length}
use Rattle.ratio_decimal.proofs.DecimalDigits.{IsReadTo}
use Rattle.ratio_decimal.proofs.reading.value.short_number.Given as goal

abbrev pub invariant-digits : goal.invariant-digits
invariant-digits l = IsReadTo l.first l.digits l.at l.number

abbrev pub decreases-digits : goal.decreases-digits
decreases-digits l = length l.digits - l.at
