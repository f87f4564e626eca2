use Rattle.ratio_decimal.proofs.DecimalTerms.{with_even, with_last, with_odd}
use Rattle.ratio_decimal.proofs.reading.terms.divisor_with_ten.Goals as goal

pub returns-then-last-eq0-clause-divisor : goal.returns-then-last-eq0-clause-divisor
returns-then-last-eq0-clause-divisor c = with_last c.args.digit c.args.behind.numer c.args.behind.denom 0 c.if-last-eq0.true

pub returns-then-last-eq5-clause-divisor : goal.returns-then-last-eq5-clause-divisor
returns-then-last-eq5-clause-divisor c = with_last c.args.digit c.args.behind.numer c.args.behind.denom 5 c.if-last-eq5.true

pub returns-then-last-eq0-2-clause-divisor : goal.returns-then-last-eq0-2-clause-divisor
returns-then-last-eq0-2-clause-divisor c = with_even c.args.digit c.args.behind.numer c.args.behind.denom c.if-last-eq0.false c.if-last-eq5.false c.if-last-eq0-2.true

pub returns-else-last-eq0-2-clause-divisor : goal.returns-else-last-eq0-2-clause-divisor
returns-else-last-eq0-2-clause-divisor c = with_odd c.args.digit c.args.behind.numer c.args.behind.denom c.if-last-eq0.false c.if-last-eq5.false c.if-last-eq0-2.false
