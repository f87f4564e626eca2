use Rattle.std.proofs.Common.{arith}
use Rattle.ratio_decimal.proofs.DecimalTerms.{denom_some}
use Rattle.ratio_decimal.proofs.DecimalDigits.{zeros_all, zeros_fine, zeros_more, zeros_none, zeros_of_zero}
use Rattle.ratio_decimal.proofs.reading.terms.zeros_before.Goals as goal

pub returns-then-behind-eq0 : goal.returns-then-behind-eq0
returns-then-behind-eq0 c = zeros_of_zero c.args.zeros c.args.behind.numer c.args.behind.denom c.if-behind-eq0.true (denom_some c.args.behind.numer c.args.behind.denom c.requires.lowest)

pub zeros-init : goal.zeros-init
zeros-init c = zeros_none c.args.zeros c.args.behind.numer c.args.behind.denom c.requires.below c.requires.lowest

pub digit_before-requires-clause-below : goal.digit_before-requires-clause-below
digit_before-requires-clause-below c = c.zeros.invariant.part.below

pub digit_before-requires-clause-lowest : goal.digit_before-requires-clause-lowest
digit_before-requires-clause-lowest c = c.zeros.invariant.part.terms.lowest

pub returns-in_err-terms : goal.returns-in_err-terms
returns-in_err-terms c =
    rw c.from_residual.ensures (zeros_fine c.args.zeros c.args.behind.numer c.args.behind.denom c.zeros.left c.zeros.terms.numer c.zeros.terms.denom
    (denom_some c.args.behind.numer c.args.behind.denom c.requires.lowest) c.zeros.invariant (omega arith) c.in_err-terms.ensures)

pub zeros-preserved : goal.zeros-preserved
zeros-preserved c =
    zeros_more c.args.zeros c.args.behind.numer c.args.behind.denom c.zeros.left c.zeros.terms.numer c.zeros.terms.denom c.in_ok-terms.terms.numer c.in_ok-terms.terms.denom
    (denom_some c.args.behind.numer c.args.behind.denom c.requires.lowest) c.zeros.invariant (omega arith) c.in_ok-terms.ensures

pub returns : goal.returns
returns c = zeros_all c.args.zeros c.args.behind.numer c.args.behind.denom c.zeros.left c.zeros.terms.numer c.zeros.terms.denom c.zeros.invariant (omega arith)
