use Rattle.std.proofs.Common.{arith}
use Rattle.ratio_decimal.proofs.DecimalTerms.{denom_some}
use Rattle.ratio_decimal.proofs.DecimalDigits.{back_all, back_fine, back_more, back_none}
use Rattle.ratio_decimal.proofs.reading.terms.digits_before.Goals as goal

pub digits-init : goal.digits-init
digits-init c = back_none c.args.digits.now c.args.behind.numer c.args.behind.denom c.requires.below c.requires.lowest

pub digit_at-requires-clause-inside : goal.digit_at-requires-clause-inside
digit_at-requires-clause-inside c = let inside = c.digits.invariant.inside in omega arith

pub digit_before-requires-clause-below : goal.digit_before-requires-clause-below
digit_before-requires-clause-below c = c.digits.invariant.part.below

pub digit_before-requires-clause-lowest : goal.digit_before-requires-clause-lowest
digit_before-requires-clause-lowest c = c.digits.invariant.part.terms.lowest

pub returns-in_err-terms : goal.returns-in_err-terms
returns-in_err-terms c =
    rw c.from_residual.ensures (back_fine c.args.digits.now c.args.behind.numer c.args.behind.denom c.digits.at c.digits.terms.numer c.digits.terms.denom c.digit_at.result
    (denom_some c.args.behind.numer c.args.behind.denom c.requires.lowest) c.digits.invariant (omega arith) c.digit_at.ensures.value c.in_err-terms.ensures)

pub digits-preserved : goal.digits-preserved
digits-preserved c =
    back_more c.args.digits.now c.args.behind.numer c.args.behind.denom c.digits.at c.digits.terms.numer c.digits.terms.denom c.digit_at.result c.in_ok-terms.terms.numer c.in_ok-terms.terms.denom
    (denom_some c.args.behind.numer c.args.behind.denom c.requires.lowest) c.digits.invariant (omega arith) c.digit_at.ensures.value c.in_ok-terms.ensures

pub returns : goal.returns
returns c = back_all c.args.digits.now c.args.behind.numer c.args.behind.denom c.digits.at c.digits.terms.numer c.digits.terms.denom c.digits.invariant (omega arith)
