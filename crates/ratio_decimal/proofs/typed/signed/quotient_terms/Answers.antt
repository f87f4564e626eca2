use Rattle.ratio_core.specs.Reading.{digits_sum}
use Rattle.ratio_decimal.proofs.TypedValues.{quotient_terms, quotient_wide}
use Rattle.ratio_decimal.proofs.typed.signed.quotient_terms.Goals as goal

pub returns-in-None : goal.returns-in-None
returns-in-None c =
    let out = quotient_wide (digits_sum 10 c.args.numer.now) (digits_sum 10 c.args.denom.now) c.in-Ok.terms.numer c.in-Ok.terms.denom c.args.percent c.if-percent.true c.in-Ok.ensures.1 c.in-None.ensures in
    (out.0, λ small. out.1)

pub returns-in-Some : goal.returns-in-Some
returns-in-Some c =
    (c.in-Ok.ensures.0, quotient_terms (digits_sum 10 c.args.numer.now) (digits_sum 10 c.args.denom.now) c.in-Ok.terms.numer c.in-Ok.terms.denom c.in-Some.less.numer c.in-Some.less.denom c.args.percent c.if-percent.true c.in-Ok.ensures.1 c.in-Some.ensures)
