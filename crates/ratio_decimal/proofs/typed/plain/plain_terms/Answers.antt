use Rattle.ratio_decimal.proofs.DecimalDigits.{all_split}
use Rattle.ratio_decimal.proofs.TypedAnswers.{decimal_terms_read, decimal_wide_read, no_share, quotient_refused, quotient_terms_read}
use Rattle.ratio_decimal.proofs.typed.plain.plain_terms.Goals as goal

pub decimal_terms-requires-clause-whole : goal.decimal_terms-requires-clause-whole
decimal_terms-requires-clause-whole c = (all_split c.in-Some-decimal_parts.parts.whole.now c.in-Some-decimal_parts.parts.part.now c.in-Some-decimal_parts.ensures.number.digits.1).0

pub decimal_terms-requires-clause-part : goal.decimal_terms-requires-clause-part
decimal_terms-requires-clause-part c = (all_split c.in-Some-decimal_parts.parts.whole.now c.in-Some-decimal_parts.parts.part.now c.in-Some-decimal_parts.ensures.number.digits.1).1

pub returns-in-None-decimal_parts : goal.returns-in-None-decimal_parts
returns-in-None-decimal_parts c = no_share c.args.text.now c.args.percent c.in-None.ensures c.in-None-decimal_parts.ensures

pub returns-in-None-decimal_terms : goal.returns-in-None-decimal_terms
returns-in-None-decimal_terms c =
    let p = c.in-Some-decimal_parts.parts in
    decimal_wide_read c.args.text.now p.below p.whole.now p.part.now p.down p.exponent.now c.args.percent c.in-Some-decimal_parts.ensures c.in-None-decimal_terms.ensures

pub returns-in-Some-decimal_terms : goal.returns-in-Some-decimal_terms
returns-in-Some-decimal_terms c =
    let p = c.in-Some-decimal_parts.parts in
    decimal_terms_read c.args.text.now p.below p.whole.now p.part.now p.down p.exponent.now c.args.percent c.in-Some-decimal_terms.terms.numer c.in-Some-decimal_terms.terms.denom c.in-Some-decimal_parts.ensures
    c.in-Some-decimal_terms.ensures

pub returns-in-Err : goal.returns-in-Err
returns-in-Err c =
    let p = c.in-Some.parts in
    quotient_refused c.args.text.now p.below p.numer.now p.under p.denom.now c.args.percent c.in-Err.refusal c.in-Some.ensures c.in-Err.ensures

pub returns-in-Ok : goal.returns-in-Ok
returns-in-Ok c =
    let p = c.in-Some.parts in
    rw c.differ.ensures (quotient_terms_read c.args.text.now p.below p.numer.now p.under p.denom.now c.args.percent c.in-Ok.terms.numer c.in-Ok.terms.denom c.in-Some.ensures c.in-Ok.ensures.0 c.in-Ok.ensures.1)
