use Rattle.ratio_decimal.proofs.TypedAnswers.{mixed_refused, mixed_terms_read, percent_answers, plain_answers}
use Rattle.ratio_decimal.proofs.typed.typed_terms.Goals as goal

pub returns-in-Some : goal.returns-in-Some
returns-in-Some c = percent_answers c.args.text.now c.in-Some.front.now c.plain_terms.result c.in-Some.ensures c.plain_terms.ensures

pub returns-in-None : goal.returns-in-None
returns-in-None c = plain_answers c.args.text.now c.plain_terms-in-None.result c.in_default.ensures c.in-None.ensures c.plain_terms-in-None.ensures

pub returns-in-Err : goal.returns-in-Err
returns-in-Err c =
    let p = c.in-Some-mixed_parts.parts in
    mixed_refused c.args.text.now p.below p.whole.now p.numer.now p.denom.now c.in-Err.refusal c.in-Some-mixed_parts.ensures c.in-Err.ensures

pub returns-in-Ok : goal.returns-in-Ok
returns-in-Ok c =
    let p = c.in-Some-mixed_parts.parts in
    mixed_terms_read c.args.text.now p.below p.whole.now p.numer.now p.denom.now c.in-Ok.terms.numer c.in-Ok.terms.denom c.in-Some-mixed_parts.ensures c.in-Ok.ensures.0 c.in-Ok.ensures.1
