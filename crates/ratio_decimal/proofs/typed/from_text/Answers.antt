use Rattle.std.specs.Prelude.{pos, Err}
use Rattle.std.proofs.Common.{subst}
use Rattle.ratio_core.specs.Signs.{with_sign}
use Rattle.ratio_decimal.specs.TypedTerms.{AnswersTerms, ReadsTerms}
use Rattle.ratio_decimal.specs.TypedText.{IsTypedText}
use Rattle.ratio_decimal.proofs.TypedAnswers.{not_held, refused}
use Rattle.ratio_decimal.proofs.typed.from_text.Goals as goal

pub returns-in-Err : goal.returns-in-Err
returns-in-Err g c =
    let t = g.T.Integer in
    let is = c.in-Err.ensures in
    refused {R = g.row.T.Denot × g.row.T.Denot} (λ r. t.value r.0) (λ r. t.value r.1) t.lo t.hi g.T.Primitive.BITS c.args.text.now c.in-Err.refusal g.met.T.Integer.range_law g.met.T.Primitive.width_law
    (subst (λ xs. AnswersTerms (IsTypedText xs) (Err c.in-Err.refusal)) c.as_bytes.ensures.value is)

pub returns-in-None : goal.returns-in-None
returns-in-None g c =
    let t = g.T.Integer in
    let read = c.in-Ok.read in
    let is = c.in-Ok.ensures in
    not_held {R = g.row.T.Denot × g.row.T.Denot} (λ r. t.value r.0) (λ r. t.value r.1) t.lo t.hi c.args.text.now _ _
    (subst (λ xs. ReadsTerms (IsTypedText xs) (with_sign read.below read.terms.numer) (pos read.terms.denom)) c.as_bytes.ensures.value is) c.in-None.ensures
