use Rattle.std.proofs.Common.{◌+◌, arith, subst, take}
use Rattle.ratio_core.specs.Reading.{ReadsAs}
use Rattle.ratio_core.proofs.LeadingDigits.{from, slashed_first}
use Rattle.ratio_core.proofs.text.reading.leading_fields.Goals as goal

pub returns-clause-fields : goal.returns-clause-fields
returns-clause-fields g c =
    let t = g.T.Integer in
    let bytes = c.args.bytes.now in
    let at = c.in_ok-numer.at in
    let count = c.in_ok-denom.count in
    slashed_first t.value t.lo t.hi bytes at count c.in_ok-numer.numer c.in_ok-denom.denom (omega (arith, c.in_ok-numer.ensures.inside, c.if-at-bytes.false)) c.if-bytes-at-ne47.false c.in_ok-numer.ensures.number
    (subst (λ xs. ReadsAs t.lo t.hi 10 (take count xs) (t.value c.in_ok-denom.denom)) (from (at + 1) bytes) c.in_ok-denom.ensures.number)
