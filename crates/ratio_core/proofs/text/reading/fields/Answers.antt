use Rattle.std.proofs.Common.{subst}
use Rattle.ratio_core.specs.Reading.{IsFractionText}
use Rattle.ratio_core.proofs.LeadingDigits.{read_fields}
use Rattle.ratio_core.proofs.text.reading.fields.Goals as goal

pub returns-in-Some : goal.returns-in-Some
returns-in-Some g c =
    let t = g.T.Integer in
    let n = c.in-Some.read.0 in
    let d = c.in-Some.read.1 in
    read_fields t.value t.lo t.hi (IsFractionText t.lo t.hi c.args.text.now) n d
    (subst (λ xs. IsFractionText t.lo t.hi xs (t.value n) (t.value d)) c.as_bytes.ensures.value c.in-Some.ensures) c.nonzero.result c.nonzero.ensures
