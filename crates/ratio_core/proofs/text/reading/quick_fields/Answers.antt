use Rattle.std.proofs.Common.{◌∙◌, ap}
use Rattle.ratio_core.proofs.LeadingDigits.{alone}
use Rattle.ratio_core.proofs.text.reading.quick_fields.Goals as goal

pub returns-then-at-bytes : goal.returns-then-at-bytes
returns-then-at-bytes g c =
    let t = g.T.Integer in
    alone t.value t.lo t.hi c.args.bytes.now c.in_ok-numer.at c.in_ok-numer.numer c.ONE.result c.if-at-bytes.true (ap t.value c.ONE.ensures ∙ g.met.T.Integer.one_law) c.in_ok-numer.ensures.number
