use Rattle.ratio_decimal.proofs.DecimalAnswers.{signed_out}
use Rattle.ratio_decimal.proofs.reading.signed.Goals as goal

pub returns-in_err-checked_sub_unsigned : goal.returns-in_err-checked_sub_unsigned
returns-in_err-checked_sub_unsigned g c =
    let t = g.T.Integer in
    rw c.from_residual.ensures (signed_out t.lo t.hi g.T.Primitive.BITS c.args.below c.args.size g.met.T.Integer.range_law g.met.T.Primitive.width_law c.if-below.true c.in_err-checked_sub_unsigned.ensures)
