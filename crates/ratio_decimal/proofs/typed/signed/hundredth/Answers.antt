use Rattle.std.proofs.Common.{arith}
use Rattle.ratio_decimal.proofs.TypedValues.{hundredth_terms, hundredth_wide}
use Rattle.ratio_decimal.proofs.typed.signed.hundredth.Goals as goal

pub returns-in_err-denom : goal.returns-in_err-denom
returns-in_err-denom c =
    let out = c.in_err-denom.ensures in
    rw c.from_residual.ensures (hundredth_wide c.args.terms.numer c.args.terms.denom c.cancelled-numer.result.0 c.cancelled-numer.result.1 c.requires c.cancelled-numer.ensures (omega arith))

pub returns : goal.returns
returns c = hundredth_terms c.args.terms.numer c.args.terms.denom c.cancelled-numer.result.0 c.cancelled-numer.result.1 c.in_ok-denom.denom c.requires c.cancelled-numer.ensures c.in_ok-denom.ensures.1
