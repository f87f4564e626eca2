use Rattle.std.proofs.Common.{arith, ap, ◌∙◌, ◌+◌}
use Rattle.ratio_decimal.proofs.DecimalTerms.{whole_terms, whole_wide}
use Rattle.ratio_decimal.proofs.reading.terms.whole_before.Goals as goal

pub returns-in_err-checked_mul : goal.returns-in_err-checked_mul
returns-in_err-checked_mul c =
    let out = c.in_err-checked_mul.ensures in
    rw c.from_residual.ensures (whole_wide c.args.whole c.args.behind.numer c.args.behind.denom c.requires (omega arith))

pub returns-in_err-numer : goal.returns-in_err-numer
returns-in_err-numer c =
    let out = c.in_err-numer.ensures in
    let product = c.in_ok-checked_mul.ensures.1 in
    rw c.from_residual-in_err-numer.ensures (whole_wide c.args.whole c.args.behind.numer c.args.behind.denom c.requires (omega arith))

pub returns : goal.returns
returns c = whole_terms c.args.whole c.args.behind.numer c.args.behind.denom c.in_ok-numer.numer c.requires (c.in_ok-numer.ensures.1 ∙ ap (λ x. x + c.args.behind.numer) c.in_ok-checked_mul.ensures.1)
