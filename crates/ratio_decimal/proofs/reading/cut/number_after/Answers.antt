use Rattle.std.proofs.Common.{arith, ap, refl, ◌∙◌, ◌+◌, get_or}
use Rattle.std.specs.Char.{digit_value}
use Rattle.ratio_decimal.proofs.DecimalDigits.{read_all, read_more, read_wide}
use Rattle.ratio_decimal.proofs.reading.cut.number_after.Goals as goal

pub returns-in_err-checked_mul : goal.returns-in_err-checked_mul
returns-in_err-checked_mul c =
    let out = c.in_err-checked_mul.ensures in
    rw c.from_residual.ensures (read_wide c.args.first c.args.digits.now c.digits.at c.digits.number (digit_value (get_or c.args.digits.now c.digits.at 0)) c.digits.invariant c.digits-test.true refl (omega arith))

pub returns-in_err-number : goal.returns-in_err-number
returns-in_err-number c =
    let out = c.in_err-number.ensures in
    let product = c.in_ok-checked_mul.ensures.1 in
    rw c.from_residual-in_err-number.ensures (read_wide c.args.first c.args.digits.now c.digits.at c.digits.number c.digit_at.result c.digits.invariant c.digits-test.true c.digit_at.ensures.value (omega arith))

pub digits-preserved : goal.digits-preserved
digits-preserved c = read_more c.args.first c.args.digits.now c.digits.at c.digits.number c.digit_at.result c.in_ok-number.number c.digits.invariant c.digits-test.true c.digit_at.ensures.value
    (c.in_ok-number.ensures.1 ∙ ap (λ x. x + c.digit_at.result) c.in_ok-checked_mul.ensures.1)

pub returns : goal.returns
returns c = read_all c.args.first c.args.digits.now c.digits.at c.digits.number c.digits.invariant c.digits-test.false
