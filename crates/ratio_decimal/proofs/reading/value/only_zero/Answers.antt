use Rattle.std.proofs.Common.{arith, refl}
use Rattle.ratio_decimal.proofs.DecimalValues.{front_some, joined}
use Rattle.ratio_decimal.proofs.reading.value.only_zero.Goals as goal

pub returns-in_err-first-clause-value : goal.returns-in_err-first-clause-value
returns-in_err-first-clause-value c =
    let wide = c.in_err-first.ensures in
    rw c.from_residual.ensures (front_some c.args.whole.now c.args.part.now (omega arith))

pub returns-in_err-all-clause-value : goal.returns-in_err-all-clause-value
returns-in_err-all-clause-value c =
    let wide = c.in_err-all.ensures in
    let same = joined c.args.whole.now c.args.part.now c.in_ok-first.first c.in_ok-first.ensures in
    rw c.from_residual-in_err-all.ensures (omega arith)

pub returns-then-all-eq0-clause-value : goal.returns-then-all-eq0-clause-value
returns-then-all-eq0-clause-value c =
    let all = c.in_ok-all.ensures in
    let same = joined c.args.whole.now c.args.part.now c.in_ok-first.first c.in_ok-first.ensures in
    (omega arith, refl, refl)

pub returns-else-all-eq0-clause-value : goal.returns-else-all-eq0-clause-value
returns-else-all-eq0-clause-value c =
    let all = c.in_ok-all.ensures in
    let same = joined c.args.whole.now c.args.part.now c.in_ok-first.first c.in_ok-first.ensures in
    omega arith
