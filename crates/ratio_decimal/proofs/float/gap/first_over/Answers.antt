use Rattle.std.specs.Prelude.{◌-◌, ◌^◌, ◌<◌}
use Rattle.std.proofs.Common.{arith}
use Rattle.ratio_decimal.proofs.GapLemmas.{far_over, first_over_is, one_shifted, power_is, rest_shifted, sum_is, whole_past, sum_past}
use Rattle.ratio_decimal.proofs.float.gap.first_over.Goals as goal

pub returns-then-down-ge192 : goal.returns-then-down-ge192
returns-then-down-ge192 c n over = far_over c.args.down c.args.high n (omega (arith, c.if-down-ge192.true)) c.requires.high.1 over

pub returns-in_err-whole : goal.returns-in_err-whole
returns-in_err-whole c =
    let is = first_over_is (2 ^ 127) c.args.high (2 ^ (c.args.down - 127)) (2 ^ c.args.down) c.requires.high.0 (power_is c.args.down c.requires.down) in
    let more : c.args.down - 127 < 65 = omega (arith, c.if-down-ge192.false) in
    let one = one_shifted (c.args.down - 127) more in
    let rest = rest_shifted (2 ^ 127) c.args.high (c.args.down - 127) c.requires.high.0 c.requires.high.1 more in
    rw c.from_residual.ensures (λ n over. whole_past _ _ n (rw one at c.in_err-whole.ensures) (is.least n over))

pub returns-in_err-checked_add : goal.returns-in_err-checked_add
returns-in_err-checked_add c =
    let is = first_over_is (2 ^ 127) c.args.high (2 ^ (c.args.down - 127)) (2 ^ c.args.down) c.requires.high.0 (power_is c.args.down c.requires.down) in
    let more : c.args.down - 127 < 65 = omega (arith, c.if-down-ge192.false) in
    let one = one_shifted (c.args.down - 127) more in
    let rest = rest_shifted (2 ^ 127) c.args.high (c.args.down - 127) c.requires.high.0 c.requires.high.1 more in
    rw c.from_residual-in_err-checked_add.ensures (λ n over. sum_past _ _ _ n (rw one at c.in_ok-whole.ensures.1) (rw rest at c.in_err-checked_add.ensures) (is.least n over))

pub returns : goal.returns
returns c =
    let is = first_over_is (2 ^ 127) c.args.high (2 ^ (c.args.down - 127)) (2 ^ c.args.down) c.requires.high.0 (power_is c.args.down c.requires.down) in
    let more : c.args.down - 127 < 65 = omega (arith, c.if-down-ge192.false) in
    let one = one_shifted (c.args.down - 127) more in
    let rest = rest_shifted (2 ^ 127) c.args.high (c.args.down - 127) c.requires.high.0 c.requires.high.1 more in
    sum_is _ _ _ _ _ _ c.checked_add-2.result is (rw one at c.in_ok-whole.ensures.1) (rw rest at c.in_ok-checked_add.ensures.1) c.checked_add-2.ensures
