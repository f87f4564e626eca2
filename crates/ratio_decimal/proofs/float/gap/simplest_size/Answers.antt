use Rattle.std.specs.Prelude.{◌^◌, ◌≤◌}
use Rattle.std.proofs.Common.{arith}
use lib.Pow.{pow_mono}
use Rattle.ratio_decimal.proofs.GapLemmas.{short_power, shorter_power, unit_out, unit_over, unit_simplest}
use Rattle.ratio_decimal.proofs.float.gap.simplest_size.Goals as goal

pub returns-then-down-lt64 : goal.returns-then-down-lt64
returns-then-down-lt64 c = rw (shorter_power c.args.down c.if-down-lt64.true) at c.over_short.ensures

pub returns-then-down-lt128 : goal.returns-then-down-lt128
returns-then-down-lt128 c = rw (short_power c.args.down c.if-down-lt128.true) at c.over_long.ensures

pub returns-in_err-denom : goal.returns-in_err-denom
returns-in_err-denom c = rw c.from_residual.ensures (unit_out _ _ _ c.in_err-denom.ensures)

pub returns : goal.returns
returns c =
    let far : 2 ^ 128 ≤ 2 ^ c.args.down = pow_mono {i = 128} {j = c.args.down} (omega (arith, c.if-down-lt128.false)) in
    let first = c.in_ok-denom.ensures in
    unit_simplest _ _ _ _ (unit_over _ _ _ _ c.requires.room c.requires.short far first) first
