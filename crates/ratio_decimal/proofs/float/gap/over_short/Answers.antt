use Rattle.std.specs.Prelude.{◌-◌, ◌^◌}
use Rattle.std.proofs.Common.{arith}
use Rattle.ratio_decimal.proofs.GapLemmas.{not_none}
use Rattle.ratio_decimal.proofs.float.gap.over_short.Goals as goal

pub returns-in_err-numer : goal.returns-in_err-numer
returns-in_err-numer c = absurd (not_none (2 ^ 64 - 1) c.args.low c.args.high c.args.denom c.requires.room c.requires.denom (omega (arith, c.ranges.high.fits)) (omega (arith, c.ranges.denom.fits)) c.in_err-numer.ensures)
