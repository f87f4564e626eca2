use Rattle.std.specs.Int.{w64}
use Rattle.std.proofs.Common.{arith}
use Rattle.ratio_integer.proofs.Halving.{lower_part}
use Rattle.ratio_integer.proofs.binary_gcd.odd_distance_wide.Goals as goal

pub returns-else-low-eq0 : goal.returns-else-low-eq0
returns-else-low-eq0 c =
    lower_part w64 c.args.x c.args.y _ _ _ c.abs_diff-distance.ensures c.lower_half-2.ensures c.lower_half.ensures (omega (arith, c.if-low-eq0.false))
