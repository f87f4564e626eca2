use Rattle.std.proofs.Common.{arith}
use Rattle.ratio_integer.proofs.Halving.{shifted_back}
use Rattle.ratio_integer.proofs.binary_gcd.binary_gcd.Goals as goal

pub returns : goal.returns
returns c =
    rw c.min-shift.ensures (shifted_back 64 _ _ _ _ _ _ _ (omega (arith, c.if-a-eq0.false)) c.ranges.a.fits c.odd_part.ensures c.odd_part-2.ensures c.odd_gcd.ensures)
