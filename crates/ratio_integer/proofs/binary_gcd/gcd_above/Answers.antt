use Rattle.std.proofs.Common.{arith}
use Rattle.ratio_integer.proofs.Halving.{shifted_back, shifted_bounded}
use Rattle.ratio_integer.proofs.binary_gcd.gcd_above.Goals as goal

pub returns-in-None : goal.returns-in-None
returns-in-None c =
    shifted_bounded _ _ _ _ _ _ _ c.odd_part_wide.ensures c.odd_part_wide-2.ensures (rw c.min-shift.ensures at c.in-None.ensures)

pub returns-in-Some : goal.returns-in-Some
returns-in-Some c =
    rw c.min-shift.ensures (shifted_back 128 _ _ _ _ _ _ _ (omega (arith, c.if-a-eq0.false)) c.ranges.a.fits c.odd_part_wide.ensures c.odd_part_wide-2.ensures c.in-Some.ensures)
