use Rattle.std.proofs.Common.{arith}
use Rattle.ratio_integer.proofs.Halving.{shifted_back}
use Rattle.ratio_integer.proofs.binary_gcd.binary_gcds.Goals as goal

pub returns-clause-left : goal.returns-clause-left
returns-clause-left c =
    rw c.min-left.ensures (shifted_back 64 _ _ _ _ _ _ _ (omega (arith, c.if-a-eq0.false)) c.ranges.a.fits c.odd_part.ensures c.odd_part-2.ensures c.odd_gcds-x.ensures.left)

pub returns-clause-right : goal.returns-clause-right
returns-clause-right c =
    rw c.min-right.ensures (shifted_back 64 _ _ _ _ _ _ _ (omega (arith, c.if-c-eq0.false)) c.ranges.c.fits c.odd_part-3.ensures c.odd_part-4.ensures c.odd_gcds-x.ensures.right)
