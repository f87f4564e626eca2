use Rattle.std.specs.Bool.{passes}
use Rattle.std.specs.Int.{w64}
use Rattle.std.proofs.Common.{arith}
use lib.Dec.{le→leb, leb→le}
use lib.Ieee.Bits.{is_true}
use Rattle.ratio_integer.proofs.Halving.{odd_part_is}
use Rattle.ratio_decimal.proofs.RationalizeLemmas.{whole_or_not}
use Rattle.ratio_decimal.proofs.float.rationalize.is_whole.Goals as goal

pub returns-else-digits-eq0 : goal.returns-else-digits-eq0
returns-else-digits-eq0 g c =
    let part = odd_part_is w64 c.args.digits (omega (arith, c.if-digits-eq0.false)) c.ranges.digits.fits in
    let both = whole_or_not c.args.digits c.args.place g.F.FloatType.LEAST _ _ part.whole part.odd in
    rw c.LEAST.ensures ((λ yes. both.0 (leb→le _ _ (passes _ yes))), (λ whole. is_true _ (le→leb _ _ (both.1 whole))))
