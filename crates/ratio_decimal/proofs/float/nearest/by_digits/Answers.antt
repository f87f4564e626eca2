use Rattle.ratio_decimal.proofs.FloatRounding.{nearest_with_sign}
use Rattle.ratio_decimal.proofs.float.nearest.by_digits.Goals as goal

pub returns : goal.returns
returns g c =
    let size = rw (c.magnitude.ensures, c.magnitude-2.ensures) at c.nearest_bits-bits.ensures.0 in
    rw c.of_bits.ensures (nearest_with_sign _ _ _ _ _ c.is_below_zero.ensures size)
