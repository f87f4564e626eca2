use Rattle.std.proofs.Common.{arith, refl}
use Rattle.ratio_integer.proofs.Halving.{odd_smaller, odd_step}
use Rattle.ratio_integer.proofs.binary_gcd.odd_gcds.Goals as goal

pub steps-preserved : goal.steps-preserved
steps-preserved c = (
  odd_step _ _ _ _ _ _ _ _ c.steps.invariant.0 c.min-x.ensures refl c.odd_distance-rest.ensures.1,
  odd_step _ _ _ _ _ _ _ _ c.steps.invariant.1 c.min-u.ensures refl c.odd_distance-other.ensures.1,
)

pub steps-smaller : goal.steps-smaller
steps-smaller c =
    let left = odd_smaller _ _ _ _ _ _ _ _ c.steps.invariant.0 c.min-x.ensures refl c.odd_distance-rest.ensures.1 in
    let right = odd_smaller _ _ _ _ _ _ _ _ c.steps.invariant.1 c.min-u.ensures refl c.odd_distance-other.ensures.1 in
    omega arith
