use Rattle.std.specs.Int.{w64}
use Rattle.ratio_integer.proofs.Halving.{distance_part}
use Rattle.ratio_integer.proofs.binary_gcd.odd_distance.Goals as goal

pub returns : goal.returns
returns c = distance_part w64 c.args.x c.args.y _ c.ranges.x.fits c.ranges.y.fits c.requires c.abs_diff.ensures
