use Rattle.std.specs.Int.{w128}
use Rattle.std.proofs.Common.{arith}
use Rattle.ratio_integer.proofs.Halving.{odd_part_is}
use Rattle.ratio_integer.proofs.binary_gcd.odd_part_wide.Goals as goal

pub returns : goal.returns
returns c = odd_part_is w128 c.args.n (omega (arith, c.requires)) c.ranges.n.fits
