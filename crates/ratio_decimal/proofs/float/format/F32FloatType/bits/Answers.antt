use Rattle.std.specs.Bool.{passes}
use Rattle.std.specs.Float.{binary32}
use Rattle.std.proofs.Common.{arith}
use lib.Ieee.Bits.{to_bits-lt}
use Rattle.ratio_decimal.proofs.float.format.F32FloatType.bits.Goals as goal

pub overflow_cast-result : goal.overflow_cast-result
overflow_cast-result c = (let less = to_bits-lt binary32 c.args.self (passes _ c.well_formed.0.1) in omega (arith, less))
