use Rattle.std.specs.Int.{w128}
use Rattle.ratio_integer.proofs.MachineGcd.{signed_answer}
use Rattle.ratio_integer.proofs.signed_types.I128Integer.gcd.Goals as goal

pub overflow_cast-result : goal.overflow_cast-result
overflow_cast-result c = (signed_answer w128 _ c.ranges.self c.ranges.o c.requires c.unsigned_abs.ensures.value c.unsigned_abs-2.ensures.value c.binary_gcd_wide.ensures).0

pub returns : goal.returns
returns c = (signed_answer w128 _ c.ranges.self c.ranges.o c.requires c.unsigned_abs.ensures.value c.unsigned_abs-2.ensures.value c.binary_gcd_wide.ensures).1
