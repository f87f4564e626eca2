use Rattle.std.specs.Int.{w64}
use Rattle.ratio_integer.proofs.MachineGcd.{signed_answer}
use Rattle.ratio_integer.proofs.signed_types.IsizeInteger.gcd.Goals as goal

pub overflow_cast-result : goal.overflow_cast-result
overflow_cast-result c = (signed_answer w64 _ c.ranges.self c.ranges.o c.requires c.unsigned_abs.ensures.value c.unsigned_abs-2.ensures.value c.binary_gcd.ensures).0

pub returns : goal.returns
returns c = (signed_answer w64 _ c.ranges.self c.ranges.o c.requires c.unsigned_abs.ensures.value c.unsigned_abs-2.ensures.value c.binary_gcd.ensures).1
