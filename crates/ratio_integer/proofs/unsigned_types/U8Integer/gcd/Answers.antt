use Rattle.std.specs.Int.{w8}
use Rattle.ratio_integer.proofs.MachineGcd.{unsigned_answer}
use Rattle.ratio_integer.proofs.unsigned_types.U8Integer.gcd.Goals as goal

pub overflow_cast-result : goal.overflow_cast-result
overflow_cast-result c = unsigned_answer w8 _ c.ranges.self c.ranges.o c.requires c.binary_gcd.ensures
