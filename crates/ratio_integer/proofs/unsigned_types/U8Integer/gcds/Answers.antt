-- Written by templates/write from templates/gcds_answers.antt.txt: change that file, and write this one anew.
use Rattle.std.specs.Int.{w8}
use Rattle.ratio_integer.proofs.MachineGcd.{unsigned_answer}
use Rattle.ratio_integer.proofs.unsigned_types.U8Integer.gcds.Goals as goal

pub overflow_cast-result : goal.overflow_cast-result
overflow_cast-result c = unsigned_answer w8 _ c.ranges.a c.ranges.b c.requires.left_held c.binary_gcds-left.ensures.left

pub overflow_cast-result-2 : goal.overflow_cast-result-2
overflow_cast-result-2 c = unsigned_answer w8 _ c.ranges.c c.ranges.d c.requires.right_held c.binary_gcds-left.ensures.right
