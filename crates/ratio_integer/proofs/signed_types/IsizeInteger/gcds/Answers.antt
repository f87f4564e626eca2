-- Written by templates/write from templates/gcds_answers.antt.txt: change that file, and write this one anew.
use Rattle.std.specs.Int.{w64}
use Rattle.ratio_integer.proofs.MachineGcd.{signed_answer}
use Rattle.ratio_integer.proofs.signed_types.IsizeInteger.gcds.Goals as goal

pub overflow_cast-result : goal.overflow_cast-result
overflow_cast-result c = (signed_answer w64 _ c.ranges.a c.ranges.b c.requires.left_held c.unsigned_abs.ensures.value c.unsigned_abs-2.ensures.value c.binary_gcds-left.ensures.left).0

pub overflow_cast-result-2 : goal.overflow_cast-result-2
overflow_cast-result-2 c = (signed_answer w64 _ c.ranges.c c.ranges.d c.requires.right_held c.unsigned_abs-3.ensures.value c.unsigned_abs-4.ensures.value c.binary_gcds-left.ensures.right).0

pub returns-clause-left : goal.returns-clause-left
returns-clause-left c = (signed_answer w64 _ c.ranges.a c.ranges.b c.requires.left_held c.unsigned_abs.ensures.value c.unsigned_abs-2.ensures.value c.binary_gcds-left.ensures.left).1

pub returns-clause-right : goal.returns-clause-right
returns-clause-right c = (signed_answer w64 _ c.ranges.c c.ranges.d c.requires.right_held c.unsigned_abs-3.ensures.value c.unsigned_abs-4.ensures.value c.binary_gcds-left.ensures.right).1
