-- Written by templates/write from templates/half_base_answers.antt.txt: change that file, and write this one anew.
use Rattle.std.proofs.Common.{◌-◌, ◌^◌, lit≤, refl}
use Rattle.ratio_integer.proofs.HalfLemmas.{unsigned_number}
use Rattle.ratio_integer.proofs.unsigned_types.U64Integer.half_base.Goals as goal

pub returns : goal.returns
returns c = (refl, unsigned_number (2 ^ (32 - 1)) (lit≤ tt))
