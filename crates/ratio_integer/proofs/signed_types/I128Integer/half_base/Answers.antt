-- Written by templates/write from templates/half_base_answers.antt.txt: change that file, and write this one anew.
use Rattle.std.proofs.Common.{◌-◌, ◌^◌, lit≤, refl}
use Rattle.ratio_integer.proofs.HalfLemmas.{signed_number}
use Rattle.ratio_integer.proofs.signed_types.I128Integer.half_base.Goals as goal

pub returns : goal.returns
returns c = (refl, signed_number (2 ^ (64 - 1)) (lit≤ tt))
