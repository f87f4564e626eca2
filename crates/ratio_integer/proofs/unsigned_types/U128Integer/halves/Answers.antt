-- Written by templates/write from templates/halves_answers.antt.txt: change that file, and write this one anew.
use Rattle.std.proofs.Common.{◌-◌, ◌^◌, lit≤}
use Rattle.ratio_integer.proofs.HalfLemmas.{unsigned_halves}
use Rattle.ratio_integer.proofs.unsigned_types.U128Integer.halves.Goals as goal

pub returns : goal.returns
returns c _ = unsigned_halves (2 ^ (64 - 1)) (lit≤ tt) _ _ _ c.div_euclid.ensures c.rem_euclid.ensures
