-- Written by templates/write from templates/halves_answers.antt.txt: change that file, and write this one anew.
use Rattle.std.specs.Int.{w64}
use Rattle.std.proofs.Common.{◌-◌, ◌^◌, lit≤, rules}
use Rattle.ratio_integer.proofs.HalfLemmas.{signed_halves}
use Rattle.ratio_integer.proofs.signed_types.I64Integer.halves.Goals as goal

pub returns : goal.returns
returns c _ = signed_halves w64 (2 ^ (32 - 1)) (lit≤ tt) _ _ _ c.ranges.self (search rules) (search rules) c.div_euclid.ensures c.rem_euclid.ensures.value
