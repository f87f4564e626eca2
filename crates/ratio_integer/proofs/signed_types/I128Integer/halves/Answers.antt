-- Written by templates/write from templates/halves_answers.antt.txt: change that file, and write this one anew.
use Rattle.std.specs.Int.{w128}
use Rattle.std.proofs.Common.{◌-◌, ◌^◌, lit≤, rules}
use Rattle.ratio_integer.proofs.HalfLemmas.{signed_halves}
use Rattle.ratio_integer.proofs.signed_types.I128Integer.halves.Goals as goal

pub returns : goal.returns
returns c _ = signed_halves w128 (2 ^ (64 - 1)) (lit≤ tt) _ _ _ c.ranges.self (search rules) (search rules) c.div_euclid.ensures c.rem_euclid.ensures.value
