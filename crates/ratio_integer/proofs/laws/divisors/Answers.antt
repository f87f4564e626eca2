use Rattle.ratio_integer.proofs.LcmLemmas.{gcd_held_but_three}
use Rattle.ratio_integer.proofs.laws.divisors.Goals as goal

pub returns : goal.returns
returns c = gcd_held_but_three
