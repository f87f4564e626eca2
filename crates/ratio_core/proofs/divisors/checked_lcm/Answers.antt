use Rattle.ratio_core.proofs.DivisorLemmas.{lcm_numer_out, lcm_of_fractions}
use Rattle.ratio_core.proofs.divisors.checked_lcm.Goals as goal

pub returns-in_err-numer : goal.returns-in_err-numer
returns-in_err-numer g c = rw c.from_residual.ensures (lcm_numer_out _ _ _ _ _ _ c.requires.left c.requires.right c.in_err-numer.ensures)

pub returns : goal.returns
returns g c = record {
  pair = lcm_of_fractions _ _ _ _ c.requires.left c.requires.right _ _ c.in_ok-numer.ensures.1 c.gcd-denom.ensures;
  first_held = c.held-2.ensures.range;
  second_held = c.held-3.ensures.range;
}
