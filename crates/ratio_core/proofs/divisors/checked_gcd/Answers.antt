use Rattle.ratio_core.proofs.DivisorLemmas.{gcd_denom_out, gcd_numer_out, gcd_of_fractions}
use Rattle.ratio_core.proofs.divisors.checked_gcd.Goals as goal

pub returns-in_err-denom : goal.returns-in_err-denom
returns-in_err-denom g c = rw c.from_residual.ensures (gcd_denom_out _ _ _ _ _ _ c.requires.left c.requires.right c.in_err-denom.ensures)

pub returns-in_err-numer : goal.returns-in_err-numer
returns-in_err-numer g c = rw c.from_residual-in_err-numer.ensures (gcd_numer_out _ _ _ _ _ _ c.requires.left c.requires.right _ c.in_ok-denom.ensures.1 c.in_err-numer.ensures)

pub returns : goal.returns
returns g c = record {
  pair = gcd_of_fractions _ _ _ _ c.requires.left c.requires.right _ _ c.in_ok-numer.ensures c.in_ok-denom.ensures.1;
  first_held = c.held.ensures.range;
  second_held = c.held-2.ensures.range;
}
