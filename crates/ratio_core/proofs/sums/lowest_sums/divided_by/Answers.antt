use Rattle.ratio_integer.proofs.Whole.{positive_nonzero}
use Rattle.ratio_core.proofs.JoinedLemmas.{exact_by, multiple_cut}
use Rattle.ratio_core.proofs.PartsSumLemmas.{gcd_positive}
use Rattle.ratio_core.proofs.sums.lowest_sums.divided_by.Goals as goal

pub div_rem-numer-requires-clause-nonzero : goal.div_rem-numer-requires-clause-nonzero
div_rem-numer-requires-clause-nonzero g c = positive_nonzero _ (gcd_positive _ _ _ c.requires.positive c.gcd_with-shared.ensures)

pub div_rem-denom-requires-clause-nonzero : goal.div_rem-denom-requires-clause-nonzero
div_rem-denom-requires-clause-nonzero g c = positive_nonzero _ (gcd_positive _ _ _ c.requires.positive c.gcd_with-shared.ensures)

pub returns : goal.returns
returns g c =
    let v = g.T.Integer.value in
    record {
      shared = v c.gcd_with-shared.result;
      gcd = c.gcd_with-shared.ensures;
      numer = exact_by _ _ _ c.gcd_with-shared.ensures.divisor.0 c.div_rem-numer.ensures.quotient;
      denom = multiple_cut (v c.args.n) (v c.args.m) (v c.args.g) _ _ c.requires.multiple c.gcd_with-shared.ensures c.div_rem-denom.ensures.quotient;
      numer_held = c.both_held-2.ensures.first;
      denom_held = c.both_held-2.ensures.second;
    }
