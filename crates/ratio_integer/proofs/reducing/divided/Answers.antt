use Rattle.ratio_integer.proofs.LcmLemmas.{divisor_nonzero}
use Rattle.ratio_integer.proofs.LowestTerms.{cancelled_by_one, cancelled_quotients}
use Rattle.ratio_integer.proofs.reducing.divided.Goals as goal

pub returns-then-is_one : goal.returns-then-is_one
returns-then-is_one g c = cancelled_by_one _ _ _ c.requires.greatest (c.is_one.ensures.0 c.if-is_one.true)

pub div_rem-numer-requires-clause-nonzero : goal.div_rem-numer-requires-clause-nonzero
div_rem-numer-requires-clause-nonzero g c = divisor_nonzero _ _ _ c.requires.fraction c.requires.greatest

pub div_rem-denom-requires-clause-nonzero : goal.div_rem-denom-requires-clause-nonzero
div_rem-denom-requires-clause-nonzero g c = divisor_nonzero _ _ _ c.requires.fraction c.requires.greatest

pub returns : goal.returns
returns g c =
    cancelled_quotients _ _ (g.T.Integer.value c.args.divisor) _ _ c.requires.greatest c.div_rem-numer.ensures.quotient c.div_rem-denom.ensures.quotient
