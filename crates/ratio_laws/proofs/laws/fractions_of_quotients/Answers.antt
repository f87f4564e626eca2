use Rattle.ratio_approximation.proofs.FromQuotientsLemmas.{fraction_lowest, quotients_give_back}
use Rattle.ratio_laws.proofs.laws.fractions_of_quotients.Goals as goal

pub returns-clause-lowest : goal.returns-clause-lowest
returns-clause-lowest c = fraction_lowest

pub returns-clause-give_back : goal.returns-clause-give_back
returns-clause-give_back c = quotients_give_back
