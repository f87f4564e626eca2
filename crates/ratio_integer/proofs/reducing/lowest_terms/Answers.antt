use Rattle.ratio_integer.proofs.LowestTerms.{held_lowest_cancelled, held_lowest_over_one}
use Rattle.ratio_integer.proofs.reducing.lowest_terms.Goals as goal

pub returns-then-is_one : goal.returns-then-is_one
returns-then-is_one g c = held_lowest_over_one _ _ _ _ c.both_held.ensures.first c.both_held.ensures.second (c.is_one.ensures.0 c.if-is_one.true)

pub returns : goal.returns
returns g c = held_lowest_cancelled _ _ _ _ _ _ c.both_held-2.ensures.first c.both_held-2.ensures.second c.requires c.cancelled-numer.ensures
