use Rattle.ratio_integer.proofs.LowestTerms.{held_lowest_cancelled}
use Rattle.ratio_integer.proofs.reducing.both_lowest_terms.Goals as goal

pub returns-clause-left : goal.returns-clause-left
returns-clause-left g c =
    held_lowest_cancelled _ _ _ _ _ _ c.both_held.ensures.first c.both_held.ensures.second c.requires.left_positive c.both_cancelled-p.ensures.left

pub returns-clause-right : goal.returns-clause-right
returns-clause-right g c =
    held_lowest_cancelled _ _ _ _ _ _ c.both_held-2.ensures.first c.both_held-2.ensures.second c.requires.right_positive c.both_cancelled-p.ensures.right
