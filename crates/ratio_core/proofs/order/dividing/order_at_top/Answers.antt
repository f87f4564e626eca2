use Rattle.std.proofs.Common.{refl}
use Rattle.std.proofs.lemmas.Bool.{iff_false}
use Rattle.ratio_core.proofs.Rounds.{above-both, above-first, above-second}
use Rattle.ratio_core.proofs.order.dividing.order_at_top.Goals as goal

pub returns-in-true-true : goal.returns-in-true-true
returns-in-true-true g c =
    above-both _ _ _ _ _ _ g.met.T.Counted.range_law c.is_above_max.ensures.held c.is_above_max-2.ensures.held c.requires.left_nonzero c.requires.right_nonzero
    (c.in-true-true.ensures.answer.0 refl) (c.in-true-true.ensures'.answer.0 refl)

pub returns-in-true-false : goal.returns-in-true-false
returns-in-true-false g c =
    above-first _ _ _ _ _ _ g.met.T.Counted.range_law c.is_above_max.ensures.held c.is_above_max-2.ensures.held c.requires.left_nonzero c.requires.right_nonzero
    (c.in-true-false.ensures.answer.0 refl) (iff_false c.in-true-false.ensures'.answer refl)

pub returns-in-false-true : goal.returns-in-false-true
returns-in-false-true g c =
    above-second _ _ _ _ _ _ g.met.T.Counted.range_law c.is_above_max.ensures.held c.is_above_max-2.ensures.held c.requires.left_nonzero c.requires.right_nonzero
    (iff_false c.in-false-true.ensures.answer refl) (c.in-false-true.ensures'.answer.0 refl)
