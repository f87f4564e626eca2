use Rattle.std.proofs.Common.{pos, refl}
use Rattle.std.proofs.lemmas.Iterator.{YieldsList-from_slice}
use Rattle.std.proofs.lemmas.Iterator.Consumers.{YieldsList-from_copied}
use Rattle.ratio_core.specs.Laws.{IsSum}
use Rattle.num_rational.specs.Operators.{CanAdd, numbers}
use Rattle.num_rational.proofs.FoldLemmas.{positive_along, whole_answered}
use Rattle.tests_fractions.proofs.ratios.folds.sum.Goals as goal

pub checked_sum_refs-requires : goal.checked_sum_refs-requires
checked_sum_refs-requires g c κs =
    ((refl, tt), (tt, (tt, positive_along numbers (λ x. x.now) c.args.items.now (YieldsList-from_slice c.args.items.now c.iter.ensures.rest) c.requires)))

pub checked_sum-requires-clause-positive : goal.checked_sum-requires-clause-positive
checked_sum-requires-clause-positive g c =
    positive_along numbers (λ x. x) c.args.items.now (YieldsList-from_copied (YieldsList-from_slice c.args.items.now cc)) c.requires

pub every_sum-requires : goal.every_sum-requires
every_sum-requires g c =
    let gave = c.in_ok-checked_sum_refs.ensures in
    record { answered = whole_answered numbers (λ x. x.now) (CanAdd g.T.Integer.EXACT_SUMS g.T.Integer.lo g.T.Integer.hi) IsSum gave.0 c.args.items.now (pos 0, pos 1) (gave.1.0, gave.1.1, λ whole. gave.1.2 refl) (YieldsList-from_slice c.args.items.now c.iter.ensures.rest) gave.2.0.answered }
