use Rattle.std.proofs.Common.{pos, refl}
use Rattle.std.proofs.lemmas.Iterator.{YieldsList-from_slice}
use Rattle.std.proofs.lemmas.Iterator.Consumers.{YieldsList-from_copied}
use Rattle.ratio_core.specs.Laws.{IsSum}
use Rattle.num_rational.specs.Operators.{CanAdd, numbers}
use Rattle.num_rational.proofs.FoldLemmas.{along_front}
use Rattle.tests_fractions.proofs.ratios.folds.every_sum.Goals as goal

pub sum-by_value-requires-clause-answered : goal.sum-by_value-requires-clause-answered
sum-by_value-requires-clause-answered g c xs t gave =
    record { answered = along_front numbers (λ x. x) (CanAdd g.T.Integer.EXACT_SUMS g.T.Integer.lo g.T.Integer.hi) IsSum c.args.items.now (pos 0, pos 1) (YieldsList-from_copied (YieldsList-from_slice c.args.items.now cc)) c.requires.answered xs t gave }

pub sum_refs-by_reference-requires : goal.sum_refs-by_reference-requires
sum_refs-by_reference-requires g c κs =
    ((refl, tt), (tt, (tt, λ xs t gave. record { answered = along_front numbers (λ x. x.now) (CanAdd g.T.Integer.EXACT_SUMS g.T.Integer.lo g.T.Integer.hi) IsSum c.args.items.now (pos 0, pos 1) (YieldsList-from_slice c.args.items.now cc) c.requires.answered xs t gave })))

pub sum-of_values-requires-clause-fits : goal.sum-of_values-requires-clause-fits
sum-of_values-requires-clause-fits g c xs t gave =
    record { answered = along_front numbers (λ x. x) (CanAdd g.T.Integer.EXACT_SUMS g.T.Integer.lo g.T.Integer.hi) IsSum c.args.items.now (pos 0, pos 1) (YieldsList-from_copied (YieldsList-from_slice c.args.items.now cc)) c.requires.answered xs t gave }

pub sum-of_references-requires : goal.sum-of_references-requires
sum-of_references-requires g c κs =
    ((refl, tt), (tt, (tt, λ xs t gave. record { answered = along_front numbers (λ x. x.now) (CanAdd g.T.Integer.EXACT_SUMS g.T.Integer.lo g.T.Integer.hi) IsSum c.args.items.now (pos 0, pos 1) (YieldsList-from_slice c.args.items.now cc) c.requires.answered xs t gave })))
