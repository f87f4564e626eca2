use Rattle.std.proofs.Common.{pos, refl}
use Rattle.std.proofs.lemmas.Iterator.{YieldsList-from_slice}
use Rattle.std.proofs.lemmas.Iterator.Consumers.{YieldsList-from_copied}
use Rattle.ratio_core.specs.Laws.{IsProduct}
use Rattle.num_rational.specs.Operators.{CanMultiply, numbers}
use Rattle.num_rational.proofs.FoldLemmas.{along_front}
use Rattle.tests_fractions.proofs.ratios.folds.every_product.Goals as goal

pub product-by_value-requires-clause-answered : goal.product-by_value-requires-clause-answered
product-by_value-requires-clause-answered g c xs t gave =
    record { answered = along_front numbers (λ x. x) (CanMultiply g.T.Integer.lo g.T.Integer.hi) IsProduct c.args.items.now (pos 1, pos 1) (YieldsList-from_copied (YieldsList-from_slice c.args.items.now cc)) c.requires.answered xs t gave }

pub product_refs-by_reference-requires : goal.product_refs-by_reference-requires
product_refs-by_reference-requires g c κs =
    ((refl, tt), (tt, (tt, λ xs t gave. record { answered = along_front numbers (λ x. x.now) (CanMultiply g.T.Integer.lo g.T.Integer.hi) IsProduct c.args.items.now (pos 1, pos 1) (YieldsList-from_slice c.args.items.now cc) c.requires.answered xs t gave })))

pub product-of_values-requires-clause-fits : goal.product-of_values-requires-clause-fits
product-of_values-requires-clause-fits g c xs t gave =
    record { answered = along_front numbers (λ x. x) (CanMultiply g.T.Integer.lo g.T.Integer.hi) IsProduct c.args.items.now (pos 1, pos 1) (YieldsList-from_copied (YieldsList-from_slice c.args.items.now cc)) c.requires.answered xs t gave }

pub product-of_references-requires : goal.product-of_references-requires
product-of_references-requires g c κs =
    ((refl, tt), (tt, (tt, λ xs t gave. record { answered = along_front numbers (λ x. x.now) (CanMultiply g.T.Integer.lo g.T.Integer.hi) IsProduct c.args.items.now (pos 1, pos 1) (YieldsList-from_slice c.args.items.now cc) c.requires.answered xs t gave })))
