use Rattle.std.proofs.Common.{pos, refl}
use Rattle.std.proofs.lemmas.Iterator.{YieldsList-from_slice}
use Rattle.std.proofs.lemmas.Iterator.Consumers.{YieldsList-from_copied}
use Rattle.ratio_core.specs.Laws.{IsProduct}
use Rattle.num_rational.specs.Operators.{CanMultiply, numbers}
use Rattle.num_rational.proofs.FoldLemmas.{positive_along, whole_answered}
use Rattle.tests_fractions.proofs.ratios.folds.product.Goals as goal

pub checked_product_refs-requires : goal.checked_product_refs-requires
checked_product_refs-requires g c κs =
    ((refl, tt), (tt, (tt, positive_along numbers (λ x. x.now) c.args.items.now (YieldsList-from_slice c.args.items.now c.iter.ensures.rest) c.requires)))

pub checked_product-requires-clause-positive : goal.checked_product-requires-clause-positive
checked_product-requires-clause-positive g c =
    positive_along numbers (λ x. x) c.args.items.now (YieldsList-from_copied (YieldsList-from_slice c.args.items.now cc)) c.requires

pub every_product-requires : goal.every_product-requires
every_product-requires g c =
    let gave = c.in_ok-checked_product_refs.ensures in
    record { answered = whole_answered numbers (λ x. x.now) (CanMultiply g.T.Integer.lo g.T.Integer.hi) IsProduct gave.0 c.args.items.now (pos 1, pos 1) (gave.1.0, gave.1.1, λ whole. gave.1.2 refl) (YieldsList-from_slice c.args.items.now c.iter.ensures.rest) gave.2.0.answered }
