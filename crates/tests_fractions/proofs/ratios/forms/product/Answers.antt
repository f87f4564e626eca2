use Rattle.std.proofs.Common.{◌<ℤ◌, pos, subst, sym}
use Rattle.ratio_core.proofs.SumLemmas.{fits_by}
use Rattle.num_rational.specs.Operators.{CanMultiply, numbers}
use Rattle.tests_fractions.proofs.ratios.forms.product.Goals as goal

pub every_product-requires : goal.every_product-requires
every_product-requires g c =
    let right = subst (λ p. pos 0 <ℤ p.1) (sym c.ratio-y.ensures) c.requires.right in
    let can : CanMultiply g.T.Integer.lo g.T.Integer.hi (numbers c.args.x) (numbers c.ratio-y.result) = record { left_positive = c.requires.left; right_positive = right; answered = fits_by _ _ _ _ _ _ c.in_ok-checked_mul.ensures } in
    record { named = can; operand = subst (CanMultiply g.T.Integer.lo g.T.Integer.hi (numbers c.args.x)) c.ratio-y.ensures can }
