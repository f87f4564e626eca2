use Rattle.std.proofs.Common.{◌<ℤ◌, pos, subst, sym}
use Rattle.ratio_core.proofs.SumLemmas.{fits_by}
use Rattle.num_rational.specs.Operators.{CanDivide, numbers}
use Rattle.tests_fractions.proofs.ratios.forms.quotient.Goals as goal

pub every_quotient-requires : goal.every_quotient-requires
every_quotient-requires g c =
    let right = subst (λ p. pos 0 <ℤ p.1) (sym c.ratio-y.ensures) c.requires.right in
    let can : CanDivide g.T.Integer.lo g.T.Integer.hi (numbers c.args.x) (numbers c.ratio-y.result) = record { left_positive = c.requires.left; right_positive = right; answered = fits_by _ _ _ _ _ _ c.in_ok-checked_div.ensures } in
    record { named = can; operand = subst (CanDivide g.T.Integer.lo g.T.Integer.hi (numbers c.args.x)) c.ratio-y.ensures can }
