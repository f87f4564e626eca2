use Rattle.std.proofs.Common.{◌<ℤ◌, pos, subst, sym}
use Rattle.num_rational.specs.Operators.{CanAdd, numbers}
use Rattle.tests_fractions.proofs.ratios.forms.sum.Goals as goal

pub every_sum-requires : goal.every_sum-requires
every_sum-requires g c =
    let right = subst (λ p. pos 0 <ℤ p.1) (sym c.ratio-y.ensures) c.requires.right in
    let can : CanAdd g.T.Integer.EXACT_SUMS g.T.Integer.lo g.T.Integer.hi (numbers c.args.x) (numbers c.ratio-y.result) = record { left_positive = c.requires.left; right_positive = right; answered = c.in_ok-checked_add.ensures.0 } in
    record { named = can; operand = subst (CanAdd g.T.Integer.EXACT_SUMS g.T.Integer.lo g.T.Integer.hi (numbers c.args.x)) c.ratio-y.ensures can }
