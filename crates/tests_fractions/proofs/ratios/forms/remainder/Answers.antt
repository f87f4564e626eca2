use Rattle.std.proofs.Common.{◌<ℤ◌, pos, subst, sym}
use Rattle.num_rational.specs.Operators.{CanTakeRemainder, numbers}
use Rattle.tests_fractions.proofs.ratios.forms.remainder.Goals as goal

pub every_remainder-requires : goal.every_remainder-requires
every_remainder-requires g c =
    let right = subst (λ p. pos 0 <ℤ p.1) (sym c.ratio-y.ensures) c.requires.right in
    let can : CanTakeRemainder g.T.Integer.lo g.T.Integer.hi (numbers c.args.x) (numbers c.ratio-y.result) = record { left_positive = c.requires.left; right_positive = right; answered = c.in_ok-checked_rem.ensures.0 } in
    record { named = can; operand = subst (CanTakeRemainder g.T.Integer.lo g.T.Integer.hi (numbers c.args.x)) c.ratio-y.ensures can }
