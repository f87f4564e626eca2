use Rattle.std.proofs.Common.{ap, refl, ◌∙◌}
use Rattle.ratio_integer.specs.SignedBits.{greatest64, least64}
use Rattle.either.specs.declared.Either.TheVariants.{Left}
use Rattle.num_rational.specs.Ratio.{denominator, numerator}
use Rattle.ratio_lines.specs.Answers.{order_text}
use Rattle.ratio_lines.proofs.Divisions.{answered_number, divides, lowest_number}
use Rattle.ratio_lines.proofs.operator.apply_operator.Goals as goal

pub returns-in-Div-2 : goal.returns-in-Div-2
returns-in-Div-2 c =
    rw c.in-Div-2.is
    (divides (numerator c.args.right, denominator c.args.right) _ _ _ c.if-is_zero.ensures.1 (lowest_number least64 greatest64 _ _ c.checked_div.ensures) c.result_outcome-in-Div-2.ensures)

pub returns-in-Rem-2 : goal.returns-in-Rem-2
returns-in-Rem-2 c =
    rw c.in-Rem-2.is
    (divides (numerator c.args.right, denominator c.args.right) _ _ _ c.if-is_zero-2.ensures.1 (answered_number least64 greatest64 _ _ _ c.checked_rem.ensures) c.result_outcome-in-Rem-2.ensures)

pub returns-in-Div : goal.returns-in-Div
returns-in-Div c = rw (c.in-Div.is, c.if-is_zero.ensures.0 refl) refl

pub returns-in-Cmp : goal.returns-in-Cmp
returns-in-Cmp c = rw c.in-Cmp.is (ap Left (c.order_sign.ensures ∙ ap order_text c.cmp.ensures))
