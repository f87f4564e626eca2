use Rattle.std.proofs.Common.{◌∙◌, Err, Ok, ap, refl, sym}
use Rattle.num_rational.specs.Ratio.{denominator, numerator}
use Rattle.ratio_c.specs.Crossing.{code_of_wide}
use Rattle.ratio_c.proofs.reading.wide_refusal.Goals as goal

pub returns-in-Ok : goal.returns-in-Ok
returns-in-Ok c = record { wide = Ok (numerator c.in-Ok.field-0, denominator c.in-Ok.field-0); is_wide = c.in-Ok.ensures; is_code = refl }

pub returns-in-ParseError : goal.returns-in-ParseError
returns-in-ParseError c = record { wide = Err c.in-Err.refusal; is_wide = c.in-Err.ensures; is_code = ap (λ kind. code_of_wide (Err kind)) (sym c.in-ParseError.is ∙ c.kind.ensures) }

pub returns-in-ZeroDenominator : goal.returns-in-ZeroDenominator
returns-in-ZeroDenominator c = record { wide = Err c.in-Err.refusal; is_wide = c.in-Err.ensures; is_code = ap (λ kind. code_of_wide (Err kind)) (sym c.in-ZeroDenominator.is ∙ c.kind.ensures) }
