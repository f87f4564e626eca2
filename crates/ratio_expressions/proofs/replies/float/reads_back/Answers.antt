use Rattle.std.specs.Prelude.{ℤ}
use Rattle.std.specs.Float.{Float}
use Rattle.std.specs.Float.Ieee.{eq}
use Rattle.std.proofs.Common.{ap, subst}
use Rattle.ratio_decimal.specs.declared.rounding_rule.Rounding.TheVariants.{HalfEven}
use Rattle.ratio_big.specs.Fractions.{big_numbers}
use Rattle.ratio_big.specs.Multiples.{IsMultipleBy}
use Rattle.ratio_expressions.proofs.FloatLemmas.{reads_back_is}
use Rattle.ratio_expressions.proofs.replies.float.reads_back.Goals as goal

pub returns : goal.returns
returns c =
    let x = c.args.float in
    let value = big_numbers c.args.value.now in
    let rounded = big_numbers c.in_ok-rounded.rounded in
    let by = subst (λ (step : ℤ × ℤ). IsMultipleBy HalfEven value step rounded) c.in_ok-step.ensures c.in_ok-rounded.ensures.multiple in
    reads_back_is x c.args.places value rounded c.requires by (eq c.in_ok-nearest.nearest x) (ap (λ (y : Float). eq y x) c.in_ok-nearest.ensures.nearest)
