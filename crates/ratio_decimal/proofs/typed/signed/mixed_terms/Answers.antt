use Rattle.std.specs.Prelude.{◌≡◌, ◌<◌, ◌^◌}
use Rattle.std.proofs.Common.{arith, ◌∙◌}
use Rattle.ratio_core.specs.Reading.{digits_sum}
use Rattle.ratio_core.proofs.NumberLemmas.{digits_value_sum}
use Rattle.ratio_decimal.proofs.TypedValues.{mixed_some, mixed_terms, mixed_wide}
use Rattle.ratio_decimal.proofs.typed.signed.mixed_terms.Goals as goal

pub returns-in-None : goal.returns-in-None
returns-in-None c =
    let great = c.in-None.ensures in
    (mixed_some (digits_sum 10 c.args.numer.now) (digits_sum 10 c.args.denom.now) c.in-Ok.part.numer c.in-Ok.part.denom c.in-Ok.ensures.1, λ small. absurd (omega (arith, small.0, digits_value_sum 10 c.args.whole.now)))

pub returns-in-None-whole_before : goal.returns-in-None-whole_before
returns-in-None-whole_before c =
    let a = digits_sum 10 c.args.whole.now in
    let b = digits_sum 10 c.args.numer.now in
    let d = digits_sum 10 c.args.denom.now in
    let number = c.in-Some.ensures in (
      mixed_some b d c.in-Ok.part.numer c.in-Ok.part.denom c.in-Ok.ensures.1,
      λ small. mixed_wide a b d c.in-Ok.part.numer c.in-Ok.part.denom c.in-Some.number (number ∙ digits_value_sum 10 c.args.whole.now) c.in-Ok.ensures.1 c.in-None-whole_before.ensures,
    )

pub returns-in-Some-whole_before : goal.returns-in-Some-whole_before
returns-in-Some-whole_before c =
    let a = digits_sum 10 c.args.whole.now in
    let b = digits_sum 10 c.args.numer.now in
    let d = digits_sum 10 c.args.denom.now in
    let number = c.in-Some.ensures in
    let number_is : c.in-Some.number ≡ a = number ∙ digits_value_sum 10 c.args.whole.now in
    let small : c.in-Some.number < 2 ^ 128 = omega arith in (
      (omega (arith, number_is), c.in-Ok.ensures.0),
      mixed_terms a b d c.in-Ok.part.numer c.in-Ok.part.denom c.in-Some.number c.in-Some-whole_before.terms.numer c.in-Some-whole_before.terms.denom number_is c.in-Ok.ensures.1 c.in-Some-whole_before.ensures,
    )
