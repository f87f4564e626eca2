use Rattle.std.specs.Prelude.{◌≡◌, ◌<◌, ◌^◌}
use Rattle.std.proofs.Common.{arith, ◌∙◌}
use Rattle.ratio_core.specs.Reading.{digits_sum}
use Rattle.ratio_core.proofs.NumberLemmas.{digits_value_sum}
use Rattle.ratio_decimal.proofs.typed.signed.part_terms.Goals as goal

pub returns-in-None : goal.returns-in-None
returns-in-None c =
    let great = c.in-None.ensures in
    (omega (arith, digits_value_sum 10 c.args.denom.now), λ small. absurd (omega (arith, small.1.0, digits_value_sum 10 c.args.denom.now)))

pub returns-then-d-eq0 : goal.returns-then-d-eq0
returns-then-d-eq0 c =
    let none = c.in-Some.ensures in
    omega (arith, c.if-d-eq0.true, digits_value_sum 10 c.args.denom.now)

pub returns-in-None-number_after : goal.returns-in-None-number_after
returns-in-None-number_after c =
    let great = c.in-None-number_after.ensures in
    let denom = c.in-Some.ensures in
    (omega (arith, digits_value_sum 10 c.args.denom.now), λ small. absurd (omega (arith, small.0, digits_value_sum 10 c.args.numer.now)))

pub returns-in-Some-number_after : goal.returns-in-Some-number_after
returns-in-Some-number_after c =
    let a = c.in-Some.ensures in
    let b = c.in-Some-number_after.ensures in
    let n_small : c.in-Some-number_after.n < 2 ^ 128 = omega arith in
    let d_small : c.in-Some.d < 2 ^ 128 = omega arith in
    let n_is : c.in-Some-number_after.n ≡ digits_sum 10 c.args.numer.now = b ∙ digits_value_sum 10 c.args.numer.now in
    let d_is : c.in-Some.d ≡ digits_sum 10 c.args.denom.now = a ∙ digits_value_sum 10 c.args.denom.now in
    ((omega (arith, n_is), (omega (arith, d_is), tt)), rw (← n_is, ← d_is) c.reduced.ensures)
