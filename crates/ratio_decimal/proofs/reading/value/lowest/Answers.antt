use Rattle.std.specs.Prelude.{pos, ◌*◌, ◌^◌, ◌≤◌, ◌++◌, length}
use Rattle.std.proofs.Common.{subst, ◌∙◌}
use Rattle.ratio_integer.specs.Fraction.{IsLowestTermsOf}
use Rattle.ratio_decimal.specs.DecimalReading.{tens_above, tens_below}
use Rattle.ratio_core.specs.Reading.{digits_sum}
use Rattle.ratio_decimal.proofs.DecimalValues.{down_checks, far_checks, up_checks}
use Rattle.ratio_core.proofs.NumberLemmas.{digits_value_sum}
use Rattle.ratio_decimal.proofs.reading.value.lowest.Goals as goal

pub returns-in-None : goal.returns-in-None
returns-in-None c =
    let far = c.in-None.ensures in
    far_checks c.args.whole.now c.args.part.now c.args.down (digits_sum 10 c.args.exponent.now) c.only_zero.result c.requires.whole c.requires.part c.only_zero.ensures.short c.only_zero.ensures.brief
    (subst (λ x. 2 ^ 128 ≤ x) (digits_value_sum 10 c.args.exponent.now) far) c.only_zero.ensures.value

pub returns-then-down : goal.returns-then-down
returns-then-down c =
    down_checks (digits_sum 10 (c.args.whole.now ++ c.args.part.now)) (10 ^ length c.args.part.now) c.in-Some.tens (digits_sum 10 c.args.exponent.now) c.args.down c.point_moved_left.result c.if-down.true
    (c.in-Some.ensures ∙ digits_value_sum 10 c.args.exponent.now) c.point_moved_left.ensures

pub returns-else-down : goal.returns-else-down
returns-else-down c =
    up_checks (digits_sum 10 (c.args.whole.now ++ c.args.part.now)) (10 ^ length c.args.part.now) c.in-Some.tens (digits_sum 10 c.args.exponent.now) c.args.down c.point_moved_right.result c.if-down.false
    (c.in-Some.ensures ∙ digits_value_sum 10 c.args.exponent.now) c.point_moved_right.ensures

pub returns-in-Some-short_lowest : goal.returns-in-Some-short_lowest
returns-in-Some-short_lowest c =
    let short = c.in-Some-short_lowest.ensures in
    let p = c.in-Some-short_lowest.terms.numer in
    let q = c.in-Some-short_lowest.terms.denom in
    let k = length c.args.part.now in
    let s = digits_sum 10 (c.args.whole.now ++ c.args.part.now) in
    subst (λ e. IsLowestTermsOf (pos (s * tens_above c.args.down e)) (pos (10 ^ k * tens_below c.args.down e)) (pos p) (pos q)) (c.in-Some.ensures ∙ digits_value_sum 10 c.args.exponent.now) short
