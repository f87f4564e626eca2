use Rattle.std.specs.Prelude.{◌-◌, ◌^◌, ◌++◌, length}
use Rattle.std.proofs.Common.{arith}
use Rattle.ratio_core.specs.Reading.{digits_sum}
use Rattle.ratio_decimal.proofs.DecimalDigits.{power_some}
use Rattle.ratio_decimal.proofs.DecimalValues.{product_power_some}
use Rattle.ratio_core.proofs.NumberLemmas.{digits_value_sum}
use Rattle.ratio_decimal.proofs.TypedValues.{far_hundredth, less_down, less_turned, less_up}
use Rattle.ratio_decimal.proofs.reading.value.lowest_hundredth.Goals as goal

pub returns-in-None : goal.returns-in-None
returns-in-None c =
    let far = c.in-None.ensures in
    far_hundredth c.args.whole.now c.args.part.now c.args.down (digits_sum 10 c.args.exponent.now) c.only_zero.result c.requires.whole c.requires.part c.only_zero.ensures.short c.only_zero.ensures.brief
    (omega (arith, digits_value_sum 10 c.args.exponent.now)) c.only_zero.ensures.value

pub returns-in-None-checked_add : goal.returns-in-None-checked_add
returns-in-None-checked_add c =
    let tens = c.in-Some.ensures in
    let far = c.in-None-checked_add.ensures in
    far_hundredth c.args.whole.now c.args.part.now c.args.down (digits_sum 10 c.args.exponent.now) c.only_zero-in-None-checked_add.result c.requires.whole c.requires.part c.only_zero-in-None-checked_add.ensures.short
    c.only_zero-in-None-checked_add.ensures.brief (omega (arith, digits_value_sum 10 c.args.exponent.now)) c.only_zero-in-None-checked_add.ensures.value

pub returns-in-Some-checked_add : goal.returns-in-Some-checked_add
returns-in-Some-checked_add c =
    let tens = c.in-Some.ensures in
    let more = c.in-Some-checked_add.ensures in
    less_down (digits_sum 10 (c.args.whole.now ++ c.args.part.now)) (10 ^ length c.args.part.now) c.in-Some-checked_add.more (digits_sum 10 c.args.exponent.now) c.args.down c.point_moved_left.result c.if-down.true
    (omega (arith, digits_value_sum 10 c.args.exponent.now)) (let some = product_power_some (length c.args.part.now) (digits_sum 10 c.args.exponent.now) in omega arith) c.point_moved_left.ensures

pub returns-then-tens-lt2 : goal.returns-then-tens-lt2
returns-then-tens-lt2 c =
    let tens = c.in-Some.ensures in
    let low = c.if-tens-lt2.true in
    less_turned (digits_sum 10 (c.args.whole.now ++ c.args.part.now)) (10 ^ length c.args.part.now) (2 - c.in-Some.tens) (digits_sum 10 c.args.exponent.now) c.args.down c.point_moved_left-then-tens-lt2.result c.if-down.false
    (omega (arith, digits_value_sum 10 c.args.exponent.now)) (power_some (length c.args.part.now)) c.point_moved_left-then-tens-lt2.ensures

pub returns-else-tens-lt2 : goal.returns-else-tens-lt2
returns-else-tens-lt2 c =
    let tens = c.in-Some.ensures in
    let low = c.if-tens-lt2.false in
    less_up (digits_sum 10 (c.args.whole.now ++ c.args.part.now)) (10 ^ length c.args.part.now) (c.in-Some.tens - 2) (digits_sum 10 c.args.exponent.now) c.args.down c.point_moved_right.result c.if-down.false
    (omega (arith, digits_value_sum 10 c.args.exponent.now)) (power_some (length c.args.part.now)) c.point_moved_right.ensures
