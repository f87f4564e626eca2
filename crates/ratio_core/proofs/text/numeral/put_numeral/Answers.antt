use Rattle.std.proofs.Common.{refl, arith, rules}
use Rattle.ratio_core.proofs.Numerals.{digits_of_group, few_digits, group_fewer, group_fits, in_group, next_digit, next_group, power_some, some_digits}
use Rattle.ratio_core.proofs.text.numeral.put_numeral.Goals as goal

pub pow-unit-requires : goal.pow-unit-requires
pow-unit-requires c = omega (arith, group_fits c.args.base c.requires.high)

pub groups-init : goal.groups-init
groups-init c = record { whole = refl; room = omega (arith, few_digits c.args.base c.args.n c.requires.low c.ranges.n.fits); before = omega arith }

pub overflow_sub-at : goal.overflow_sub-at
overflow_sub-at c = omega (arith, c.groups.invariant.room, c.requires.room, digits_of_group c.args.base c.groups.high c.requires.low c.requires.high (omega (arith, c.groups-test.true)))

pub nonzero_rem-high : goal.nonzero_rem-high
nonzero_rem-high c = rw c.pow-unit.ensures (power_some c.args.base 16 c.requires.low)

pub overflow_cast-high : goal.overflow_cast-high
overflow_cast-high c = rw c.pow-unit.ensures (omega (arith, in_group c.args.base c.groups.high c.requires.low, group_fits c.args.base c.requires.high))

pub put_group-requires-clause-small : goal.put_group-requires-clause-small
put_group-requires-clause-small c = rw c.pow-unit.ensures (in_group c.args.base c.groups.high c.requires.low)

pub nonzero_div-high : goal.nonzero_div-high
nonzero_div-high c = rw c.pow-unit.ensures (power_some c.args.base 16 c.requires.low)

pub groups-smaller : goal.groups-smaller
groups-smaller c = rw c.pow-unit.ensures (group_fewer c.args.base c.groups.high c.requires.low (omega (arith, c.groups-test.true)))

pub groups-preserved : goal.groups-preserved
groups-preserved c =
    let l = c.groups in
    let wide = c.groups-test.true in
    let enough = digits_of_group c.args.base l.high c.requires.low c.requires.high (omega (arith, wide)) in
    rw c.pow-unit.ensures (next_group c.args.base c.args.n c.args.end l.high l.at c.args.upper c.args.buf.now l.buf c.put_group.new.buf c.requires.low c.requires.high (omega (arith, wide))
    (omega (arith, l.invariant.room, c.requires.room, enough)) (omega (arith, l.invariant.before, l.auto.buf, c.requires.inside)) (search rules)
    (rw c.pow-unit.ensures at c.put_group.ensures.written) l.invariant)

pub overflow_sub-at-in-digits : goal.overflow_sub-at-in-digits
overflow_sub-at-in-digits c = omega (arith, c.digits.invariant.room, c.requires.room, some_digits c.args.base c.digits.left c.requires.low (omega (arith, c.digits-test.true)))

pub digits-preserved : goal.digits-preserved
digits-preserved c =
    let l = c.digits in
    rw c.glyph.ensures (next_digit c.args.base c.args.n c.args.end l.left l.at c.args.upper c.args.buf.now l.buf c.requires.low (omega (arith, c.digits-test.true)) c.requires.room (omega (arith, l.invariant.before, l.auto.buf, c.requires.inside)) l.invariant)
