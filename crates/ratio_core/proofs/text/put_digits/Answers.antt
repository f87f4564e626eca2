use Rattle.std.proofs.Common.{◌+◌, ◌-◌, ◌*◌, ◌/◌, ◌%◌, ◌^◌, arith, length-set}
use Rattle.std.proofs.lemmas.Fmt.{length-decimal-le_wide}
use Rattle.ratio_core.proofs.DigitGroups.{length_after_one, next, room}
use Rattle.ratio_core.proofs.text.put_digits.Goals as goal

pub overflow_sub-buf : goal.overflow_sub-buf
overflow_sub-buf c =
    let l = c.groups in
    omega (arith, room _ _ l.left l.at _ _ (omega (arith, c.groups-test.true)) l.auto.left-fits.fits l.invariant c.requires.room c.ranges.n.fits)

pub overflow_sub-at : goal.overflow_sub-at
overflow_sub-at c =
    let l = c.groups in
    omega (arith, room _ _ l.left l.at _ _ (omega (arith, c.groups-test.true)) l.auto.left-fits.fits l.invariant c.requires.room c.ranges.n.fits)

pub put_word-requires : goal.put_word-requires
put_word-requires c =
    let l = c.groups in
    let long = length_after_one _ _ l.left l.at _ _ (omega (arith, c.groups-test.true)) l.auto.left-fits.fits l.invariant in
    let enough = room _ _ l.left l.at _ _ (omega (arith, c.groups-test.true)) l.auto.left-fits.fits l.invariant c.requires.room c.ranges.n.fits in
    let kept = length-set l.buf (l.at - 1) (48 + (l.left - l.left / 10 ^ 19 * 10 ^ 19) % 10) in
    rw c.groups-high.ensures (record { room = omega (arith, long, enough); inside = omega (arith, l.invariant.before, l.auto.buf, c.requires.inside, kept) })

pub overflow_sub-at-in-groups : goal.overflow_sub-at-in-groups
overflow_sub-at-in-groups c =
    let l = c.groups in
    omega (arith, room _ _ l.left l.at _ _ (omega (arith, c.groups-test.true)) l.auto.left-fits.fits l.invariant c.requires.room c.ranges.n.fits)

pub groups-preserved : goal.groups-preserved
groups-preserved c =
    let l = c.groups in
    let w = c.put_word in
    let enough = room _ _ l.left l.at _ _ (omega (arith, c.groups-test.true)) l.auto.left-fits.fits l.invariant c.requires.room c.ranges.n.fits in
    let kept = length-set l.buf (l.at - 1) (48 + (l.left - c.groups-high.result * 10 ^ 19) % 10) in
    let quotient = c.groups-high.ensures in
    rw quotient
    (next _ _ l.left l.at _ _ (omega (arith, c.groups-test.true)) l.auto.left-fits.fits l.invariant w.result w.new.buf (rw quotient at w.ensures.start) (rw quotient at w.ensures.written)
    enough (omega (arith, l.invariant.before, l.auto.buf, c.requires.inside)) (omega (arith, w.auto.buf, kept)))

pub put_word-requires-2 : goal.put_word-requires-2
put_word-requires-2 c =
    let l = c.groups in
    record {
      room = omega (arith, l.invariant.length_is, c.requires.room, length-decimal-le_wide 39 c.args.n (omega arith) (omega (arith, c.ranges.n.fits)) (omega (arith, c.ranges.n.fits)));
      inside = omega (arith, l.invariant.before, l.auto.buf, c.requires.inside);
    }

pub returns-clause-start : goal.returns-clause-start
returns-clause-start c =
    omega (arith, c.groups.invariant.length_is, c.put_word-2.ensures.start, length-decimal-le_wide 39 c.args.n (omega arith) (omega (arith, c.ranges.n.fits)) (omega (arith, c.ranges.n.fits)))
