use Rattle.std.specs.Prelude.{◌≤◌, ◌^◌, IsAscii}
use Rattle.std.proofs.Common.{arith, subst, sym}
use Rattle.ratio_decimal.proofs.DecimalLemmas.{no_places, one_inside, point_written, power_small, unsigned_ascii}
use Rattle.ratio_decimal.proofs.places.put_unsigned.Goals as goal

pub returns-then-places-eq0-clause-written : goal.returns-then-places-eq0-clause-written
returns-then-places-eq0-clause-written c =
    no_places c.args.whole c.args.part c.args.power c.args.places 130 c.args.buf.now _ (omega (arith, c.ranges.whole.fits)) c.if-places-eq0.true c.requires.power c.requires.part c.requires.room c.put_digits.ensures.written

pub returns-then-places-eq0-clause-ascii : goal.returns-then-places-eq0-clause-ascii
returns-then-places-eq0-clause-ascii c =
    subst IsAscii (sym (returns-then-places-eq0-clause-written c)) (unsigned_ascii c.args.places _)

pub overflow_add-power : goal.overflow_add-power
overflow_add-power c =
    let most : c.args.power ≤ 10 ^ 38 = rw c.requires.power (power_small c.args.places c.requires.few) in
    record { fits = omega (arith, c.requires.part) }

pub bounds-buf-point : goal.bounds-buf-point
bounds-buf-point c =
    let back = c.put_digits-point in
    one_inside c.args.part c.args.power c.args.places 130 back.result c.args.buf.now back.new.buf c.requires.few c.requires.power c.requires.part c.requires.room back.auto.buf back.ensures.written

pub returns-clause-written : goal.returns-clause-written
returns-clause-written c =
    let back = c.put_digits-point in
    point_written c.args.whole c.args.part c.args.power c.args.places 130 back.result c.args.buf.now back.new.buf _ (omega (arith, c.ranges.whole.fits)) c.if-places-eq0.false c.requires.few c.requires.power c.requires.part c.requires.room back.auto.buf
    back.ensures.written c.put_digits-2.ensures.written

pub returns-clause-ascii : goal.returns-clause-ascii
returns-clause-ascii c =
    subst IsAscii (sym (returns-clause-written c)) (unsigned_ascii c.args.places _)
