use Rattle.std.specs.Prelude.{IsAscii}
use Rattle.std.proofs.Common.{arith, subst, sym}
use Rattle.ratio_decimal.proofs.DecimalLemmas.{unsigned_ascii}
use Rattle.ratio_decimal.proofs.ExactLemmas.{cut_no_places, cut_written, whole_small}
use Rattle.ratio_decimal.proofs.PlacesLemmas.{few_places}
use Rattle.ratio_decimal.proofs.exact.put_cut.Goals as goal

pub returns-then-places-eq0-clause-written : goal.returns-then-places-eq0-clause-written
returns-then-places-eq0-clause-written c =
    cut_no_places c.args.n c.args.d c.args.places c.args.buf.now _ c.ranges.n.fits c.if-places-eq0.true c.requires.room c.put_digits.ensures.written

pub returns-then-places-eq0-clause-ascii : goal.returns-then-places-eq0-clause-ascii
returns-then-places-eq0-clause-ascii c =
    subst IsAscii (sym (returns-then-places-eq0-clause-written c)) (unsigned_ascii c.args.places _)

pub put_rest-requires-clause-room : goal.put_rest-requires-clause-room
put_rest-requires-clause-room c = let few = few_places c.args.d c.args.places c.requires.few c.ranges.d.fits in omega (arith, c.requires.room)

pub overflow_sub-point : goal.overflow_sub-point
overflow_sub-point c = let few = few_places c.args.d c.args.places c.requires.few c.ranges.d.fits in omega arith

pub put_whole-requires-clause-some : goal.put_whole-requires-clause-some
put_whole-requires-clause-some c = let few = few_places c.args.d c.args.places c.requires.few c.ranges.d.fits in omega arith

pub put_whole-requires-clause-small : goal.put_whole-requires-clause-small
put_whole-requires-clause-small c = whole_small c.args.n c.args.d c.args.places c.requires.positive c.requires.few c.ranges.d.fits c.ranges.n.fits

pub returns-clause-written : goal.returns-clause-written
returns-clause-written c =
    cut_written c.args.n c.args.d c.args.places c.args.buf.now c.put_rest.new.buf _ c.ranges.n.fits c.if-places-eq0.false c.requires.positive c.requires.few c.ranges.d.fits c.requires.room c.put_rest.auto.buf
    c.put_rest.ensures c.put_whole.ensures.written

pub returns-clause-ascii : goal.returns-clause-ascii
returns-clause-ascii c = subst IsAscii (sym (returns-clause-written c)) (unsigned_ascii c.args.places _)
