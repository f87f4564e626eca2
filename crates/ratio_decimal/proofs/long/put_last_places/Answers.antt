use Rattle.std.specs.Prelude.{IsAscii}
use Rattle.std.proofs.Common.{◌^◌, lit≤, refl, subst, sym}
use Rattle.ratio_decimal.proofs.DecimalLemmas.{digits_ascii, one_inside}
use Rattle.ratio_decimal.proofs.LongLemmas.{last_written}
use Rattle.ratio_decimal.proofs.long.put_last_places.Goals as goal

pub bounds-buf-start : goal.bounds-buf-start
bounds-buf-start c =
    let places = c.rounded_places-digit in
    let start = c.put_digits-start in
    one_inside places.result.1 (10 ^ 38) 38 81 start.result c.args.buf.now start.new.buf (lit≤ tt) refl places.ensures.part c.requires.room start.auto.buf start.ensures.written

pub returns-clause-written : goal.returns-clause-written
returns-clause-written c =
    let places = c.rounded_places-digit in
    let start = c.put_digits-start in
    last_written _ places.result.1 start.result places.result.0 c.args.buf.now start.new.buf places.ensures.digit places.ensures.part places.ensures.rounded c.requires.room start.auto.buf start.ensures.written

pub returns-clause-ascii : goal.returns-clause-ascii
returns-clause-ascii c = subst IsAscii (sym (returns-clause-written c)) (digits_ascii 39 _)
