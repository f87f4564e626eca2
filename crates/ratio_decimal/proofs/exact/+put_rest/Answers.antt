use Rattle.ratio_decimal.proofs.ExactLemmas.{put_rest_digit}
use Rattle.ratio_decimal.proofs.exact.+put_rest.Goals as goal

pub returns : goal.returns
returns t c =
    put_rest_digit c.args.rest c.args.d c.multiple_over-digit.result.0 c.multiple_over-digit.result.1 c.args.places c.args.buf.now c.put_rest.new.buf
    c.if-places-eq0.false c.requires.rest c.multiple_over-digit.ensures c.requires.room c.put_rest.auto.buf c.put_rest.ensures
