use Rattle.ratio_decimal.proofs.ShortDecimals.{both_out, fives_fit, powers_fit}
use Rattle.ratio_decimal.proofs.reading.value.short_terms.Goals as goal

pub pow-requires-2 : goal.pow-requires-2
pow-requires-2 c = fives_fit c.args.places c.without-numer.result.1 c.requires c.without-numer.ensures.few

pub overflow_mul-result : goal.overflow_mul-result
overflow_mul-result c = record { fits = rw (c.pow.ensures, c.pow-2.ensures) (powers_fit c.args.places c.without-odd.result.1 c.without-numer.result.1 c.requires c.without-odd.ensures.few c.without-numer.ensures.few) }

pub returns : goal.returns
returns c = rw (c.pow.ensures, c.pow-2.ensures) (both_out c.args.number c.args.places c.without-odd.result.0 c.without-odd.result.1 c.without-numer.result.0 c.without-numer.result.1 c.without-odd.ensures c.without-numer.ensures)
