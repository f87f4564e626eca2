use Rattle.ratio_laws.proofs.DecimalsReadBack.{exact_read}
use Rattle.ratio_core.proofs.PrintingLemmas.{small_magnitude}
use Rattle.num_rational.specs.Ratio.{denominator, numerator}
use Rattle.num_rational.specs.Reduced.{ratio_of}
use Rattle.ratio_laws.proofs.reading.exact_decimal.Goals as goal

pub returns : goal.returns
returns g c =
    let t = g.T.Integer in
    let x = c.args.x.now in
    let numer = rw c.numer.ensures.value at c.both_held.ensures.first in
    let denom = rw c.denom.ensures.value at c.both_held.ensures.second in
    λ text result exact answers.
    exact_read (λ y. numerator (ratio_of y)) (λ y. denominator (ratio_of y)) t.lo t.hi (numerator (ratio_of x)) (denominator (ratio_of x)) text result x.lowest numer denom
    (small_magnitude t.lo t.hi g.T.Primitive.BITS (numerator (ratio_of x)) g.met.T.Integer.range_law g.met.T.Primitive.width_law numer) exact answers
