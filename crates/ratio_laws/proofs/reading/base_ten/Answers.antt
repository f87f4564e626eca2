use Rattle.ratio_laws.proofs.ReadingLawLemmas.{reads_its_text}
use Rattle.ratio_laws.proofs.reading.base_ten.Goals as goal

pub returns : goal.returns
returns g c =
    reads_its_text g.T.Primitive.BITS c.args.x.now g.met.T.Integer.range_law g.met.T.Primitive.width_law
    (rw c.numer.ensures.value at c.both_held.ensures.first) (rw c.denom.ensures.value at c.both_held.ensures.second)
