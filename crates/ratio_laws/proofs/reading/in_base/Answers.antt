use Rattle.ratio_laws.proofs.ReadingLawLemmas.{reads_its_text_in_base, refuses_below_zero_in_base, refuses_whole_in_base}
use Rattle.ratio_laws.proofs.reading.in_base.Goals as goal

pub returns-clause-back : goal.returns-clause-back
returns-clause-back g c =
    reads_its_text_in_base g.T.Primitive.BITS c.args.x.now g.met.T.Integer.range_law g.met.T.Primitive.width_law
    (rw c.numer.ensures.value at c.both_held.ensures.first) (rw c.denom.ensures.value at c.both_held.ensures.second)

pub returns-clause-whole : goal.returns-clause-whole
returns-clause-whole g c =
    refuses_whole_in_base g.T.Primitive.BITS c.args.x.now g.met.T.Integer.range_law g.met.T.Primitive.width_law
    (rw c.numer.ensures.value at c.both_held.ensures.first) (rw c.denom.ensures.value at c.both_held.ensures.second)

pub returns-clause-below : goal.returns-clause-below
returns-clause-below g c =
    refuses_below_zero_in_base g.T.Primitive.BITS c.args.x.now g.met.T.Integer.range_law g.met.T.Primitive.width_law
    (rw c.numer.ensures.value at c.both_held.ensures.first) (rw c.denom.ensures.value at c.both_held.ensures.second)
