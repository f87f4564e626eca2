use Rattle.std.proofs.Common.{false, sym, subst}
use Rattle.ratio_core.specs.Printing.{ReadsBack}
use Rattle.ratio_core.specs.Reading.{IsFractionText}
use Rattle.ratio_core.proofs.PrintingLemmas.{small_magnitude}
use Rattle.ratio_core.proofs.ReadingBack.{decimal_back}
use Rattle.ratio_core.proofs.TextLengths.{text_short}
use Rattle.ratio_core.proofs.text.base_ten_text.Goals as goal

pub returns-clause-reads_back : goal.returns-clause-reads_back
returns-clause-reads_back g c = λ positive.
    let t = g.T.Integer in
    let m = g.met.T.Integer in
    let width = g.met.T.Primitive.width_law in
    let bits = g.T.Primitive.BITS in
    let n = t.value c.args.numer in
    let d = t.value c.args.denom in
    subst (λ bytes. ReadsBack t.lo t.hi (IsFractionText t.lo t.hi bytes) n d) (sym c.put_base_ten_text.ensures)
    (decimal_back bits false t.lo t.hi n d m.range_law c.both_held.ensures.first c.both_held.ensures.second
    (small_magnitude t.lo t.hi bits n m.range_law width c.both_held.ensures.first)
    (small_magnitude t.lo t.hi bits d m.range_law width c.both_held.ensures.second) positive)

pub returns-clause-short : goal.returns-clause-short
returns-clause-short g c =
    let t = g.T.Integer in
    let m = g.met.T.Integer in
    rw c.put_base_ten_text.ensures
    (text_short g.T.Primitive.BITS t.lo t.hi (t.value c.args.numer) (t.value c.args.denom) m.range_law g.met.T.Primitive.width_law c.both_held.ensures.first c.both_held.ensures.second)
