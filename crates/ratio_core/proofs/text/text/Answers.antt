use Rattle.std.proofs.Common.{◌∙◌, ap, sym, subst}
use Rattle.ratio_core.specs.Printing.{ReadsBack, base_of, text_of}
use Rattle.ratio_core.specs.Reading.{IsFractionText, IsSlashedText}
use Rattle.ratio_core.proofs.PrintingLemmas.{small_magnitude}
use Rattle.ratio_core.proofs.ReadingBack.{base_back, decimal_back}
use Rattle.ratio_core.proofs.text.text.Goals as goal

pub returns-clause-reads_back : goal.returns-clause-reads_back
returns-clause-reads_back g c = λ decimal positive.
    let t = g.T.Integer in
    let m = g.met.T.Integer in
    let width = g.met.T.Primitive.width_law in
    let bits = g.T.Primitive.BITS in
    let n = t.value c.args.numer in
    let d = t.value c.args.denom in
    subst (λ bytes. ReadsBack t.lo t.hi (IsFractionText t.lo t.hi bytes) n d) (sym (c.put_text.ensures ∙ ap (λ form. text_of bits form c.args.alternate n d) decimal))
    (decimal_back bits c.args.alternate t.lo t.hi n d m.range_law c.both_held.ensures.first c.both_held.ensures.second
    (small_magnitude t.lo t.hi bits n m.range_law width c.both_held.ensures.first)
    (small_magnitude t.lo t.hi bits d m.range_law width c.both_held.ensures.second) positive)

pub returns-clause-reads_back_in_base : goal.returns-clause-reads_back_in_base
returns-clause-reads_back_in_base g c = λ bare above positive other.
    let t = g.T.Integer in
    let m = g.met.T.Integer in
    let width = g.met.T.Primitive.width_law in
    let bits = g.T.Primitive.BITS in
    let n = t.value c.args.numer in
    let d = t.value c.args.denom in
    subst (λ bytes. ReadsBack t.lo t.hi (IsSlashedText t.lo t.hi (base_of c.args.form) bytes) n d) (sym (c.put_text.ensures ∙ ap (λ alternate. text_of bits c.args.form alternate n d) bare))
    (base_back bits c.args.form t.lo t.hi n d m.range_law c.both_held.ensures.first c.both_held.ensures.second
    (small_magnitude t.lo t.hi bits n m.range_law width c.both_held.ensures.first)
    (small_magnitude t.lo t.hi bits d m.range_law width c.both_held.ensures.second) above positive other)
