use Rattle.std.proofs.Common.{false, sym, subst}
use Rattle.std.specs.Prelude.{IsAscii}
use Rattle.ratio_core.specs.declared.text.Form.TheVariants.{Decimal}
use Rattle.ratio_core.proofs.PrintingLemmas.{text_ascii}
use Rattle.ratio_core.proofs.text.put_base_ten_text.Goals as goal

pub invariant_of-text : goal.invariant_of-text
invariant_of-text g c =
    let t = g.T.Integer in
    let printed = c.put_base_ten_fraction-text-inside.ensures in
    let ascii = text_ascii t.lo t.hi g.T.Primitive.BITS Decimal false _ _ g.met.T.Integer.range_law g.met.T.Primitive.width_law c.both_held.ensures.first c.both_held.ensures.second in
    (printed.inside, subst IsAscii (sym printed.written) ascii)
