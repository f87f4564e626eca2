use Rattle.std.specs.Fmt.{WritesStyledOnOk, formatter_spec, padded_integral}
use Rattle.std.proofs.Common.{◌∙◌, subst}
use Rattle.num_rational.specs.Padding.{padded_base_ten}
use Rattle.num_rational.proofs.PrecisionLemmas.{long_padded}
use Rattle.ratio_decimal.proofs.PrecisionLemmas.{only_half_even}
use Rattle.ratio_core.proofs.PrintingLemmas.{small_magnitude}
use Rattle.num_rational.proofs.printing.write_with_places.Goals as goal

pub returns-then-places-lt39 : goal.returns-then-places-lt39
returns-then-places-lt39 g c =
    let v = g.T.Integer.value in
    subst (λ text. WritesStyledOnOk g.W.Write.write_str_gives c.args.f.now c.write_base_ten.result (padded_base_ten (padded_integral (formatter_spec c.args.f.now)) text) c.write_base_ten.new.f)
    (c.as_str.ensures ∙ only_half_even c.args.places (v c.args.numer) (v c.args.denom) c.decimal-text.result c.requires c.decimal-text.ensures)
    c.write_base_ten.ensures.styled

pub returns-else-places-lt39 : goal.returns-else-places-lt39
returns-else-places-lt39 g c =
    let t = g.T.Integer in
    let m = g.met.T in
    let small = small_magnitude t.lo t.hi g.T.Primitive.BITS in
    let n = t.value c.args.numer in
    let d = t.value c.args.denom in
    subst (λ bytes. WritesStyledOnOk g.W.Write.write_str_gives c.args.f.now c.write_places.result bytes c.write_places.new.f)
    (long_padded (padded_integral (formatter_spec c.args.f.now)) c.args.places n d c.if-places-lt39.false c.requires
    (small n m.Integer.range_law m.Primitive.width_law c.both_held.ensures.first) (small d m.Integer.range_law m.Primitive.width_law c.both_held.ensures.second))
    c.write_places.ensures
