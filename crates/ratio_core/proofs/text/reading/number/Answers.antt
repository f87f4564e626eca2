use Rattle.std.proofs.Common.{sym, ◌∙◌, arith, pos, ◌≤ℤ◌, ◌<ℤ◌}
use Rattle.std.proofs.lemmas.Int.{ints}
use Rattle.ratio_core.proofs.WidthLemmas.{signed_some, signed_none, unsigned_some, unsigned_none}
use Rattle.ratio_core.proofs.text.reading.number.Goals as goal

pub returns-in_err-ok : goal.returns-in_err-ok
returns-in_err-ok g c =
    let m = g.met.T.Integer in
    let below : g.T.Integer.lo <ℤ pos 0 = grind (arith, ints, m.lt_law, m.zero_law, m.min_law) in
    rw c.from_residual.ensures (signed_none g.T.Integer.value _ g.T.Integer.hi c.args.radix c.args.text.now c.requires.high m.range_law _ g.met.T.Primitive.width_law c.from_str_radix.result below c.from_str_radix.ensures.value (sym c.in_err-ok.was ∙ c.ok.ensures.value))

pub returns-in_err-ok-2 : goal.returns-in_err-ok-2
returns-in_err-ok-2 g c =
    let m = g.met.T.Integer in
    let above : pos 0 ≤ℤ g.T.Integer.lo = grind (arith, ints, m.lt_law, m.zero_law, m.min_law) in
    rw c.from_residual-in_err-ok-2.ensures (unsigned_none g.T.Integer.value _ g.T.Integer.hi c.args.radix c.args.text.now c.requires.high m.range_law _ g.met.T.Primitive.width_law c.from_str_radix-else-lt.result above c.from_str_radix-else-lt.ensures.value (sym c.in_err-ok-2.was ∙ c.ok-else-lt.ensures.value))

pub returns-in_ok-ok : goal.returns-in_ok-ok
returns-in_ok-ok g c =
    let m = g.met.T.Integer in
    let below : g.T.Integer.lo <ℤ pos 0 = grind (arith, ints, m.lt_law, m.zero_law, m.min_law) in
    signed_some g.T.Integer.value _ _ _ _ c.requires.high m.range_law _ g.met.T.Primitive.width_law c.from_str_radix.result c.in_ok-ok.field-0 _ below c.from_str_radix.ensures.value (sym c.in_ok-ok.was ∙ c.ok.ensures.value) c.from_i128.ensures

pub returns-in_ok-ok-2 : goal.returns-in_ok-ok-2
returns-in_ok-ok-2 g c =
    let m = g.met.T.Integer in
    let above : pos 0 ≤ℤ g.T.Integer.lo = grind (arith, ints, m.lt_law, m.zero_law, m.min_law) in
    unsigned_some g.T.Integer.value _ _ _ _ c.requires.high m.range_law _ g.met.T.Primitive.width_law c.from_str_radix-else-lt.result c.in_ok-ok-2.field-0 _ above c.from_str_radix-else-lt.ensures.value (sym c.in_ok-ok-2.was ∙ c.ok-else-lt.ensures.value) c.from_u128.ensures
