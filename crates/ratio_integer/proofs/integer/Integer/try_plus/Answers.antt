use Rattle.std.specs.Prelude.{◌≡◌, ◌≤ℤ◌, pos}
use Rattle.std.proofs.Common.{arith, ap, sym, ◌∙◌}
use Rattle.ratio_integer.specs.Comparison.{no}
use Rattle.ratio_integer.proofs.DivisionLemmas.{low_below}
use Rattle.std.proofs.lemmas.Int.{ints}
use Rattle.ratio_integer.proofs.integer.Integer.try_plus.Goals as goal

pub minus-requires : goal.minus-requires
minus-requires g c =
    let m = g.met.Self.Integer in grind (arith, ints, m.lt_law, m.zero_law, m.min_law, m.max_law)

pub returns-then-lt-2 : goal.returns-then-lt-2
returns-then-lt-2 g c =
    let m = g.met.Self.Integer in grind (arith, ints, m.lt_law, m.zero_law, m.min_law, m.max_law)

pub returns-then-lt-3 : goal.returns-then-lt-3
returns-then-lt-3 g c =
    let m = g.met.Self.Integer in λ h. grind (arith, ints, m.lt_law, m.zero_law, m.min_law, m.max_law, h)

pub plus-requires : goal.plus-requires
plus-requires g c =
    let m = g.met.Self.Integer in grind (arith, ints, m.lt_law, m.zero_law, m.min_law, m.max_law)

pub returns : goal.returns
returns g c =
    let m = g.met.Self.Integer in grind (arith, ints, m.lt_law, m.zero_law, m.min_law, m.max_law)

pub minus-requires-else-lt : goal.minus-requires-else-lt
minus-requires-else-lt g c =
    let v = g.Self.Integer.value in
    let m = g.met.Self.Integer in
    let zero : v c.ZERO.result ≡ pos 0 = ap v c.ZERO.ensures ∙ m.zero_law in
    let high : v c.MAX.result ≡ g.Self.Integer.hi = ap v c.MAX.ensures ∙ m.max_law in
    let up : v c.ZERO.result ≤ℤ v c.args.o = no _ (m.lt_law c.args.o c.ZERO.result) (sym c.if-lt.ensures) in
    let below : g.Self.Integer.lo ≤ℤ pos 0 = low_below g.Self.Integer.lo g.Self.Integer.hi m.range_law in
    record { above = omega (arith, ints); below = omega (arith, ints) }
