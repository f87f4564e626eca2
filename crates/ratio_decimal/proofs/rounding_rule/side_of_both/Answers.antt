use Rattle.std.specs.Prelude.{◌≡◌, ◌≤ℤ◌, ◌<ℤ◌, ◌-ℤ◌, pos}
use Rattle.std.proofs.Common.{ap, arith, sym, ◌∙◌}
use Rattle.std.proofs.lemmas.Int.{ints}
use Rattle.ratio_integer.specs.Comparison.{Tells, no, yes}
use Rattle.ratio_core.proofs.PartLemmas.{from_zero_held, part_above_zero}
use Rattle.ratio_core.proofs.TestLemmas.{if_false}
use Rattle.ratio_decimal.proofs.SideLemmas.{side_above, side_alone, side_at, side_below}
use Rattle.ratio_decimal.proofs.rounding_rule.side_of_both.Goals as goal

pub returns-then-is_zero : goal.returns-then-is_zero
returns-then-is_zero g c =
    let v = g.T.Integer.value in
    side_alone (v c.args.rest) (v c.args.d) (v c.args.left) (v c.args.b) c.requires.rest c.requires.left c.side_of.result (c.is_zero.ensures.0 c.if-is_zero.true) c.side_of.ensures

pub minus-after-requires : goal.minus-after-requires
minus-after-requires g c =
    let v = g.T.Integer.value in
    let m = g.met.T.Integer in
    let one : v c.ONE.result ≡ pos 1 = ap v c.ONE.ensures ∙ m.one_law in
    let room : v c.minus.result ≡ v c.args.d -ℤ v c.args.rest = c.minus.ensures in
    let above = c.requires.rest.above in
    let below = c.requires.rest.below in
    from_zero_held _ _ _ (v c.args.d) m.range_law c.held.ensures.range (omega (arith, ints)) (omega (arith, ints))

pub returns-then-lt : goal.returns-then-lt
returns-then-lt g c =
    let v = g.T.Integer.value in
    let m = g.met.T.Integer in
    let one : v c.ONE.result ≡ pos 1 = ap v c.ONE.ensures ∙ m.one_law in
    let room : v c.minus.result ≡ v c.args.d -ℤ v c.args.rest = c.minus.ensures in
    let after = c.minus-after.ensures in
    let tells : Tells c.lt.result (v c.args.rest <ℤ v c.minus-after.result) (v c.minus-after.result ≤ℤ v c.args.rest) = rw c.lt.ensures (m.lt_law c.args.rest c.minus-after.result) in
    let some = part_above_zero _ _ c.requires.left (if_false _ c.is_zero.ensures c.if-is_zero.false) in
    side_below (v c.args.rest) (v c.args.d) (v c.args.left) (v c.args.b) c.requires.rest c.requires.left (v c.minus-after.result) some (omega (arith, ints)) (yes c.lt.result tells c.if-lt.true)

pub returns-then-eq : goal.returns-then-eq
returns-then-eq g c =
    let v = g.T.Integer.value in
    let m = g.met.T.Integer in
    let one : v c.ONE.result ≡ pos 1 = ap v c.ONE.ensures ∙ m.one_law in
    let room : v c.minus.result ≡ v c.args.d -ℤ v c.args.rest = c.minus.ensures in
    let after = c.minus-after.ensures in
    let same : v c.args.rest ≡ v c.minus-after.result = (m.eq_law c.args.rest c.minus-after.result).0 (sym c.eq.ensures ∙ c.if-eq.true) in
    let some = part_above_zero _ _ c.requires.left (if_false _ c.is_zero.ensures c.if-is_zero.false) in
    side_at (v c.args.rest) (v c.args.d) (v c.args.left) (v c.args.b) c.requires.rest c.requires.left c.side_of-then-eq.result (v c.minus-after.result) some (omega (arith, ints)) same c.side_of-then-eq.ensures

pub returns-else-eq : goal.returns-else-eq
returns-else-eq g c =
    let v = g.T.Integer.value in
    let m = g.met.T.Integer in
    let one : v c.ONE.result ≡ pos 1 = ap v c.ONE.ensures ∙ m.one_law in
    let room : v c.minus.result ≡ v c.args.d -ℤ v c.args.rest = c.minus.ensures in
    let after = c.minus-after.ensures in
    let tells : Tells c.lt.result (v c.args.rest <ℤ v c.minus-after.result) (v c.minus-after.result ≤ℤ v c.args.rest) = rw c.lt.ensures (m.lt_law c.args.rest c.minus-after.result) in
    let other = if_false _ (m.eq_law c.args.rest c.minus-after.result) (sym c.eq.ensures ∙ c.if-eq.false) in
    let some = part_above_zero _ _ c.requires.left (if_false _ c.is_zero.ensures c.if-is_zero.false) in
    side_above (v c.args.rest) (v c.args.d) (v c.args.left) (v c.args.b) c.requires.rest c.requires.left (v c.minus-after.result) some (omega (arith, ints)) (no c.lt.result tells c.if-lt.false) other
