use Rattle.std.proofs.Common.{ap, sym, ◌∙◌, ◌≡◌}
use Rattle.std.specs.Prelude.{pos}
use Rattle.ratio_approximation.proofs.NearerZero.{nearer_above, nearer_below, nearer_both_above, nearer_both_below}
use Rattle.ratio_core.proofs.TestLemmas.{if_false}
use Rattle.ratio_approximation.proofs.simplest.within.choice.is_nearer.Goals as goal

pub returns-then-is_below_zero : goal.returns-then-is_below_zero
returns-then-is_below_zero g c =
    let v = g.T.Integer.value in
    let m = g.met.T.Integer in
    let zero : v c.ZERO.result ≡ pos 0 = ap v c.ZERO.ensures ∙ m.zero_law in
    nearer_below _ _ _ _ (c.have_unlike_signs.ensures.0 c.if-have_unlike_signs.true) c.plus-sum.ensures (c.is_below_zero.ensures.0 c.if-is_below_zero.true) (rw (sym zero, c.lt.ensures) (m.lt_law c.ZERO.result c.plus-sum.result))

pub returns-else-is_below_zero : goal.returns-else-is_below_zero
returns-else-is_below_zero g c =
    let v = g.T.Integer.value in
    let m = g.met.T.Integer in
    let zero : v c.ZERO-else-is_below_zero.result ≡ pos 0 = ap v c.ZERO-else-is_below_zero.ensures ∙ m.zero_law in
    nearer_above _ _ _ _ (c.have_unlike_signs.ensures.0 c.if-have_unlike_signs.true) c.plus-sum.ensures (if_false _ c.is_below_zero.ensures c.if-is_below_zero.false) (rw (sym zero, c.lt-else-is_below_zero.ensures) (m.lt_law c.plus-sum.result c.ZERO-else-is_below_zero.result))

pub returns-then-is_below_zero-2 : goal.returns-then-is_below_zero-2
returns-then-is_below_zero-2 g c =
    let m = g.met.T.Integer in
    nearer_both_below _ _ _ (if_false _ c.have_unlike_signs.ensures c.if-have_unlike_signs.false) (c.is_below_zero-else-have_unlike_signs.ensures.0 c.if-is_below_zero-2.true) (rw c.lt-then-is_below_zero-2.ensures (m.lt_law c.args.a c.args.p))

pub returns-else-is_below_zero-2 : goal.returns-else-is_below_zero-2
returns-else-is_below_zero-2 g c =
    let m = g.met.T.Integer in
    nearer_both_above _ _ _ (if_false _ c.have_unlike_signs.ensures c.if-have_unlike_signs.false) (if_false _ c.is_below_zero-else-have_unlike_signs.ensures c.if-is_below_zero-2.false) (rw c.lt-else-is_below_zero-2.ensures (m.lt_law c.args.p c.args.a))
