use Rattle.std.specs.Prelude.{◌≡◌, ◌≢◌, pos, negsuc}
use Rattle.std.proofs.Common.{arith, ap, refl, sym, ◌∙◌}
use Rattle.std.proofs.lemmas.Int.{ints}
use Rattle.ratio_core.proofs.RemainderLemmas.{rest_by_minus_one}
use Rattle.ratio_core.proofs.remainder.truncated_rest.Goals as goal
use Rattle.ratio_core.proofs.remainder.truncated_rest.Goals.{else-lt-via-then-lt+else-is_zero, else-lt-via-else-lt}

pub plus-requires : goal.plus-requires
plus-requires g c =
    let m = g.met.T.Integer in
    grind (arith, ints, m.lt_law, m.zero_law, m.one_law, c.held.ensures.range, m.range_law)

pub returns-then-is_zero : goal.returns-then-is_zero
returns-then-is_zero g c =
    let v = g.T.Integer.value in
    let m = g.met.T.Integer in
    let sum : v c.plus.result ≡ pos 0 = c.if-is_zero.ensures.0 refl in
    let first : v c.ONE.result ≡ pos 1 = ap v c.ONE.ensures ∙ m.one_law in
    let minus_one : v c.args.q ≡ negsuc 0 = omega (arith, ints) in
    ap v c.ZERO-then-is_zero.ensures ∙ m.zero_law ∙ sym (rest_by_minus_one (v c.args.p) (v c.args.q) minus_one)

pub div_rem-requires-clause-held : goal.div_rem-requires-clause-held
div_rem-requires-clause-held g c =
    let v = g.T.Integer.value in
    let m = g.met.T.Integer in
    let other : v c.args.q ≢ negsuc 0 =
    elim c.else-lt.branch [ else-lt-via-then-lt+else-is_zero w ↦ (λ e. let first : v w.ONE.result ≡ pos 1 = ap v w.ONE.ensures ∙ m.one_law in let sum : v w.plus.result ≡ pos 0 = omega (arith, ints) in let bad = w.if-is_zero.ensures.1 sum in cc) | else-lt-via-else-lt w ↦ grind (arith, ints, m.zero_law, m.lt_law) ] in
    λ is. other is.denom
