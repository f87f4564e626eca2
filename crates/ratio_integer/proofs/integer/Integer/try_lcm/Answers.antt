use Rattle.std.specs.Prelude.{◌≡◌, ◌≢◌, ◌⊎◌, ◌≤ℤ◌, ◌<ℤ◌, ◌*ℤ◌, pos, unsigned_abs, true, false}
use Rattle.std.proofs.Common.{arith, ap, inl, inr, refl, sym, ◌∙◌}
use Rattle.std.proofs.lemmas.Int.{ints}
use Rattle.ratio_integer.specs.Comparison.{no, yes}
use Rattle.ratio_integer.specs.Division.{IsLcmOf}
use Rattle.ratio_integer.proofs.LcmLemmas.{below_zero, divisor_nonzero, from_zero, lcm_by_gcd, lcm_held, lcm_of_same, lcm_of_zero, magnitude_held, zero_held}
use Rattle.ratio_integer.proofs.integer.Integer.try_lcm.Given.{Over}
use Rattle.ratio_integer.proofs.integer.Integer.try_lcm.Goals as goal
use Rattle.ratio_integer.proofs.integer.Integer.try_lcm.Goals.{After-div_rem-part, then-is_zero-via-then-is_zero, then-is_zero-via-else-is_zero+then-is_zero-2}

-- the quotient times the other number is the multiple, but for its sign
product_is : (g : Over) (c : After-div_rem-part g) → (let v = g.Self.Integer.value in IsLcmOf (v c.args.self) (v c.args.o) (pos (unsigned_abs (v c.div_rem-part.result.0 *ℤ v c.args.o))))
product_is g c =
    let right : g.Self.Integer.value c.args.o ≢ pos 0 = grind (arith, c.is_zero-else-is_zero.ensures) in
    lcm_by_gcd _ _ _ _ right c.gcd.ensures c.div_rem-part.ensures.quotient

pub returns-then-is_zero : goal.returns-then-is_zero
returns-then-is_zero g c =
    let v = g.Self.Integer.value in
    let m = g.met.Self.Integer in
    let zero = ap v c.ZERO.ensures ∙ m.zero_law in
    let either : (v c.args.self ≡ pos 0) ⊎ (v c.args.o ≡ pos 0) =
    elim c.then-is_zero.branch [ then-is_zero-via-then-is_zero w ↦ inl (w.if-is_zero.ensures.0 refl) | then-is_zero-via-else-is_zero+then-is_zero-2 w ↦ inr (w.if-is_zero-2.ensures.0 refl) ] in
    let is = lcm_of_zero _ _ (v c.ZERO.result) either zero in
    (lcm_held _ _ _ _ _ is (zero_held _ _ _ m.range_law zero), is)

pub gcd-requires : goal.gcd-requires
gcd-requires g c =
    let v = g.Self.Integer.value in
    let m = g.met.Self.Integer in
    let left : v c.args.self ≢ pos 0 = grind (arith, c.is_zero.ensures) in
    let right : v c.args.o ≢ pos 0 = grind (arith, c.is_zero-else-is_zero.ensures) in
    let apart : v c.args.self ≢ v c.args.o = (λ e. let bad : false ≡ true = c.if-eq.ensures ∙ (m.eq_law c.args.self c.args.o).1 e in cc) in
    grind (arith, ints)

pub div_rem-part-requires-clause-nonzero : goal.div_rem-part-requires-clause-nonzero
div_rem-part-requires-clause-nonzero g c =
    let right : g.Self.Integer.value c.args.o ≢ pos 0 = grind (arith, c.is_zero-else-is_zero.ensures) in
    divisor_nonzero _ _ _ right c.gcd.ensures

pub returns-in-None : goal.returns-in-None
returns-in-None g c =
    let v = g.Self.Integer.value in
    let m = g.met.Self.Integer in
    let is = product_is g (goal.at.returns-in-None g c).After-div_rem-part in
    λ held. c.in-None.ensures (magnitude_held _ _ (v c.div_rem-part.result.0) (v c.args.o) m.range_law c.held-3.ensures.range c.held-2.ensures.range (held.each _ is))

pub returns-then-lt : goal.returns-then-lt
returns-then-lt g c =
    let v = g.Self.Integer.value in
    let m = g.met.Self.Integer in
    let test : v c.ZERO-then-eq.result ≡ pos 0 = ap v c.ZERO-then-eq.ensures ∙ m.zero_law in
    let zero : v c.ZERO-then-lt.result ≡ pos 0 = ap v c.ZERO-then-lt.ensures ∙ m.zero_law in
    let negative : v c.args.self <ℤ v c.ZERO-then-eq.result = yes _ (m.lt_law c.args.self c.ZERO-then-eq.result) (sym c.if-lt.ensures) in
    let is = lcm_of_same _ _ ((m.eq_law c.args.self c.args.o).0 (sym c.if-eq.ensures)) in
    below_zero v _ _ _ _ (v c.args.self) _ _ _ is test zero negative c.try_minus.ensures

pub returns-else-lt : goal.returns-else-lt
returns-else-lt g c =
    let v = g.Self.Integer.value in
    let m = g.met.Self.Integer in
    let test : v c.ZERO-then-eq.result ≡ pos 0 = ap v c.ZERO-then-eq.ensures ∙ m.zero_law in
    let up : v c.ZERO-then-eq.result ≤ℤ v c.args.self = no _ (m.lt_law c.args.self c.ZERO-then-eq.result) (sym c.if-lt.ensures) in
    let is = lcm_of_same _ _ ((m.eq_law c.args.self c.args.o).0 (sym c.if-eq.ensures)) in
    from_zero _ _ _ _ (v c.args.self) _ is test up c.held.ensures.range

pub returns-then-lt-2 : goal.returns-then-lt-2
returns-then-lt-2 g c =
    let v = g.Self.Integer.value in
    let m = g.met.Self.Integer in
    let test : v c.ZERO-in-Some.result ≡ pos 0 = ap v c.ZERO-in-Some.ensures ∙ m.zero_law in
    let zero : v c.ZERO-then-lt-2.result ≡ pos 0 = ap v c.ZERO-then-lt-2.ensures ∙ m.zero_law in
    let negative : v c.in-Some.product <ℤ v c.ZERO-in-Some.result = yes _ (m.lt_law c.in-Some.product c.ZERO-in-Some.result) (sym c.if-lt-2.ensures) in
    let is = product_is g (goal.at.returns-then-lt-2 g c).After-div_rem-part in
    below_zero v _ _ _ _ (v c.in-Some.product) _ _ _ (rw c.in-Some.ensures.1 is) test zero negative c.try_minus-then-lt-2.ensures

pub returns-else-lt-2 : goal.returns-else-lt-2
returns-else-lt-2 g c =
    let v = g.Self.Integer.value in
    let m = g.met.Self.Integer in
    let test : v c.ZERO-in-Some.result ≡ pos 0 = ap v c.ZERO-in-Some.ensures ∙ m.zero_law in
    let up : v c.ZERO-in-Some.result ≤ℤ v c.in-Some.product = no _ (m.lt_law c.in-Some.product c.ZERO-in-Some.result) (sym c.if-lt-2.ensures) in
    let is = product_is g (goal.at.returns-else-lt-2 g c).After-div_rem-part in
    from_zero _ _ _ _ (v c.in-Some.product) _ (rw c.in-Some.ensures.1 is) test up (rw c.in-Some.ensures.1 c.in-Some.ensures.0)
