use Rattle.std.specs.Prelude.{◌≡◌, ◌≢◌, pos, false, true}
use Rattle.std.proofs.Common.{arith, ap, refl, sym, ◌∙◌}
use Rattle.std.proofs.lemmas.Int.{ints}
use Rattle.ratio_integer.proofs.LowestTerms.{cancelled_fraction, cancelled_same, checks_lowest_moved, held_lowest_over_one}
use Rattle.ratio_core.proofs.CancellingLemmas.{cancelled_left, lowest_of_same, lowest_of_zero}
use Rattle.ratio_core.proofs.checked_new.checked_new.Goals as goal

pub returns-then-is_one : goal.returns-then-is_one
returns-then-is_one g c = held_lowest_over_one _ _ _ _ c.both_held.ensures.first c.both_held.ensures.second (c.is_one.ensures.0 c.if-is_one.true)

pub returns-then-is_zero-2 : goal.returns-then-is_zero-2
returns-then-is_zero-2 g c =
    let v = g.T.Integer.value in
    let m = g.met.T.Integer in
    let fraction : v c.args.d ≢ pos 0 = grind (arith, c.is_zero.ensures) in
    lowest_of_zero _ _ _ _ _ _ m.range_law fraction (c.if-is_zero-2.ensures.0 refl) (ap v c.ZERO.ensures ∙ m.zero_law) (ap v c.ONE.ensures ∙ m.one_law)

pub returns-then-eq : goal.returns-then-eq
returns-then-eq g c =
    let v = g.T.Integer.value in
    let m = g.met.T.Integer in
    let fraction : v c.args.d ≢ pos 0 = grind (arith, c.is_zero.ensures) in
    let equal = (m.eq_law c.args.n c.args.d).0 (sym c.if-eq.ensures) in
    lowest_of_same _ _ _ _ _ _ m.range_law fraction equal (ap v c.ONE-then-eq.ensures ∙ m.one_law) (ap v c.ONE-then-eq-2.ensures ∙ m.one_law)

pub cancelled-numer-requires-clause-held : goal.cancelled-numer-requires-clause-held
cancelled-numer-requires-clause-held g c =
    let v = g.T.Integer.value in
    let m = g.met.T.Integer in
    let numer : v c.args.n ≢ pos 0 = grind (arith, c.is_zero-2.ensures) in
    let denom : v c.args.d ≢ pos 0 = grind (arith, c.is_zero.ensures) in
    let apart : v c.args.n ≢ v c.args.d = (λ e. let bad : false ≡ true = c.if-eq.ensures ∙ (m.eq_law c.args.n c.args.d).1 e in cc) in
    grind (arith, ints)

pub sign_moved-requires : goal.sign_moved-requires
sign_moved-requires g c = cancelled_left _ _ _ _ (grind (arith, c.is_zero.ensures)) c.cancelled-numer.ensures

pub returns : goal.returns
returns g c =
    let v = g.T.Integer.value in
    let fraction : v c.args.d ≢ pos 0 = grind (arith, c.is_zero.ensures) in
    let is = c.cancelled-numer.ensures in
    checks_lowest_moved (λ r. v r.0) (λ r. v r.1) _ _ (v c.cancelled-numer.result.0) (v c.cancelled-numer.result.1) _ _ c.sign_moved.result (cancelled_fraction _ _ _ _ fraction is) fraction (cancelled_same _ _ _ _ is) c.sign_moved.ensures
