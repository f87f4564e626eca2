use Rattle.std.proofs.Common.{◌≡◌, ◌∙◌, ◌<◌, ◌≤◌, ◌/◌, ◌^◌, ℕ, Bool, ap, arith, refl, rules, sym, subst}
use Rattle.std.specs.Prelude.{unsigned_abs, IsTrue}
use Rattle.std.proofs.lemmas.Int.{to_z-of_z}
use mir.Syntax.{w64}
use mir.Val.{SFits}
use Rattle.ratio_big.specs.Fractions.{big_numbers}
use Rattle.ratio_natural.specs.Number.{natural_of}
use Rattle.ratio_expressions.specs.Operators.{IsModestPower}
use Rattle.ratio_expressions.proofs.PowerBounds.{modest_at_zero, numer_beyond, numer_fits}
use Rattle.ratio_expressions.proofs.power.is_modest.Goals as goal
use Rattle.ratio_expressions.proofs.power.is_modest.Goals.{then-is_at_most, else-is_at_most}

pub returns-then-size-eq0 : goal.returns-then-size-eq0
returns-then-size-eq0 c =
    let e = c.args.exponent in
    let fits : SFits w64 e = search rules in
    let size : c.unsigned_abs-size.result ≡ unsigned_abs e = c.unsigned_abs-size.ensures.value ∙ ap unsigned_abs (to_z-of_z w64 e fits) in
    let none : unsigned_abs e ≡ 0 = sym size ∙ c.if-size-eq0.true in
    ((λ h. modest_at_zero (big_numbers c.args.x.now) e none), (λ h. refl))

pub returns : goal.returns
returns c =
    let x = big_numbers c.args.x.now in
    let e = c.args.exponent in
    let fits : SFits w64 e = search rules in
    let size : c.unsigned_abs-size.result ≡ unsigned_abs e = c.unsigned_abs-size.ensures.value ∙ ap unsigned_abs (to_z-of_z w64 e fits) in
    let most : ℕ = 1000000 / c.unsigned_abs-size.result in
    let is : most ≡ 1000000 / unsigned_abs e = ap (λ k. 1000000 / k) size in
    let some : 0 < unsigned_abs e = omega (arith, size, c.if-size-eq0.false) in
    let numer_is : natural_of c.as_mut_slice.result.now ≡ unsigned_abs x.0 = ap natural_of c.as_mut_slice.ensures.value ∙ c.in_ok-numer.ensures.value in
    elim c.if-is_at_most.branch [
      | then-is_at_most w ↦
          let t = w.is_at_most-then-is_at_most in
          let denom_is : natural_of w.as_mut_slice-then-is_at_most.result.now ≡ unsigned_abs x.1 = ap natural_of w.as_mut_slice-then-is_at_most.ensures.value ∙ ap unsigned_abs c.in_ok-denom.ensures.value in
          let both = numer_fits x e most is some (subst (λ n. n ≤ 2 ^ most) numer_is (c.is_at_most.ensures.0 w.if-is_at_most.true)) t.result
          (λ h. subst (λ n. n ≤ 2 ^ most) denom_is (t.ensures.0 h)) (λ h. t.ensures.1 (subst (λ n. n ≤ 2 ^ most) (sym denom_is) h)) in
          subst (λ (b : Bool). (IsTrue b → IsModestPower x e) × (IsModestPower x e → IsTrue b)) (sym w.result-is) both
      | else-is_at_most w ↦
          let none = numer_beyond x e most is some (λ h. let yes = c.is_at_most.ensures.1 (subst (λ n. n ≤ 2 ^ most) (sym numer_is) h) in let other = w.if-is_at_most.false in cc) in
          subst (λ (b : Bool). (IsTrue b → IsModestPower x e) × (IsModestPower x e → IsTrue b)) (sym (w.result-is ∙ w.if-is_at_most.false)) none
    ]
