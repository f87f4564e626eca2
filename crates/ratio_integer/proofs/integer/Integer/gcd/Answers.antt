use Rattle.std.specs.Prelude.{◌≡◌, ◌≢◌, ◌<◌, ◌≤ℤ◌, ◌<ℤ◌, ◌-ℤ◌, zero, suc, pos, negsuc, neg_ℤ, unsigned_abs, int_rem, ℤ}
use Rattle.std.specs.Int.{IsGcd}
use Rattle.std.proofs.Common.{ℕ, arith, ap, sym, ◌∙◌, refl}
use Rattle.std.proofs.lemmas.Int.{ints, rem_below}
use Rattle.std.proofs.lemmas.Nat.Gcd.{dvd_refl, IsGcd-from_mod, IsGcd-from_zero}
use Rattle.std.proofs.Math.Nat.{one-dvd}
use lib.IntN.{+ℤ_idl}
use Rattle.ratio_integer.specs.Division.{IsGcdOf}
use Rattle.ratio_integer.specs.Comparison.{yes, no}
use Rattle.ratio_integer.proofs.DivisionLemmas.{abs-rem, abs_pos, remainder_held}
use Rattle.ratio_integer.proofs.LcmLemmas.{gcd_held}
use Rattle.ratio_integer.proofs.integer.Integer.gcd.Goals as goal
use Rattle.ratio_integer.proofs.integer.Integer.gcd.Goals.{else-lt-via-then-lt+else-is_zero, else-lt-via-else-lt}

-- the gcd of 1 and any number is 1
gcd_one : (a : ℕ) → IsGcd a 1 1
gcd_one a = (one-dvd a, dvd_refl 1, λ d p q. q)

step : (x y r : ℤ) (k : ℕ) → r ≡ int_rem x y → IsGcd (unsigned_abs y) (unsigned_abs r) k → IsGcd (unsigned_abs x) (unsigned_abs y) k
step x y r k e h = IsGcd-from_mod _ _ k (rw (ap unsigned_abs e ∙ abs-rem x y) at h)

pub plus-requires : goal.plus-requires
plus-requires g c =
    let m = g.met.Self.Integer in
    grind (arith, ints, m.lt_law, m.zero_law, m.one_law, c.steps.invariant.y_held, m.range_law)

pub returns-then-is_zero : goal.returns-then-is_zero
returns-then-is_zero g c =
    let v = g.Self.Integer.value in
    let m = g.met.Self.Integer in
    let one : v c.ONE-then-is_zero.result ≡ pos 1 = ap v c.ONE-then-is_zero.ensures ∙ m.one_law in
    let sum : v c.plus.result ≡ pos 0 = grind (arith, c.is_zero-then-lt.ensures) in
    let first : v c.ONE.result ≡ pos 1 = ap v c.ONE.ensures ∙ m.one_law in
    let y : v c.steps.y ≡ negsuc 0 = omega (arith, ints) in
    let size : unsigned_abs (v c.steps.y) ≡ 1 = ap unsigned_abs y in
    let top : unsigned_abs (v c.ONE-then-is_zero.result) ≡ 1 = ap unsigned_abs one in
    record {
      sign = omega (arith, ints);
      divisor = rw top (c.steps.invariant.same 1 (rw size (gcd_one _)));
    }

pub div_rem-rest-requires-clause-nonzero : goal.div_rem-rest-requires-clause-nonzero
div_rem-rest-requires-clause-nonzero g c = grind (arith, c.is_zero.ensures)

pub div_rem-rest-requires-clause-held : goal.div_rem-rest-requires-clause-held
div_rem-rest-requires-clause-held g c =
    let v = g.Self.Integer.value in
    let m = g.met.Self.Integer in
    let nm : v c.steps.y ≢ negsuc 0 =
    elim c.else-lt.branch [ else-lt-via-then-lt+else-is_zero w ↦ grind (arith, ints, m.one_law, w.is_zero-then-lt.ensures) | else-lt-via-else-lt w ↦ grind (arith, ints, m.zero_law, m.lt_law) ] in
    λ is. nm is.denom

pub steps-smaller : goal.steps-smaller
steps-smaller g c =
    let v = g.Self.Integer.value in
    let nz : v c.steps.y ≢ pos 0 = grind (arith, c.is_zero.ensures) in
    let below : unsigned_abs (int_rem (v c.steps.x) (v c.steps.y)) < unsigned_abs (v c.steps.y) = rem_below (v c.steps.x) (v c.steps.y) (abs_pos _ nz) in
    rw c.div_rem-rest.ensures.remainder below

pub steps-preserved : goal.steps-preserved
steps-preserved g c =
    let v = g.Self.Integer.value in
    let m = g.met.Self.Integer in
    record {
      x_held = c.steps.invariant.y_held;
      y_held = rw c.div_rem-rest.ensures.remainder (remainder_held _ _ (v c.steps.x) (v c.steps.y) m.range_law c.steps.invariant.x_held);
      same = λ k h. c.steps.invariant.same k (step (v c.steps.x) (v c.steps.y) (v c.div_rem-rest.result.1) k c.div_rem-rest.ensures.remainder h);
    }

size_of_neg : (x : ℤ) → unsigned_abs (neg_ℤ x) ≡ unsigned_abs x
size_of_neg (pos zero) = refl
size_of_neg (pos (suc n)) = refl
size_of_neg (negsuc n) = refl

size-neg : (x : ℤ) → unsigned_abs (pos 0 -ℤ x) ≡ unsigned_abs x
size-neg x = ap unsigned_abs (+ℤ_idl (neg_ℤ x)) ∙ size_of_neg x

-- the result when the loop ends
ends : (x y a b : ℤ) → ((k : ℕ) → IsGcd (unsigned_abs x) (unsigned_abs y) k → IsGcd (unsigned_abs a) (unsigned_abs b) k) → y ≡ pos 0 → (r : ℤ) → pos 0 ≤ℤ r → unsigned_abs r ≡ unsigned_abs x → IsGcdOf a b r
ends x y a b same e r up size = record { sign = up; divisor = rw size (same _ (IsGcd-from_zero _ _ (ap unsigned_abs e))) }

pub minus-requires : goal.minus-requires
minus-requires g c =
    let v = g.Self.Integer.value in
    let m = g.met.Self.Integer in
    let z : v c.ZERO-then-lt-2.result ≡ pos 0 = ap v c.ZERO-then-lt-2.ensures ∙ m.zero_law in
    let y : v c.steps.y ≡ pos 0 = grind (arith, c.is_zero.ensures) in
    let z2 : v c.ZERO-2.result ≡ pos 0 = ap v c.ZERO-2.ensures ∙ m.zero_law in
    let below : v c.steps.x <ℤ v c.ZERO-2.result = yes _ (m.lt_law c.steps.x c.ZERO-2.result) (sym (c.if-lt-2.ensures)) in
    let up : pos 0 ≤ℤ (pos 0 -ℤ v c.steps.x) = omega (arith, ints) in
    rw z ((gcd_held _ _ _ _ m.range_law c.held.ensures.range c.held-2.ensures.range c.requires).each _ (ends (v c.steps.x) (v c.steps.y) _ _ c.steps.invariant.same y (pos 0 -ℤ v c.steps.x) up (size-neg (v c.steps.x))))

pub returns-then-lt-2 : goal.returns-then-lt-2
returns-then-lt-2 g c =
    let v = g.Self.Integer.value in
    let m = g.met.Self.Integer in
    let z : v c.ZERO-then-lt-2.result ≡ pos 0 = ap v c.ZERO-then-lt-2.ensures ∙ m.zero_law in
    let y : v c.steps.y ≡ pos 0 = grind (arith, c.is_zero.ensures) in
    let z2 : v c.ZERO-2.result ≡ pos 0 = ap v c.ZERO-2.ensures ∙ m.zero_law in
    let below : v c.steps.x <ℤ v c.ZERO-2.result = yes _ (m.lt_law c.steps.x c.ZERO-2.result) (sym (c.if-lt-2.ensures)) in
    let up : pos 0 ≤ℤ (pos 0 -ℤ v c.steps.x) = omega (arith, ints) in
    let r : v c.minus.result ≡ pos 0 -ℤ v c.steps.x = c.minus.ensures ∙ ap (λ (t : ℤ). t -ℤ v c.steps.x) z in
    rw r (ends (v c.steps.x) (v c.steps.y) _ _ c.steps.invariant.same y (pos 0 -ℤ v c.steps.x) up (size-neg (v c.steps.x)))

pub returns-else-lt-2 : goal.returns-else-lt-2
returns-else-lt-2 g c =
    let v = g.Self.Integer.value in
    let m = g.met.Self.Integer in
    let y : v c.steps.y ≡ pos 0 = grind (arith, c.is_zero.ensures) in
    let z2 : v c.ZERO-2.result ≡ pos 0 = ap v c.ZERO-2.ensures ∙ m.zero_law in
    let below : v c.ZERO-2.result ≤ℤ v c.steps.x = no _ (m.lt_law c.steps.x c.ZERO-2.result) (sym (c.if-lt-2.ensures)) in
    let up : pos 0 ≤ℤ v c.steps.x = omega (arith, ints) in
    ends (v c.steps.x) (v c.steps.y) _ _ c.steps.invariant.same y (v c.steps.x) up refl
