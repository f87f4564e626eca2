-- Exponents with the same powers: those that are too large for all numbers but 0, 1 and -1, with one sign and one last bit.
use Rattle.std.proofs.Common.{◌≡◌, ◌∙◌, ◌≤◌, ◌<◌, ◌+◌, ◌-◌, ◌*◌, ◌%◌, ◌^◌, ℕ, ℤ, zero, suc, pos, negsuc, Bool, true, false, refl, sym, subst, ap, arith, ⊎_elim, pow-suc}
use Rattle.std.specs.Prelude.{◌<ℤ◌, ◌↔◌, unsigned_abs, IsTrue, Result, IfOk, MatchResult}
use Rattle.std.specs.Int.{int_pow}
use Rattle.std.proofs.Math.Nat.{mul-zero}
use Rattle.std.proofs.lemmas.Bool.Decides.{leb_tells}
use Rattle.std.proofs.lemmas.Int.{ints}
use Rattle.std.proofs.lemmas.Result.{IfOk-weaker, MatchResult-weaker}
use Rattle.ratio_integer.specs.SignedBits.{IsHeld64}
use Rattle.ratio_core.specs.Power.{power_of}
use Rattle.ratio_core.specs.Signs.{with_sign}
use Rattle.ratio_core.proofs.SignedNumbers.{size_is}
use Rattle.ratio_big.specs.Values.{IsShort}
use Rattle.ratio_expressions.specs.Operators.{GivesNumbers, HaveSamePowers, IsModestPower, IsTermsOf, RefusesNumbers}
use Rattle.ratio_expressions.specs.Worths.{Worth, worth}
use Rattle.ratio_expressions.specs.declared.refusal.Reason.{Reason}
use Rattle.ratio_expressions.specs.declared.refusal.Reason.TheVariants as reasons
use Rattle.ratio_expressions.specs.declared.token.Operator.TheVariants.{Power}
use Rattle.ratio_expressions.specs.declared.value.Value.{Value}

-- ---- powers of 0, 1 and -1

one_power : (m : ℕ) → 1 ^ m ≡ 1
one_power zero = refl
one_power (suc m) = pow-suc 1 m ∙ omega (arith, one_power m)

own_power : (a m : ℕ) → a ≤ 1 → 0 < m → a ^ m ≡ a
own_power a zero small some = absurd (omega arith)
own_power zero (suc m) small some = pow-suc 0 m ∙ mul-zero (0 ^ m)
own_power (suc zero) (suc m) small some = one_power (suc m)
own_power (suc (suc a)) (suc m) small some = absurd (omega arith)

same_power : (z : ℤ) (m k : ℕ) → unsigned_abs z ≤ 1 → 0 < m → 0 < k → m % 2 ≡ k % 2 → int_pow z m ≡ int_pow z k
same_power (pos a) m k small first second parity = ap pos (own_power a m small first ∙ sym (own_power a k small second))
same_power (negsuc a) m k small first second parity = rw (parity, own_power (suc a) m small first, own_power (suc a) k small second) refl

-- ---- large exponents

no_bits : (bits size : ℕ) → 1000000 < size → bits * size ≤ 1000000 → bits ≡ 0
no_bits zero size large few = refl
no_bits (suc bits) size large few = absurd (omega arith)

record IsTiny (x : ℤ × ℤ) : Type 0 where
  numer : unsigned_abs x.0 ≤ 1
  denom : unsigned_abs x.1 ≤ 1

tiny : (x : ℤ × ℤ) (e : ℤ) → 1000000 < unsigned_abs e → IsModestPower x e → IsTiny x
tiny x e large h =
    let none = no_bits h.bits (unsigned_abs e) large h.few in
    record { numer = subst (λ k. unsigned_abs x.0 ≤ 2 ^ k) none h.numer; denom = subst (λ k. unsigned_abs x.1 ≤ 2 ^ k) none h.denom }

-- a power of 0, 1 and -1 is modest for each exponent
modest : (x : ℤ × ℤ) (e : ℤ) → IsTiny x → IsModestPower x e
modest x e small = record { bits = 0; numer = small.numer; denom = small.denom; few = omega arith }

record IsLike (e f : ℤ) : Type 0 where
  first : 1000000 < unsigned_abs e
  second : 1000000 < unsigned_abs f
  parity : unsigned_abs e % 2 ≡ unsigned_abs f % 2
  below : (e <ℤ pos 0) ↔ (f <ℤ pos 0)

powers : (x : ℤ × ℤ) (e f : ℤ) → IsLike e f → IsTiny x → power_of x.0 x.1 e ≡ power_of x.0 x.1 f
powers x (pos m) (pos k) like small =
    let both : ℤ → ℤ → ℤ × ℤ = λ a b. (a, b) in
    ap (λ a. both a (int_pow x.1 m)) (same_power x.0 m k small.numer (omega (arith, like.first)) (omega (arith, like.second)) like.parity)
    ∙ ap (λ b. both (int_pow x.0 k) b) (same_power x.1 m k small.denom (omega (arith, like.first)) (omega (arith, like.second)) like.parity)
powers x (negsuc m) (negsuc k) like small =
    let both : ℤ → ℤ → ℤ × ℤ = λ a b. (a, b) in
    ap (λ a. both a (int_pow x.0 (suc m))) (same_power x.1 (suc m) (suc k) small.denom (omega arith) (omega arith) like.parity)
    ∙ ap (λ b. both (int_pow x.1 (suc k)) b) (same_power x.0 (suc m) (suc k) small.numer (omega arith) (omega arith) like.parity)
powers x (pos m) (negsuc k) like small = let h : pos m <ℤ pos 0 = like.below.1 (omega (arith, ints)) in absurd (omega (arith, ints))
powers x (negsuc m) (pos k) like small = let h : pos k <ℤ pos 0 = like.below.0 (omega (arith, ints)) in absurd (omega (arith, ints))

alike : (e f : ℤ) → IsLike e f → HaveSamePowers e f
alike e f like = record {
  modest = λ x. ((λ h. modest x f (tiny x e like.first h)), (λ h. modest x e (tiny x f like.second h)));
  power = λ x h. powers x e f like (tiny x e like.first h);
  below = like.below;
}

-- ---- the exponent that is taken

same_exponent : (e : ℤ) → HaveSamePowers e e
same_exponent e = record { modest = λ x. ((λ h. h), (λ h. h)); power = λ x h. refl; below = ((λ h. h), (λ h. h)) }

-- a short exponent is its own
pub short_same : (e f : ℤ) → f ≡ e → HaveSamePowers e f
short_same e f is = subst (λ (g : ℤ). HaveSamePowers e g) (sym is) (same_exponent e)

-- a number that needs more than 64 bits
far : (z : ℤ) → ¬ (IsHeld64 z) → 2 ^ 63 ≤ unsigned_abs z
far (pos n) h = ⊎_elim (λ p. absurd (h (record { above = omega (arith, ints); below = omega (arith, ints, p.1) }))) (λ p. omega (arith, p.1)) (leb_tells n (2 ^ 63 - 1))
far (negsuc n) h = ⊎_elim (λ p. absurd (h (record { above = omega (arith, ints, p.1); below = omega (arith, ints) }))) (λ p. omega (arith, p.1)) (leb_tells n (2 ^ 63 - 1))

like_long : (e : ℤ) (negative : Bool) (last : ℕ) → 2 ^ 63 ≤ unsigned_abs e → IsTrue negative ↔ (e <ℤ pos 0) → last ≡ unsigned_abs e % 2 → IsLike e (with_sign negative (1000002 + last))
like_long e negative last long sign is =
    let size = size_is negative (1000002 + last) in
    record {
      first = omega (arith, long);
      second = omega (arith, size);
      parity = omega (arith, size, is);
      below = ((λ h. (sign_is negative last).0 (sign.1 h)), (λ h. sign.0 ((sign_is negative last).1 h)));
    }
  where
    sign_is : (s : Bool) (n : ℕ) → IsTrue s ↔ (with_sign s (1000002 + n) <ℤ pos 0)
    sign_is false n = ((λ h. absurd (cc)), (λ h. absurd (omega (arith, ints))))
    sign_is true n = ((λ h. omega (arith, ints)), (λ h. refl))

-- a long one is replaced
pub long_same : (y : ℤ × ℤ) (negative : Bool) (last : ℕ) → y.1 ≡ pos 1 → ¬ (IsShort y) → IsTrue negative ↔ (y.0 <ℤ pos 0) → last ≡ unsigned_abs y.0 % 2 → HaveSamePowers y.0 (with_sign negative (1000002 + last))
long_same y negative last whole long sign is =
    let one : IsHeld64 y.1 = record { above = omega (arith, ints); below = omega (arith, ints) } in
    alike _ _ (like_long y.0 negative last (far y.0 (λ numer. long (record { numer = numer; denom = one }))) sign is)

-- ---- what the power by that exponent says of the power

given : (x y : ℤ × ℤ) (e : ℤ) (w : Worth) → y.1 ≡ pos 1 → HaveSamePowers y.0 e → GivesNumbers Power x (e, pos 1) w → GivesNumbers Power x y w
given x y e w whole same h =
    let small = (same.modest x).1 h.1 in
    (whole, small, subst (λ p. IsTermsOf p w) (sym (same.power x small)) h.2)

refused : (x y : ℤ × ℤ) (e : ℤ) (r : Reason) → y.1 ≡ pos 1 → HaveSamePowers y.0 e → RefusesNumbers Power x (e, pos 1) r → RefusesNumbers Power x y r
refused x y e reasons.ExponentNotWhole whole same h = absurd (h refl)
refused x y e reasons.PowerTooLarge whole same h = (whole, λ small. h.1 ((same.modest x).0 small))
refused x y e reasons.ZeroDivisor whole same h = (whole, (same.modest x).1 h.1, record { zero = h.2.zero; below = same.below.1 h.2.below })
refused x y e r whole same h = absurd h

pub same_result : {E : Type 0} (x y : ℤ × ℤ) (e : ℤ) (r : Result (Result Value Reason) E) → y.1 ≡ pos 1 → HaveSamePowers y.0 e
    → IfOk r (λ s. MatchResult s (λ w. GivesNumbers Power x (e, pos 1) (worth w)) (RefusesNumbers Power x (e, pos 1)))
    → IfOk r (λ s. MatchResult s (λ w. GivesNumbers Power x y (worth w)) (RefusesNumbers Power x y))
same_result x y e r whole same h =
    IfOk-weaker r _ _ (λ s k. MatchResult-weaker s k (λ w. given x y e (worth w) whole same) (λ q. refused x y e q whole same)) h
