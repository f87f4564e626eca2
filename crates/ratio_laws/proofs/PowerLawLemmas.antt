-- The laws of powers, from the values of pairs.
use Rattle.std.specs.Prelude.{◌≡◌, ◌≢◌, ◌⊎◌, ◌+◌, ◌*◌, ◌<ℤ◌, ◌-ℤ◌, ◌*ℤ◌, ℕ, ℤ, zero, suc, pos, negsuc, neg_ℤ, Option, None, Some}
use Rattle.std.specs.Int.{int_pow}
use Rattle.std.proofs.Common.{refl, sym, ap, subst, arith, inl, inr, ◌∙◌}
use Rattle.std.proofs.lemmas.Int.{ints}
use lib.IntN.{*ℤ_comm, pos-*ℤ-negsuc, negsuc-*ℤ-negsuc}
use Rattle.ratio_integer.specs.Fraction.{Fits, SameValue}
use Rattle.ratio_integer.specs.Range.{IsHeld, IsRange}
use Rattle.ratio_integer.proofs.LowestTerms.{same_value_chained, same_value_products}
use Rattle.ratio_integer.proofs.Whole.{mul_nonzero}
use Rattle.ratio_core.specs.Power.{IsReciprocal, ReciprocalCondition, power_of}
use Rattle.ratio_core.proofs.LowestPowers.{int_pow-mul, powers_same, reciprocal_value, turned_out}
use Rattle.ratio_core.proofs.PowerLawLemmas.{int_pow-add}
use Rattle.ratio_core.proofs.PowerLemmas.{int_pow-suc, int_pow-zero, pow_nonzero, zero_pow}
use Rattle.num_rational.specs.declared.reduced.Reduced.{Reduced}
use Rattle.num_rational.specs.Ratio.{ChecksRatio, denominator, numerator}
use Rattle.num_rational.specs.Reduced.{ratio_in}
use Rattle.num_rational.proofs.ValueLemmas.{numer_nonzero, same_value_flipped}
use Rattle.ratio_laws.specs.PowerLaws.{HasNoPowerBelowZero, IsPowerOfReciprocal, IsReciprocalOfPower, MultipliesExponents, MultipliesPowers}
use Rattle.ratio_laws.specs.ReducedLaws.{AnswersReciprocal}
use Rattle.ratio_laws.proofs.NeutralLemmas.{first_power}
use Rattle.ratio_laws.proofs.ResultLemmas.{denominator_nonzero, one_result, one_result_if_any, product_nonzero}

-- ---- powers of whole numbers

-- (z^j)^k is z^(j*k)
int_pow-pow : (z : ℤ) (j k : ℕ) → int_pow (int_pow z j) k ≡ int_pow z (j * k)
int_pow-pow z j zero = int_pow-zero (int_pow z j) ∙ sym (int_pow-zero z) ∙ ap (int_pow z) (none j)
  where
    none : (j : ℕ) → 0 ≡ j * 0
    none j = omega arith
int_pow-pow z j (suc k) =
    int_pow-suc (int_pow z j) k
    ∙ ap (λ (t : ℤ). t *ℤ int_pow z j) (int_pow-pow z j k)
    ∙ sym (int_pow-add z (j * k) j)
    ∙ ap (int_pow z) (more j k)
  where
    more : (j k : ℕ) → j * k + j ≡ j * suc k
    more j k = omega arith

-- ---- powers as pairs that are not reduced

-- two pairs have the same numbers
abbrev pub AreOnePair : ℤ × ℤ → ℤ × ℤ → Type 0
AreOnePair x y = (x.0 ≡ y.0) × (x.1 ≡ y.1)

-- a pair to the negative of an exponent is the power, turned over
pub turned_power : (n d e : ℤ) → AreOnePair (power_of n d (neg_ℤ e)) ((power_of n d e).1, (power_of n d e).0)
turned_power n d (pos zero) = (int_pow-zero n ∙ sym (int_pow-zero d), int_pow-zero d ∙ sym (int_pow-zero n))
turned_power n d (pos (suc k)) = (refl, refl)
turned_power n d (negsuc k) = (refl, refl)

-- the power of a power
pub power_of_power : (n d e f : ℤ) → AreOnePair (power_of (power_of n d e).0 (power_of n d e).1 f) (power_of n d (e *ℤ f))
power_of_power n d (pos j) (pos k) = (int_pow-pow n j k, int_pow-pow d j k)
power_of_power n d (pos j) (negsuc k) =
    let whole : neg_ℤ (pos (j * suc k)) ≡ pos j *ℤ negsuc k = sym (pos-*ℤ-negsuc j k) in
    let turned = turned_power n d (pos (j * suc k)) in (
      int_pow-pow d j (suc k) ∙ sym turned.0 ∙ ap (λ (t : ℤ). (power_of n d t).0) whole,
      int_pow-pow n j (suc k) ∙ sym turned.1 ∙ ap (λ (t : ℤ). (power_of n d t).1) whole,
    )
power_of_power n d (negsuc j) (pos k) =
    let whole : neg_ℤ (pos (suc j * k)) ≡ negsuc j *ℤ pos k = ap (λ m. neg_ℤ (pos m)) (exchanged j k) ∙ sym (pos-*ℤ-negsuc k j) ∙ *ℤ_comm (pos k) (negsuc j) in
    let turned = turned_power n d (pos (suc j * k)) in (
      int_pow-pow d (suc j) k ∙ sym turned.0 ∙ ap (λ (t : ℤ). (power_of n d t).0) whole,
      int_pow-pow n (suc j) k ∙ sym turned.1 ∙ ap (λ (t : ℤ). (power_of n d t).1) whole,
    )
  where
    exchanged : (j k : ℕ) → suc j * k ≡ k * suc j
    exchanged j k = omega arith
power_of_power n d (negsuc j) (negsuc k) =
    let whole : pos (suc j * suc k) ≡ negsuc j *ℤ negsuc k = sym (negsuc-*ℤ-negsuc j k) in (
      int_pow-pow n (suc j) (suc k) ∙ ap (λ (t : ℤ). (power_of n d t).0) whole,
      int_pow-pow d (suc j) (suc k) ∙ ap (λ (t : ℤ). (power_of n d t).1) whole,
    )

-- the power of a product
pub power_of_product : (a b c d e : ℤ) → AreOnePair (power_of (a *ℤ c) (b *ℤ d) e) ((power_of a b e).0 *ℤ (power_of c d e).0, (power_of a b e).1 *ℤ (power_of c d e).1)
power_of_product a b c d (pos m) = (int_pow-mul a c m, int_pow-mul b d m)
power_of_product a b c d (negsuc k) = (int_pow-mul b d (suc k), int_pow-mul a c (suc k))

-- a pair with the same numbers has the same value
pub of_one_pair : (x y z : ℤ × ℤ) → AreOnePair x y → SameValue y.0 y.1 z.0 z.1 → SameValue x.0 x.1 z.0 z.1
of_one_pair x y z one same = ap (λ (t : ℤ). t *ℤ z.1) one.0 ∙ same ∙ ap (λ (t : ℤ). z.0 *ℤ t) (sym one.1)

-- powers of equal values have equal values
pub same_value_powers : (a b p q e : ℤ) → SameValue a b p q → SameValue (power_of a b e).0 (power_of a b e).1 (power_of p q e).0 (power_of p q e).1
same_value_powers a b p q (pos m) same = powers_same a b p q m same
same_value_powers a b p q (negsuc k) same = powers_same b a q p (suc k) (same_value_flipped a b p q same)

base_nonzero : (n : ℤ) (k : ℕ) → int_pow n (suc k) ≢ pos 0 → n ≢ pos 0
base_nonzero n k nonzero none = nonzero (zero_pow n k none)

-- so if one power exists, the other does
power_exists : (a b p q e : ℤ) → q ≢ pos 0 → SameValue a b p q → (power_of a b e).1 ≢ pos 0 → (power_of p q e).1 ≢ pos 0
power_exists a b p q (pos m) q_nonzero same exists = pow_nonzero q m q_nonzero
power_exists a b p q (negsuc k) q_nonzero same exists = pow_nonzero p (suc k) (numer_nonzero a b p q q_nonzero same (base_nonzero a k exists))

-- ---- products of exponents, and powers of products

pub multiplies_exponents : {T : _} {i : _} {o : _} {e : _} {p : _} {h : _} → (x : Reduced T i o e p h) → MultipliesExponents x
multiplies_exponents x first second power twice once told by_twice by_once =
    let n = numerator x.ratio in
    let d = denominator x.ratio in
    let p = numerator power.ratio in
    let q = denominator power.ratio in
    let w = power_of n d first in
    let one = power_of_power n d first second in
    one_result_if_any (power_of p q second).0 (power_of p q second).1 (power_of n d (first *ℤ second)).0 (power_of n d (first *ℤ second)).1 twice once
    (λ exists none. power_exists p q w.0 w.1 second told.terms.fraction (sym told.terms.same) exists (one.1 ∙ none))
    (λ exists. power_exists w.0 w.1 p q second (denominator_nonzero power) told.terms.same (λ none. exists (sym one.1 ∙ none)))
    (of_one_pair (power_of n d (first *ℤ second)) (power_of w.0 w.1 second) (power_of p q second) (sym one.0, sym one.1) (same_value_powers w.0 w.1 p q second told.terms.same))
    by_twice by_once

pub multiplies_powers : {T : _} {i : _} {o : _} {e : _} {p : _} {h : _} → (x y : Reduced T i o e p h) → MultipliesPowers x y
multiplies_powers x y exponent product left right power other told by_left by_right by_power by_other =
    let a = numerator x.ratio in
    let b = denominator x.ratio in
    let c = numerator y.ratio in
    let d = denominator y.ratio in
    let s = numerator product.ratio in
    let t = denominator product.ratio in
    let u = power_of a b exponent in
    let v = power_of c d exponent in
    let one = power_of_product a b c d exponent in
    let exists = mul_nonzero u.1 v.1 by_left.terms.fraction by_right.terms.fraction in
    one_result (power_of s t exponent).0 (power_of s t exponent).1 _ _ power other
    (power_exists (a *ℤ c) (b *ℤ d) s t exponent (denominator_nonzero product) told.terms.same (λ none. exists (sym one.1 ∙ none)))
    (product_nonzero left right)
    (same_value_chained _ _ (u.0 *ℤ v.0) (u.1 *ℤ v.1) _ _ exists
    (same_value_products _ _ _ _ u.0 u.1 v.0 v.1 (sym by_left.terms.same) (sym by_right.terms.same))
    (of_one_pair (u.0 *ℤ v.0, u.1 *ℤ v.1) (power_of (a *ℤ c) (b *ℤ d) exponent) (power_of s t exponent) (sym one.0, sym one.1) (same_value_powers (a *ℤ c) (b *ℤ d) s t exponent told.terms.same)))
    by_power by_other

-- ---- exponents below 0

pub is_power_of_reciprocal : {T : _} {i : _} {o : _} {e : _} {p : _} {h : _} → (x : Reduced T i o e p h) → IsPowerOfReciprocal x
is_power_of_reciprocal x (pos k) reciprocal power other below turned told by_other = absurd (omega (arith, ints))
is_power_of_reciprocal x (negsuc k) reciprocal power other below turned told by_other =
    let n = numerator x.ratio in
    let d = denominator x.ratio in
    let a = numerator reciprocal.ratio in
    let b = denominator reciprocal.ratio in
    one_result (int_pow d (suc k)) (int_pow n (suc k)) (int_pow a (suc k)) (int_pow b (suc k)) power other
    (pow_nonzero n (suc k) turned.0.nonzero) (pow_nonzero b (suc k) (denominator_nonzero reciprocal))
    (powers_same a b d n (suc k) (sym (reciprocal_value n d a b turned.0.nonzero turned.1)))
    told by_other

module _ {T : _} {i : _} {o : _} {e : _} {p : _} {h : _} (x : Reduced T i o e p h) (range : IsRange i.lo i.hi) where
  pub has_no_power_below_zero : HasNoPowerBelowZero x
  has_no_power_below_zero (pos k) power below out told = absurd (omega (arith, ints))
  has_no_power_below_zero (negsuc k) None below out told = refl
  has_no_power_below_zero (negsuc k) (Some a) below out told =
      absurd (turned_out i.lo i.hi (numerator x.ratio) (denominator x.ratio) k range x.lowest out (record { numer = numerator a.ratio; denom = denominator a.ratio; low = told }))

  negative_held : (n d : ℤ) → n <ℤ pos 0 → IsHeld i.lo i.hi n → pos 0 <ℤ d → IsHeld i.lo i.hi d → IsHeld i.lo i.hi (neg_ℤ d)
  negative_held n d below held up denom = go range.low
    where
      go : (i.lo ≡ pos 0) ⊎ (i.lo ≡ neg_ℤ i.hi) ⊎ (i.lo ≡ neg_ℤ i.hi -ℤ pos 1) → IsHeld i.lo i.hi (neg_ℤ d)
      go (inl h) = absurd (let a = held.above in omega (arith, ints))
      go (inr (inl h)) = let a = denom.below in let b = range.high in record { above = omega (arith, ints); below = omega (arith, ints) }
      go (inr (inr h)) = let a = denom.below in let b = range.high in record { above = omega (arith, ints); below = omega (arith, ints) }

  reciprocal_held : (n d a b : ℤ) → IsHeld i.lo i.hi n → pos 0 <ℤ d → IsHeld i.lo i.hi d → ReciprocalCondition i.lo i.hi n → IsReciprocal n d a b → IsHeld i.lo i.hi a × IsHeld i.lo i.hi b
  reciprocal_held (pos zero) d a b held up denom can is = absurd (can.nonzero refl)
  reciprocal_held (pos (suc n)) d a b held up denom can is = let same = is.positive (omega (arith, ints)) in rw (same.0, same.1) (denom, held)
  reciprocal_held (negsuc n) d a b held up denom can is =
      let below : negsuc n <ℤ pos 0 = omega (arith, ints) in
      let same = is.negative below in
      rw (same.0, same.1) (negative_held (negsuc n) d below held up denom, can.negative below)

  -- a reciprocal is the lowest terms of the two numbers, exchanged, exactly if these fit
  reciprocal_checked : (r : Option (Reduced T i o e p h)) → IsHeld i.lo i.hi (numerator x.ratio) → IsHeld i.lo i.hi (denominator x.ratio) → AnswersReciprocal x r → ChecksRatio (denominator x.ratio, numerator x.ratio) (ratio_in r)
  reciprocal_checked None numer denom out = λ fits.
      turned_out i.lo i.hi (numerator x.ratio) (denominator x.ratio) 0 range x.lowest out
      (subst (λ (t : ℤ). Fits i.lo i.hi t (int_pow (numerator x.ratio) 1)) (sym (first_power (denominator x.ratio)))
      (subst (λ (t : ℤ). Fits i.lo i.hi (denominator x.ratio) t) (sym (first_power (numerator x.ratio))) fits))
  reciprocal_checked (Some r) numer denom turned =
      let held = reciprocal_held (numerator x.ratio) (denominator x.ratio) (numerator r.ratio) (denominator r.ratio) numer x.lowest.positive denom turned.0 turned.1 in
      record {
        terms = record {
          fraction = turned.0.nonzero;
          same = reciprocal_value (numerator x.ratio) (denominator x.ratio) (numerator r.ratio) (denominator r.ratio) turned.0.nonzero turned.1;
          lowest = r.lowest;
        };
        numer_held = held.0;
        denom_held = held.1;
      }

pub is_reciprocal_of_power : {T : _} {i : _} {o : _} {e : _} {p : _} {h : _} → (x : Reduced T i o e p h) → IsRange i.lo i.hi → IsReciprocalOfPower x
is_reciprocal_of_power x range exponent power negative reciprocal told by_negative turned =
    let n = numerator x.ratio in
    let d = denominator x.ratio in
    let p = numerator power.ratio in
    let q = denominator power.ratio in
    let w = power_of n d exponent in
    let one = turned_power n d exponent in
    one_result_if_any (power_of n d (neg_ℤ exponent)).0 (power_of n d (neg_ℤ exponent)).1 q p negative reciprocal
    (λ exists. numer_nonzero w.0 w.1 p q (denominator_nonzero power) told.terms.same (λ none. exists (one.1 ∙ none)))
    (λ exists none. numer_nonzero p q w.0 w.1 told.terms.fraction (sym told.terms.same) exists (sym one.1 ∙ none))
    (sym (of_one_pair (power_of n d (neg_ℤ exponent)) (w.1, w.0) (q, p) one (same_value_flipped w.0 w.1 p q told.terms.same)))
    by_negative (reciprocal_checked power range reciprocal told.numer_held told.denom_held turned)
