-- Divisors and multiples of fractions in lowest terms, from those of their numerators and denominators.
use Rattle.std.specs.Prelude.{◌≡◌, ◌≢◌, ◌⊎◌, ◌*◌, ◌<◌, ◌≤ℤ◌, ◌<ℤ◌, ◌*ℤ◌, ℕ, ℤ, pos, unsigned_abs, Option, None, Some}
use Rattle.std.specs.Int.{◌∣◌}
use Rattle.std.proofs.Common.{sym, ap, arith, ◌∙◌, inl, inr}
use Rattle.std.proofs.Math.Nat.{dvd_antisymm, dvd-mul_left, dvd-mul_right, dvd_refl, pos_of_dvd_of_pos}
use Rattle.std.proofs.lemmas.Int.{ints, unsigned_abs-mul}
use Rattle.std.proofs.lemmas.Nat.Gcd.{IsGcd-from_zero}
use lib.IntN.{*ℤ_comm}
use Rattle.ratio_integer.specs.Division.{GcdHeld, IsGcdOf, IsLcmOf, LcmHeld}
use Rattle.ratio_integer.specs.Fraction.{IsLowestTerms, SameValue}
use Rattle.ratio_integer.specs.Range.{Checks}
use Rattle.ratio_integer.proofs.CommonDivisors.{IsCoprime, coprime_divisors, coprime_gcd, coprime_product, coprime_turned, divides_multiple, gcd_exists, multiple_divides}
use Rattle.ratio_integer.proofs.DivisionLemmas.{abs_pos}
use Rattle.ratio_integer.proofs.GcdLemmas.{coprime-dvd}
use Rattle.ratio_integer.proofs.LowestTerms.{HasLowest, lowest_exist, same_value_chained, same_value_turned}
use Rattle.ratio_integer.proofs.Whole.{mul_assoc, mul-swap_inner, mul-swap_last, positive_nonzero}
use Rattle.ratio_core.specs.Divisors.{ChecksGcd, DividesFraction, HasHeldPair, IsGcdOfFractions, IsLcmOfFractions}

-- ---- a fraction in place of another with the same value

divisor_moved : (u v p q a b : ℤ) → v ≢ pos 0 → SameValue u v p q → DividesFraction u v a b → DividesFraction p q a b
divisor_moved u v p q a b fraction same (k, e) =
    let times : SameValue (k *ℤ u) v (k *ℤ p) q = mul_assoc k u q ∙ ap (λ (t : ℤ). k *ℤ t) same ∙ sym (mul_assoc k p v) in
    (k, same_value_chained a b (k *ℤ u) v (k *ℤ p) q fraction e times)

multiple_moved : (a b u v p q : ℤ) → v ≢ pos 0 → SameValue u v p q → DividesFraction a b u v → DividesFraction a b p q
multiple_moved a b u v p q fraction same (k, e) = (k, same_value_chained p q u v (k *ℤ a) b fraction (same_value_turned u v p q same) e)

-- ---- p/q divides a/b exactly if p divides a and b divides q

parts_divide : (p q a b : ℤ) → IsLowestTerms p q → IsLowestTerms a b → DividesFraction p q a b → (unsigned_abs p ∣ unsigned_abs a) × (unsigned_abs b ∣ unsigned_abs q)
parts_divide p q a b divisor multiple (k, e) =
    let numer : unsigned_abs p ∣ unsigned_abs a * unsigned_abs q = rw unsigned_abs-mul at (multiple_divides (a *ℤ q) p (k *ℤ b, e ∙ mul-swap_last k p b ∙ sym (mul_assoc k b p))) in
    let denom : unsigned_abs b ∣ unsigned_abs q * unsigned_abs a = rw unsigned_abs-mul at (multiple_divides (q *ℤ a) b (k *ℤ p, *ℤ_comm q a ∙ e)) in (
      coprime-dvd _ _ _ (coprime_gcd _ _ divisor.only_one) numer,
      coprime-dvd _ _ _ (coprime_gcd _ _ (coprime_turned _ _ multiple.only_one)) denom,
    )

divides_by_parts : (p q a b : ℤ) → unsigned_abs p ∣ unsigned_abs a → unsigned_abs b ∣ unsigned_abs q → DividesFraction p q a b
divides_by_parts p q a b numer denom =
    let (k, numer-is) = divides_multiple a p numer in
    let (j, denom-is) = divides_multiple q b denom in (
      k *ℤ j,
      ap (λ (t : ℤ). t *ℤ q) numer-is ∙ ap (λ (t : ℤ). (k *ℤ p) *ℤ t) denom-is ∙ mul-swap_inner k p j b ∙ sym (mul_assoc (k *ℤ j) p b),
    )

-- two fractions that are not negative and divide each other are the same
same_by_dividing : (g h p q : ℤ) → IsLowestTerms g h → IsLowestTerms p q → pos 0 ≤ℤ g → pos 0 ≤ℤ p → DividesFraction g h p q → DividesFraction p q g h → (g ≡ p) × (h ≡ q)
same_by_dividing g h p q left right g_above p_above there back =
    let first = parts_divide g h p q left right there in
    let second = parts_divide p q g h right left back in
    let numer : unsigned_abs g ≡ unsigned_abs p = dvd_antisymm first.0 second.0 in
    let denom : unsigned_abs h ≡ unsigned_abs q = dvd_antisymm second.1 first.1 in
    let h_positive = left.positive in
    let q_positive = right.positive in
    (omega (arith, ints), omega (arith, ints))

-- ---- gcds and lcms of whole numbers

lcm_divides_product : (b d h : ℤ) → IsLcmOf b d h → unsigned_abs h ∣ unsigned_abs b * unsigned_abs d
lcm_divides_product b d h is = is.least _ (dvd-mul_right (unsigned_abs b) (unsigned_abs d)) (dvd-mul_left (unsigned_abs d) (unsigned_abs b))

-- a number that is coprime to b and to d is coprime to their lcm
lcm_coprime : (k b d h : ℤ) → IsLcmOf b d h → IsCoprime (unsigned_abs k) (unsigned_abs b) → IsCoprime (unsigned_abs k) (unsigned_abs d) → IsCoprime (unsigned_abs k) (unsigned_abs h)
lcm_coprime k b d h is left right =
    coprime_divisors _ _ _ _ (coprime_product _ _ _ left right) (dvd_refl (unsigned_abs k)) (lcm_divides_product b d h is)

positive_divisor : (z : ℤ) (n : ℕ) → pos 0 ≤ℤ z → unsigned_abs z ∣ n → 0 < n → pos 0 <ℤ z
positive_divisor z n sign divides positive = let up = pos_of_dvd_of_pos divides positive in omega (arith, ints)

size_positive : (b : ℤ) → pos 0 <ℤ b → 0 < unsigned_abs b
size_positive b positive = abs_pos b (positive_nonzero b positive)

product_positive : (m n : ℕ) → 0 < m → 0 < n → 0 < m * n
product_positive m n left right = grind arith

-- ---- the results, for a/b and c/d in lowest terms

module _ (a b c d : ℤ) (left : IsLowestTerms a b) (right : IsLowestTerms c d) where
  pub gcd_of_fractions : (g h : ℤ) → IsGcdOf a c g → IsLcmOf b d h → IsGcdOfFractions a b c d g h
  gcd_of_fractions g h numer denom = record {
    lowest = record {
      positive = positive_divisor h _ denom.sign (lcm_divides_product b d h denom) (product_positive _ _ (size_positive b left.positive) (size_positive d right.positive));
      only_one = lcm_coprime g b d h denom
          (coprime_divisors _ _ _ _ left.only_one numer.divisor.0 (dvd_refl (unsigned_abs b)))
          (coprime_divisors _ _ _ _ right.only_one numer.divisor.1 (dvd_refl (unsigned_abs d)));
    };
    sign = numer.sign;
    first = divides_by_parts g h a b numer.divisor.0 denom.first;
    second = divides_by_parts g h c d numer.divisor.1 denom.second;
    greatest = λ u v fraction p q.
        let low : HasLowest u v = lowest_exist u v fraction in
        let lowest = low.terms.lowest in
        let first = parts_divide low.numer low.denom a b lowest left (divisor_moved u v low.numer low.denom a b fraction low.terms.same p) in
        let second = parts_divide low.numer low.denom c d lowest right (divisor_moved u v low.numer low.denom c d fraction low.terms.same q) in
        divisor_moved low.numer low.denom u v g h (positive_nonzero low.denom lowest.positive) (same_value_turned u v low.numer low.denom low.terms.same)
        (divides_by_parts low.numer low.denom g h (numer.divisor.2 _ first.0 second.0) (denom.least _ first.1 second.1));
  }

  pub lcm_of_fractions : (l m : ℤ) → IsLcmOf a c l → IsGcdOf b d m → IsLcmOfFractions a b c d l m
  lcm_of_fractions l m numer denom = record {
    lowest = record {
      positive = positive_divisor m _ denom.sign denom.divisor.0 (size_positive b left.positive);
      only_one = coprime_turned _ _ (lcm_coprime m a c l numer
          (coprime_turned _ _ (coprime_divisors _ _ _ _ left.only_one (dvd_refl (unsigned_abs a)) denom.divisor.0))
          (coprime_turned _ _ (coprime_divisors _ _ _ _ right.only_one (dvd_refl (unsigned_abs c)) denom.divisor.1)));
    };
    sign = numer.sign;
    first = divides_by_parts a b l m numer.first denom.divisor.0;
    second = divides_by_parts c d l m numer.second denom.divisor.1;
    least = λ u v fraction p q.
        let low : HasLowest u v = lowest_exist u v fraction in
        let lowest = low.terms.lowest in
        let first = parts_divide a b low.numer low.denom left lowest (multiple_moved a b u v low.numer low.denom fraction low.terms.same p) in
        let second = parts_divide c d low.numer low.denom right lowest (multiple_moved c d u v low.numer low.denom fraction low.terms.same q) in
        multiple_moved l m low.numer low.denom u v (positive_nonzero low.denom lowest.positive) (same_value_turned u v low.numer low.denom low.terms.same)
        (divides_by_parts l m low.numer low.denom (numer.least _ first.0 second.0) (denom.divisor.2 _ first.1 second.1));
  }

-- there is only one of each
pub gcd_unique : (a b c d g h p q : ℤ) → IsGcdOfFractions a b c d g h → IsGcdOfFractions a b c d p q → (g ≡ p) × (h ≡ q)
gcd_unique a b c d g h p q left right =
    same_by_dividing g h p q left.lowest right.lowest left.sign right.sign
    (right.greatest g h (positive_nonzero h left.lowest.positive) left.first left.second)
    (left.greatest p q (positive_nonzero q right.lowest.positive) right.first right.second)

pub lcm_unique : (a b c d l m p q : ℤ) → IsLcmOfFractions a b c d l m → IsLcmOfFractions a b c d p q → (l ≡ p) × (m ≡ q)
lcm_unique a b c d l m p q left right =
    same_by_dividing l m p q left.lowest right.lowest left.sign right.sign
    (left.least p q (positive_nonzero q right.lowest.positive) right.first right.second)
    (right.least l m (positive_nonzero m left.lowest.positive) left.first left.second)

-- ---- what does not fit

module _ (lo hi a b c d : ℤ) (left : IsLowestTerms a b) (right : IsLowestTerms c d) where
  pub gcd_denom_out : ¬ (LcmHeld lo hi b d) → ¬ (HasHeldPair lo hi (IsGcdOfFractions a b c d))
  gcd_denom_out out has = out (record {
    each = λ h is.
        let numer : (g : ℤ) × IsGcdOf a c g = gcd_exists a c in
        let only = gcd_unique a b c d _ _ _ _ (gcd_of_fractions a b c d left right numer.0 h numer.1 is) has.held.pair in
        rw only.1 has.held.second_held;
  })

  pub gcd_numer_out : (h : ℤ) → IsLcmOf b d h → ¬ (GcdHeld lo hi a c) → ¬ (HasHeldPair lo hi (IsGcdOfFractions a b c d))
  gcd_numer_out h denom out has = out (record {
    each = λ g is.
        let only = gcd_unique a b c d _ _ _ _ (gcd_of_fractions a b c d left right g h is denom) has.held.pair in
        rw only.0 has.held.first_held;
  })

  pub lcm_numer_out : ¬ (LcmHeld lo hi a c) → ¬ (HasHeldPair lo hi (IsLcmOfFractions a b c d))
  lcm_numer_out out has = out (record {
    each = λ l is.
        let denom : (m : ℤ) × IsGcdOf b d m = gcd_exists b d in
        let only = lcm_unique a b c d _ _ _ _ (lcm_of_fractions a b c d left right l denom.0 is denom.1) has.held.pair in
        rw only.0 has.held.first_held;
  })

-- ---- what `try_gcd` returns

-- if one of two numbers is 0 or they are the same, their gcd is a magnitude
pub gcd_of_magnitude : (a c : ℤ) → (c ≡ pos 0) ⊎ (a ≡ c) → IsGcdOf a c (pos (unsigned_abs a))
gcd_of_magnitude a c (inl zero) = record { sign = omega (arith, ints); divisor = IsGcd-from_zero (unsigned_abs a) (unsigned_abs c) (ap unsigned_abs zero) }
gcd_of_magnitude a c (inr same) = record {
  sign = omega (arith, ints);
  divisor = rw (← ap unsigned_abs same) (dvd_refl (unsigned_abs a), dvd_refl (unsigned_abs a), λ k p q. p);
}

pub gcd_turned : (a c g : ℤ) → IsGcdOf a c g → IsGcdOf c a g
gcd_turned a c g is = record { sign = is.sign; divisor = (is.divisor.1, is.divisor.0, λ k p q. is.divisor.2 k q p) }

pub checks_gcd : {T : Type 0} (value : T → ℤ) (lo hi a c g : ℤ) (r : Option T) → IsGcdOf a c g → Checks value lo hi g r → ChecksGcd value lo hi a c r
checks_gcd value lo hi a c g None is out = λ held. out (held.each g is)
checks_gcd value lo hi a c g (Some y) is found = rw found.1 is
