-- Fractions over their least common denominator, which the lowest terms of b/d give. There is exactly one such triple.
use Rattle.std.specs.Prelude.{◌≡◌, ◌≤◌, ◌≤ℤ◌, ◌<ℤ◌, ◌*ℤ◌, ℤ, pos, unsigned_abs}
use Rattle.std.proofs.Common.{refl, sym, ap, arith, ◌∙◌}
use Rattle.std.proofs.Math.Nat.{le_of_dvd}
use Rattle.std.proofs.lemmas.Int.{ints}
use lib.IntN.{*ℤ_comm}
use Rattle.ratio_integer.specs.Arithmetic.{IsHeldScaled, IsLeastCommon, IsScaled, ScaledHeld}
use Rattle.ratio_integer.specs.Division.{IsGcdOf, IsMultiple}
use Rattle.ratio_integer.specs.Fraction.{IsLowestTermsOf}
use Rattle.ratio_integer.specs.Range.{IsHeld}
use Rattle.ratio_integer.proofs.CommonDivisors.{coprime_factor, coprime_gcd, coprime_turned, multiple_divides}
use Rattle.ratio_integer.proofs.DivisionLemmas.{abs_pos}
use Rattle.ratio_integer.proofs.Whole.{mul_assoc, mul_cancel, mul_positive, mul-swap_last, positive_nonzero}

-- ---- the least common denominator

-- a positive multiple of l is at least l
multiple_above : (m l : ℤ) → pos 0 <ℤ m → pos 0 <ℤ l → IsMultiple m l → l ≤ℤ m
multiple_above m l m_positive l_positive multiple =
    let size : unsigned_abs l ≤ unsigned_abs m = le_of_dvd (abs_pos m (positive_nonzero m m_positive)) (multiple_divides m l multiple) in
    omega (arith, ints)

-- if u/v are the lowest terms of b/d, then b*v is the least common denominator
module _ (b d u v : ℤ) (b_positive : pos 0 <ℤ b) (d_positive : pos 0 <ℤ d) (low : IsLowestTermsOf b d u v) where
  -- if b and d divide m, so does b*v: m is k*b and j*d, and v divides k, since it divides k*u and has no divisor in common with u
  common_divides : (m : ℤ) → IsMultiple m b → IsMultiple m d → IsMultiple m (b *ℤ v)
  common_divides m (k, by_b) (j, by_d) =
      let apart : IsGcdOf v u (pos 1) = record {
        sign = omega (arith, ints);
        divisor = coprime_gcd (unsigned_abs v) (unsigned_abs u) (coprime_turned (unsigned_abs u) (unsigned_abs v) low.lowest.only_one);
      } in
      let crossed : k *ℤ u ≡ j *ℤ v = mul_cancel (k *ℤ u) (j *ℤ v) d (positive_nonzero d d_positive) (
      mul_assoc k u d
      ∙ ap (λ (t : ℤ). k *ℤ t) (sym low.same)
      ∙ sym (mul_assoc k b v)
      ∙ ap (λ (t : ℤ). t *ℤ v) (sym by_b ∙ by_d)
      ∙ mul-swap_last j d v
      ∙ sym (mul_assoc j v d)) in
      let factor : IsMultiple k v = coprime_factor v u k apart (j, crossed) in
      (factor.0, by_b ∙ ap (λ (t : ℤ). t *ℤ b) factor.1 ∙ mul-swap_last factor.0 v b)

  pub least_common : IsLeastCommon b d (b *ℤ v)
  least_common =
      let positive = mul_positive b v b_positive low.lowest.positive in
      record {
        positive = positive;
        first = (v, *ℤ_comm b v);
        second = (u, low.same);
        least = λ m m_positive by_b by_d. multiple_above m (b *ℤ v) m_positive positive (common_divides m by_b by_d);
      }

  pub scaled_is : (a c : ℤ) → IsScaled a b c d (b *ℤ v) (a *ℤ v) (c *ℤ u)
  scaled_is a c = record {
    least = least_common;
    left = mul-swap_last a v b;
    right = mul_assoc c u d ∙ ap (λ (t : ℤ). c *ℤ t) (sym low.same);
  }

  pub held_scaled : (lo hi a c l p q : ℤ) → IsHeld lo hi (a *ℤ v) × (p ≡ a *ℤ v) → IsHeld lo hi (c *ℤ u) × (q ≡ c *ℤ u) → IsHeld lo hi (b *ℤ v) × (l ≡ b *ℤ v) → IsHeldScaled lo hi a b c d l p q
  held_scaled lo hi a c l p q left right common = rw (left.1, right.1, common.1) (record {
    scaled = scaled_is a c;
    common_held = common.0;
    left_held = left.0;
    right_held = right.0;
  })

-- if b = d, it is the least common denominator
pub scaled_equals : (a b c d : ℤ) → b ≡ d → pos 0 <ℤ b → IsScaled a b c d b a c
scaled_equals a b c d equal b_positive = record {
  least = record {
    positive = b_positive;
    first = (pos 1, one_times b);
    second = (pos 1, equal ∙ one_times d);
    least = λ m m_positive by_b by_d. multiple_above m b m_positive b_positive by_b;
  };
  left = refl;
  right = ap (λ (t : ℤ). c *ℤ t) (sym equal);
}
  where
    one_times : (x : ℤ) → x ≡ pos 1 *ℤ x
    one_times x = omega (arith, ints)

pub held_equals : (lo hi a b c d : ℤ) → b ≡ d → pos 0 <ℤ b → IsHeld lo hi a → IsHeld lo hi b → IsHeld lo hi c → IsHeldScaled lo hi a b c d b a c
held_equals lo hi a b c d equal b_positive a_held b_held c_held = record {
  scaled = scaled_equals a b c d equal b_positive;
  common_held = b_held;
  left_held = a_held;
  right_held = c_held;
}

-- ---- there is only one such triple

pub least_common_unique : (b d l m : ℤ) → IsLeastCommon b d l → IsLeastCommon b d m → l ≡ m
least_common_unique b d l m first second =
    let below = first.least m second.positive second.first second.second in
    let above = second.least l first.positive first.first first.second in
    omega (arith, ints)

module _ (a b c d l p q m r s : ℤ) (b_positive : pos 0 <ℤ b) (d_positive : pos 0 <ℤ d) (one : IsScaled a b c d l p q) (other : IsScaled a b c d m r s) where
  pub same_common : l ≡ m
  same_common = least_common_unique b d l m one.least other.least

  pub same_left : p ≡ r
  same_left = mul_cancel p r b (positive_nonzero b b_positive) (one.left ∙ ap (λ (t : ℤ). a *ℤ t) same_common ∙ sym other.left)

  pub same_right : q ≡ s
  same_right = mul_cancel q s d (positive_nonzero d d_positive) (one.right ∙ ap (λ (t : ℤ). c *ℤ t) same_common ∙ sym other.right)

-- if one of the three is out of range, the fractions cannot be scaled
module _ (lo hi a b c d l p q : ℤ) (b_positive : pos 0 <ℤ b) (d_positive : pos 0 <ℤ d) (is : IsScaled a b c d l p q) where
  pub common_out : ¬ (IsHeld lo hi l) → ¬ (ScaledHeld lo hi a b c d)
  common_out out held = out (rw (same_common a b c d l p q held.common held.left held.right b_positive d_positive is held.held.scaled) held.held.common_held)

  pub left_out : ¬ (IsHeld lo hi p) → ¬ (ScaledHeld lo hi a b c d)
  left_out out held = out (rw (same_left a b c d l p q held.common held.left held.right b_positive d_positive is held.held.scaled) held.held.left_held)

  pub right_out : ¬ (IsHeld lo hi q) → ¬ (ScaledHeld lo hi a b c d)
  right_out out held = out (rw (same_right a b c d l p q held.common held.left held.right b_positive d_positive is held.held.scaled) held.held.right_held)
