-- The remainder of one fraction by another, over their least common denominator.
use Rattle.std.specs.Prelude.{◌≡◌, ◌≢◌, ◌/◌, ◌*◌, ◌<◌, ◌<ℤ◌, ◌*ℤ◌, ◌+ℤ◌, ◌-ℤ◌, ℕ, ℤ, zero, suc, pos, negsuc, neg_ℤ, int_div, int_rem}
use Rattle.std.proofs.Common.{refl, sym, ap, arith, ◌∙◌}
use Rattle.std.proofs.Math.Nat.{mul-div-mul_right}
use Rattle.std.proofs.lemmas.Int.{ints, quot-rem}
use lib.IntN.{*ℤ_comm, zero-*ℤ}
use Rattle.ratio_integer.specs.Arithmetic.{IsHeldScaled, IsScaled, RemainderHeld}
use Rattle.ratio_integer.specs.Fraction.{IsHeldLowest, SameValue}
use Rattle.ratio_integer.proofs.DivisionLemmas.{multiple-rem, multiple_of_minus_one}
use Rattle.ratio_integer.proofs.LowestTerms.{held_lowest_moved}
use Rattle.ratio_integer.proofs.Whole.{mul-swap_last, mul_assoc, mul_nonzero, mul_positive, positive_nonzero, sub-mul}
use Rattle.ratio_core.proofs.SumLemmas.{over_common, over_common_right}

-- ---- the quotient cut towards zero does not change if both numbers are multiplied by a positive one

below_zero : (a m : ℕ) → 0 < m → int_div (pos a) (neg_ℤ (pos m)) ≡ neg_ℤ (pos (a / m))
below_zero a zero positive = absurd (omega arith)
below_zero a (suc j) positive = refl

from_below_zero : (a m : ℕ) → 0 < a → int_div (neg_ℤ (pos a)) (pos m) ≡ neg_ℤ (pos (a / m))
from_below_zero zero m positive = absurd (omega arith)
from_below_zero (suc j) m positive = refl

both_below_zero : (a m : ℕ) → 0 < a → 0 < m → int_div (neg_ℤ (pos a)) (neg_ℤ (pos m)) ≡ pos (a / m)
both_below_zero zero m a_positive m_positive = absurd (omega arith)
both_below_zero (suc i) zero a_positive m_positive = absurd (omega arith)
both_below_zero (suc i) (suc j) a_positive m_positive = refl

quotient-multiplied : (x y m : ℤ) → pos 0 <ℤ m → int_div (x *ℤ m) (y *ℤ m) ≡ int_div x y
quotient-multiplied x y (pos zero) positive = absurd (omega (arith, ints))
quotient-multiplied x y (negsuc k) positive = absurd (omega (arith, ints))
quotient-multiplied (pos a) (pos b) (pos (suc k)) positive = ap pos (mul-div-mul_right a b (omega arith))
quotient-multiplied (pos a) (negsuc b) (pos (suc k)) positive = below_zero (a * suc k) (suc b * suc k) (omega arith) ∙ ap (λ t. neg_ℤ (pos t)) (mul-div-mul_right a (suc b) (omega arith))
quotient-multiplied (negsuc a) (pos b) (pos (suc k)) positive = from_below_zero (suc a * suc k) (b * suc k) (omega arith) ∙ ap (λ t. neg_ℤ (pos t)) (mul-div-mul_right (suc a) b (omega arith))
quotient-multiplied (negsuc a) (negsuc b) (pos (suc k)) positive = both_below_zero (suc a * suc k) (suc b * suc k) (omega arith) (omega arith) ∙ ap pos (mul-div-mul_right (suc a) (suc b) (omega arith))

-- if t*q + r = p, then r = p - t*q
pub rest_is : (p q t r : ℤ) → t *ℤ q +ℤ r ≡ p → r ≡ p -ℤ t *ℤ q
rest_is p q t r whole = omega (arith, ints)

-- ---- the value

module _ (a b c d l p q : ℤ) (b_positive : pos 0 <ℤ b) (d_positive : pos 0 <ℤ d) (l_positive : pos 0 <ℤ l) (left : p *ℤ b ≡ a *ℤ l) (right : q *ℤ d ≡ c *ℤ l) where
  -- the quotient of the scaled numerators is the quotient of the fractions
  quotient_same : int_div p q ≡ int_div (a *ℤ d) (b *ℤ c)
  quotient_same =
      sym (quotient-multiplied p q (b *ℤ d) (mul_positive b d b_positive d_positive))
      ∙ ap (λ (t : ℤ). int_div t (q *ℤ (b *ℤ d))) (sym (over_common a b d l p left))
      ∙ ap (λ (t : ℤ). int_div ((a *ℤ d) *ℤ l) t) (sym (over_common_right b c d l q right))
      ∙ quotient-multiplied (a *ℤ d) (c *ℤ b) l l_positive
      ∙ ap (λ (t : ℤ). int_div (a *ℤ d) t) (*ℤ_comm c b)

  remainder_same : (r : ℤ) → r ≡ int_rem p q → SameValue (a *ℤ d -ℤ int_div (a *ℤ d) (b *ℤ c) *ℤ (c *ℤ b)) (b *ℤ d) r l
  remainder_same r r-rest =
      let t = int_div (a *ℤ d) (b *ℤ c) in
      let r-is : r ≡ p -ℤ t *ℤ q = r-rest ∙ rest_is p q (int_div p q) (int_rem p q) (quot-rem p q) ∙ ap (λ (z : ℤ). p -ℤ z *ℤ q) quotient_same in
      sub-mul (a *ℤ d) (t *ℤ (c *ℤ b)) l
      ∙ ap (λ (z : ℤ). z -ℤ (t *ℤ (c *ℤ b)) *ℤ l) (over_common a b d l p left)
      ∙ ap (λ (z : ℤ). p *ℤ (b *ℤ d) -ℤ z) (mul_assoc t (c *ℤ b) l ∙ ap (λ (z : ℤ). t *ℤ z) (over_common_right b c d l q right) ∙ sym (mul_assoc t q (b *ℤ d)))
      ∙ sym (sub-mul p (t *ℤ q) (b *ℤ d))
      ∙ ap (λ (z : ℤ). z *ℤ (b *ℤ d)) (sym r-is)

  -- if the divisor is not 0, neither is its numerator over l
  divisor_over : c ≢ pos 0 → q ≢ pos 0
  divisor_over nonzero e = mul_nonzero c l nonzero (positive_nonzero l l_positive) (sym right ∙ ap (λ (t : ℤ). t *ℤ d) e ∙ zero-*ℤ d)

-- the same over any common denominator l, with the numerators p and q
pub remainder_over : (lo hi a b c d l p q r u v : ℤ) → pos 0 <ℤ b → pos 0 <ℤ d → pos 0 <ℤ l → p *ℤ b ≡ a *ℤ l → q *ℤ d ≡ c *ℤ l → r ≡ int_rem p q → IsHeldLowest lo hi r l u v
    → IsHeldLowest lo hi (a *ℤ d -ℤ int_div (a *ℤ d) (b *ℤ c) *ℤ (c *ℤ b)) (b *ℤ d) u v
remainder_over lo hi a b c d l p q r u v b_positive d_positive l_positive left right r-rest low =
    held_lowest_moved lo hi r l _ (b *ℤ d) u v (mul_nonzero b d (positive_nonzero b b_positive) (positive_nonzero d d_positive)) (remainder_same a b c d l p q b_positive d_positive l_positive left right r r-rest) low

-- ---- one fraction expanded by y, and the other one by x

module _ (a b c d x y : ℤ) (b_positive : pos 0 <ℤ b) (d_positive : pos 0 <ℤ d) (positive : pos 0 <ℤ (b *ℤ y)) (common : b *ℤ y ≡ x *ℤ d) where
  expanded_right : (c *ℤ x) *ℤ d ≡ c *ℤ (b *ℤ y)
  expanded_right = mul_assoc c x d ∙ ap (λ (t : ℤ). c *ℤ t) (sym common)

  pub expanded_divisor : c ≢ pos 0 → (c *ℤ x) ≢ pos 0
  expanded_divisor nonzero = divisor_over a b c d (b *ℤ y) (a *ℤ y) (c *ℤ x) b_positive d_positive positive (mul-swap_last a y b) expanded_right nonzero

  pub expanded_remainder : (lo hi u v : ℤ) → IsHeldLowest lo hi (int_rem (a *ℤ y) (c *ℤ x)) (b *ℤ y) u v → IsHeldLowest lo hi (a *ℤ d -ℤ int_div (a *ℤ d) (b *ℤ c) *ℤ (c *ℤ b)) (b *ℤ d) u v
  expanded_remainder lo hi u v low = remainder_over lo hi a b c d (b *ℤ y) (a *ℤ y) (c *ℤ x) _ u v b_positive d_positive positive (mul-swap_last a y b) expanded_right refl low

-- ---- the result over the least common denominator

-- if the divisor is not 0, neither is its scaled numerator
pub divisor_scaled : (a b c d l p q : ℤ) → pos 0 <ℤ b → pos 0 <ℤ d → IsScaled a b c d l p q → c ≢ pos 0 → q ≢ pos 0
divisor_scaled a b c d l p q b_positive d_positive is = divisor_over a b c d l p q b_positive d_positive is.least.positive is.left is.right

pub remainder_answer : (lo hi a b c d l p q r u v : ℤ) → pos 0 <ℤ b → pos 0 <ℤ d → c ≢ pos 0 → IsHeldScaled lo hi a b c d l p q → r ≡ int_rem p q → IsHeldLowest lo hi r l u v → RemainderHeld lo hi a b c d × IsHeldLowest lo hi (a *ℤ d -ℤ int_div (a *ℤ d) (b *ℤ c) *ℤ (c *ℤ b)) (b *ℤ d) u v
remainder_answer lo hi a b c d l p q r u v b_positive d_positive nonzero is r-rest low = (
  record { divisor = nonzero; held = record { common = l; left = p; right = q; held = is } },
  remainder_over lo hi a b c d l p q r u v b_positive d_positive is.scaled.least.positive is.scaled.left is.scaled.right r-rest low,
)

-- dividing by -1 leaves no rest
pub rest_by_minus_one : (p q : ℤ) → q ≡ negsuc 0 → int_rem p q ≡ pos 0
rest_by_minus_one p q e = (multiple-rem p q).0 (multiple_of_minus_one p q e)
