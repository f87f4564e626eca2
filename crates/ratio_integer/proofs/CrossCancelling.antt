-- Products of fractions in lowest terms: if they are cancelled across first, they are already in lowest terms.
use Rattle.std.specs.Prelude.{◌≡◌, ◌*◌, ◌<ℤ◌, ◌*ℤ◌, ℕ, ℤ, pos, unsigned_abs}
use Rattle.std.specs.Int.{◌∣◌}
use Rattle.std.proofs.Common.{sym, arith, ◌∙◌}
use Rattle.std.proofs.lemmas.Int.{unsigned_abs-mul}
use Rattle.std.proofs.Math.Nat.{dvd-mul_left, dvd-mul_right}
use lib.IntN.{*ℤ_comm}
use Rattle.ratio_integer.specs.Fraction.{IsLowestTerms, IsLowestTermsOf, SameValue}
use Rattle.ratio_integer.proofs.CommonDivisors.{IsCoprime, coprime_divisors, coprime_gcd, coprime_product, coprime_turned}
use Rattle.ratio_integer.proofs.GcdLemmas.{coprime-dvd}
use Rattle.ratio_integer.proofs.LowestTerms.{same_value_chained, same_value_products}
use Rattle.ratio_integer.proofs.Whole.{mul_nonzero, mul_positive, positive_nonzero, unsigned_abs-products}

-- ---- the lowest terms of a fraction divide its two numbers

pub numer_divides : (n d a b : ℤ) → IsLowestTermsOf n d a b → unsigned_abs a ∣ unsigned_abs n
numer_divides n d a b low =
    let crossed = unsigned_abs-products n b a d low.same in
    coprime-dvd (unsigned_abs a) (unsigned_abs b) (unsigned_abs n) (coprime_gcd (unsigned_abs a) (unsigned_abs b) low.lowest.only_one) (rw crossed (dvd-mul_right (unsigned_abs a) (unsigned_abs d)))

pub denom_divides : (n d a b : ℤ) → IsLowestTermsOf n d a b → unsigned_abs b ∣ unsigned_abs d
denom_divides n d a b low =
    let crossed = unsigned_abs-products n b a d low.same in
    coprime-dvd (unsigned_abs b) (unsigned_abs a) (unsigned_abs d) (coprime_gcd (unsigned_abs b) (unsigned_abs a) (coprime_turned (unsigned_abs a) (unsigned_abs b) low.lowest.only_one)) (rw (turn (unsigned_abs a) (unsigned_abs d) ∙ sym crossed) (dvd-mul_left (unsigned_abs b) (unsigned_abs n)))
  where
    turn : (x y : ℕ) → y * x ≡ x * y
    turn x y = omega arith

-- ---- products

-- if p and s are both coprime to q and to t, then p*s over q*t is in lowest terms
pub crossed_lowest : (p q s t : ℤ) → pos 0 <ℤ q → pos 0 <ℤ t → IsCoprime (unsigned_abs p) (unsigned_abs q) → IsCoprime (unsigned_abs p) (unsigned_abs t) → IsCoprime (unsigned_abs s) (unsigned_abs q) → IsCoprime (unsigned_abs s) (unsigned_abs t) → IsLowestTerms (p *ℤ s) (q *ℤ t)
crossed_lowest p q s t q_positive t_positive pq pt sq st = record {
  positive = mul_positive q t q_positive t_positive;
  only_one = rw (unsigned_abs-mul p s, unsigned_abs-mul q t) (
      coprime_turned _ _ (coprime_product _ _ _
      (coprime_turned _ _ (coprime_product _ _ _ pq pt))
      (coprime_turned _ _ (coprime_product _ _ _ sq st))));
}

-- a/b and c/d are in lowest terms, the lowest terms of a/d are p/t, and those of c/b are s/q
module _ (a b c d p q s t : ℤ) (left : IsLowestTerms a b) (right : IsLowestTerms c d) (falling : IsLowestTermsOf a d p t) (rising : IsLowestTermsOf c b s q) where
  pub cancelled_lowest : IsLowestTerms (p *ℤ s) (q *ℤ t)
  cancelled_lowest = crossed_lowest p q s t rising.lowest.positive falling.lowest.positive
      (coprime_divisors _ _ _ _ left.only_one (numer_divides a d p t falling) (denom_divides c b s q rising))
      falling.lowest.only_one
      rising.lowest.only_one
      (coprime_divisors _ _ _ _ right.only_one (numer_divides c b s q rising) (denom_divides a d p t falling))

  pub cancelled_same : SameValue (a *ℤ c) (b *ℤ d) (p *ℤ s) (q *ℤ t)
  cancelled_same = rw (*ℤ_comm b d, *ℤ_comm q t) (same_value_products a d c b p t s q falling.same rising.same)

-- so cancelling across gives the lowest terms of the product of m/e and n/f, if a/b are the lowest terms of m/e and c/d are those of n/f
pub product_lowest : (m e n f a b c d p q s t : ℤ) → IsLowestTermsOf m e a b → IsLowestTermsOf n f c d → IsLowestTermsOf a d p t → IsLowestTermsOf c b s q → IsLowestTermsOf (m *ℤ n) (e *ℤ f) (p *ℤ s) (q *ℤ t)
product_lowest m e n f a b c d p q s t left right falling rising = record {
  fraction = mul_nonzero e f left.fraction right.fraction;
  same = same_value_chained _ _ (a *ℤ c) (b *ℤ d) _ _
      (mul_nonzero b d (positive_nonzero b left.lowest.positive) (positive_nonzero d right.lowest.positive))
      (same_value_products m e n f a b c d left.same right.same)
      (cancelled_same a b c d p q s t left.lowest right.lowest falling rising);
  lowest = cancelled_lowest a b c d p q s t left.lowest right.lowest falling rising;
}
