-- Products and quotients: by the products of the fields, not reduced, and cancelled across.
use Rattle.std.specs.Prelude.{◌≢◌, ◌<ℤ◌, ◌*ℤ◌, ℤ, zero, suc, pos, negsuc, Option, Some, None}
use Rattle.std.proofs.Common.{sym, ap, arith, ◌∙◌}
use Rattle.std.proofs.lemmas.Int.{ints}
use lib.IntN.{*ℤ_comm, *ℤ-zero, zero-*ℤ}
use Rattle.ratio_integer.specs.Fraction.{ChecksLowest, Fits, IsLowestTerms, IsLowestTermsOf, SameValue}
use Rattle.ratio_integer.specs.Range.{IsHeld, IsRange}
use Rattle.ratio_integer.proofs.CommonDivisors.{coprime_divisors, coprime_turned}
use Rattle.ratio_integer.proofs.CrossCancelling.{crossed_lowest, denom_divides, numer_divides}
use Rattle.ratio_integer.proofs.DivisionLemmas.{low_below}
use Rattle.ratio_integer.proofs.LowestTerms.{HasLowest, checks_lowest_moved, denom_out, held_lowest_moved, lowest_exist, lowest_own, lowest_unique, numer_out, same_value_chained, same_value_products, same_value_turned}
use Rattle.ratio_integer.proofs.Whole.{mul_nonzero, mul_positive, positive_factor, positive_nonzero}

-- ---- a fraction in place of another

-- the result for the lowest terms of a fraction is the result for the fraction
pub checks_by_lowest : {R : Type 0} (numer denom : R → ℤ) (lo hi n d a b : ℤ) (r : Option R) → IsLowestTermsOf n d a b → ChecksLowest numer denom lo hi (a, b) r → ChecksLowest numer denom lo hi (n, d) r
checks_by_lowest numer denom lo hi n d a b r low answer =
    checks_lowest_moved numer denom lo hi a b n d r (positive_nonzero b low.lowest.positive) low.fraction low.same answer

-- a pair in lowest terms fits only if both of its numbers are in range
pub own_numer_out : (lo hi a b : ℤ) → IsLowestTerms a b → ¬ (IsHeld lo hi a) → ¬ (Fits lo hi a b)
own_numer_out lo hi a b lowest out = numer_out lo hi a b a b (lowest_own a b lowest) out

pub own_denom_out : (lo hi a b : ℤ) → IsLowestTerms a b → ¬ (IsHeld lo hi b) → ¬ (Fits lo hi a b)
own_denom_out lo hi a b lowest out = denom_out lo hi a b a b (lowest_own a b lowest) out

-- ---- factors

-- if p times a positive number is in range, so is p
pub factor_held : (lo hi p s : ℤ) → IsRange lo hi → pos 0 <ℤ s → IsHeld lo hi (p *ℤ s) → IsHeld lo hi p
factor_held lo hi p (pos zero) range positive held = absurd (omega (arith, ints))
factor_held lo hi p (negsuc m) range positive held = absurd (omega (arith, ints))
factor_held lo hi (pos n) (pos (suc m)) range positive held =
    let low = low_below lo hi range in
    let above = held.above in
    let below = held.below in
    record { above = omega (arith, ints); below = omega (arith, ints) }
factor_held lo hi (negsuc n) (pos (suc m)) range positive held =
    let high = range.high in
    let above = held.above in
    let below = held.below in
    record { above = omega (arith, ints); below = omega (arith, ints) }

right_nonzero : (a b : ℤ) → a *ℤ b ≢ pos 0 → b ≢ pos 0
right_nonzero a b nonzero e = nonzero (ap (λ (t : ℤ). a *ℤ t) e ∙ *ℤ-zero a)

-- if the numerator of the lowest terms is not 0, neither is the numerator of the fraction
numer_nonzero : (n d a b : ℤ) → IsLowestTermsOf n d a b → a ≢ pos 0 → n ≢ pos 0
numer_nonzero n d a b low nonzero e = mul_nonzero a d nonzero low.fraction (sym low.same ∙ ap (λ (t : ℤ). t *ℤ b) e ∙ zero-*ℤ b)

lowest_nonzero : (n d a b : ℤ) → IsLowestTermsOf n d a b → n ≢ pos 0 → a ≢ pos 0
lowest_nonzero n d a b low nonzero e = mul_nonzero n b nonzero (positive_nonzero b low.lowest.positive) (low.same ∙ ap (λ (t : ℤ). t *ℤ d) e ∙ zero-*ℤ d)

numer_positive : (n d a b : ℤ) → pos 0 <ℤ n → pos 0 <ℤ d → IsLowestTermsOf n d a b → pos 0 <ℤ a
numer_positive n d a b n_positive d_positive low = positive_factor a d d_positive (rw (sym low.same) (mul_positive n b n_positive low.lowest.positive))

-- ---- quotients

reciprocal_same : (n d a b : ℤ) → SameValue n d a b → SameValue d n b a
reciprocal_same n d a b same = *ℤ_comm d a ∙ sym same ∙ *ℤ_comm n b

-- the result for the quotient of the lowest terms is the result for the quotient; p/q are the lowest terms of a/b, and s/t those of c/d
pub quotient_by_lowest : {R : Type 0} (numer denom : R → ℤ) (lo hi a b c d p q s t : ℤ) (r : Option R) → IsLowestTermsOf a b p q → IsLowestTermsOf c d s t → ChecksLowest numer denom lo hi (p *ℤ t, q *ℤ s) r → ChecksLowest numer denom lo hi (a *ℤ d, b *ℤ c) r
quotient_by_lowest numer denom lo hi a b c d p q s t (Some r) left right is =
    held_lowest_moved lo hi (p *ℤ t) (q *ℤ s) (a *ℤ d) (b *ℤ c) _ _
    (mul_nonzero b c left.fraction (numer_nonzero c d s t right (right_nonzero q s is.terms.fraction)))
    (same_value_products a b d c p q t s left.same (reciprocal_same c d s t right.same)) is
quotient_by_lowest numer denom lo hi a b c d p q s t None left right out = λ fits. out (record {
  numer = fits.numer;
  denom = fits.denom;
  low = held_lowest_moved lo hi (a *ℤ d) (b *ℤ c) (p *ℤ t) (q *ℤ s) _ _
      (mul_nonzero q s (positive_nonzero q left.lowest.positive) (lowest_nonzero c d s t right (right_nonzero b c fits.low.terms.fraction)))
      (same_value_turned (a *ℤ d) (b *ℤ c) (p *ℤ t) (q *ℤ s) (same_value_products a b d c p q t s left.same (reciprocal_same c d s t right.same))) fits.low;
})

-- the same for the product
pub product_by_lowest : {R : Type 0} (numer denom : R → ℤ) (lo hi a b c d p q s t : ℤ) (r : Option R) → IsLowestTermsOf a b p q → IsLowestTermsOf c d s t → ChecksLowest numer denom lo hi (p *ℤ s, q *ℤ t) r → ChecksLowest numer denom lo hi (a *ℤ c, b *ℤ d) r
product_by_lowest numer denom lo hi a b c d p q s t r left right answer =
    checks_lowest_moved numer denom lo hi (p *ℤ s) (q *ℤ t) (a *ℤ c) (b *ℤ d) r
    (mul_nonzero q t (positive_nonzero q left.lowest.positive) (positive_nonzero t right.lowest.positive))
    (mul_nonzero b d left.fraction right.fraction)
    (same_value_products a b c d p q s t left.same right.same) answer

-- the lowest terms of m/e are a/b, those of n/f are c/d, and those of d/b are s/t
module _ (m e n f a b c d s t : ℤ) (left : IsLowestTermsOf m e a b) (right : IsLowestTermsOf n f c d) (denoms : IsLowestTermsOf d b s t) where
  -- if the lowest terms of a/c are p/q, then cancelling across gives the lowest terms of m/e divided by n/f
  pub quotient_lowest : (p q : ℤ) → IsLowestTermsOf a c p q → IsLowestTermsOf (m *ℤ f) (e *ℤ n) (p *ℤ s) (q *ℤ t)
  quotient_lowest p q numers = record {
    fraction = mul_nonzero e n left.fraction (numer_nonzero n f c d right numers.fraction);
    same = same_value_chained _ _ (a *ℤ d) (b *ℤ c) _ _
        (mul_nonzero b c (positive_nonzero b left.lowest.positive) numers.fraction)
        (same_value_products m e f n a b d c left.same (reciprocal_same n f c d right.same))
        (rw (*ℤ_comm b c) (same_value_products a c d b p q s t numers.same denoms.same));
    lowest = crossed_lowest p q s t numers.lowest.positive denoms.lowest.positive
        numers.lowest.only_one
        (coprime_divisors _ _ _ _ left.lowest.only_one (numer_divides a c p q numers) (denom_divides d b s t denoms))
        (coprime_divisors _ _ _ _ (coprime_turned _ _ right.lowest.only_one) (numer_divides d b s t denoms) (denom_divides a c p q numers))
        denoms.lowest.only_one;
  }

  -- the lowest terms of the quotient are at least as far from 0 as those of a/c; so if a/c does not fit, neither does the quotient
  pub quotient_out : (lo hi : ℤ) → IsRange lo hi → ¬ (Fits lo hi a c) → ¬ (Fits lo hi (m *ℤ f) (e *ℤ n))
  quotient_out lo hi range out fits =
      let c_nonzero : c ≢ pos 0 = lowest_nonzero n f c d right (right_nonzero e n fits.low.terms.fraction) in
      let numers : HasLowest a c = lowest_exist a c c_nonzero in
      let p = numers.numer in
      let q = numers.denom in
      let only = lowest_unique (m *ℤ f) (e *ℤ n) fits.numer fits.denom (p *ℤ s) (q *ℤ t) fits.low.terms (quotient_lowest p q numers.terms) in
      out (record {
        numer = p;
        denom = q;
        low = record {
          terms = numers.terms;
          numer_held = factor_held lo hi p s range (numer_positive d b s t right.lowest.positive left.lowest.positive denoms) (rw only.0 at fits.low.numer_held);
          denom_held = factor_held lo hi q t range denoms.lowest.positive (rw only.1 at fits.low.denom_held);
        };
      })
