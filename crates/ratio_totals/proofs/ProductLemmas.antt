-- Products that are cancelled across, and their lowest terms.
use Rattle.std.specs.Prelude.{◌≡◌, ◌*◌, ◌<◌, ◌<ℤ◌, ◌*ℤ◌, ℕ, ℤ, pos, negsuc, unsigned_abs, Option}
use Rattle.std.proofs.Common.{refl, sym, ap, subst, arith, ◌∙◌}
use Rattle.std.proofs.lemmas.Int.{ints, unsigned_abs-mul}
use Rattle.ratio_integer.specs.Fraction.{IsLowestTerms, IsLowestTermsOf, SameValue}
use Rattle.ratio_integer.proofs.CrossCancelling.{product_lowest}
use Rattle.ratio_integer.proofs.LowestTerms.{lowest_own}
use Rattle.ratio_natural.specs.Number.{base}
use Rattle.ratio_slots.specs.LowestSum.{ChecksPairBelow, IsPairBelow}
use Rattle.ratio_slots.proofs.LowestSumLemmas.{pair_moved, product_positive}

pub size_positive : (q : ℤ) → pos 0 <ℤ q → 0 < unsigned_abs q
size_positive (pos n) h = omega (arith, ints)
size_positive (negsuc n) h = absurd (omega (arith, ints))

pub positive_size : (q : ℤ) → pos 0 <ℤ q → q ≡ pos (unsigned_abs q)
positive_size (pos n) h = refl
positive_size (negsuc n) h = absurd (omega (arith, ints))

-- the product of two numbers above 0 is that of their magnitudes
size_product : (q t : ℤ) → pos 0 <ℤ q → pos 0 <ℤ t → q *ℤ t ≡ pos (unsigned_abs q * unsigned_abs t)
size_product q t first second = ap (λ (z : ℤ). z *ℤ t) (positive_size q first) ∙ ap (λ (z : ℤ). pos (unsigned_abs q) *ℤ z) (positive_size t second)

-- two numbers below a bound, in lowest terms, are their own lowest terms below it
pub short_own : (bound : ℕ) (n : ℤ) (d : ℕ) → IsLowestTerms n (pos d) → unsigned_abs n < bound → d < bound → IsPairBelow bound (n, d) n d
short_own bound n d lowest n_short d_short = record { terms = lowest_own n (pos d) lowest; numer_short = n_short; denom_short = d_short }

pub product_short : (p s : ℤ) (a b r : ℕ) → a ≡ unsigned_abs p → b ≡ unsigned_abs s → r ≡ a * b → r < base → unsigned_abs (p *ℤ s) < base
product_short p s a b r a_is b_is r_is below =
    subst (λ m. m < base) (r_is ∙ ap (λ m. m * b) a_is ∙ ap (λ m. unsigned_abs p * m) b_is ∙ sym (unsigned_abs-mul p s)) below

module _ (a b c d p q s t : ℤ) (left : IsLowestTerms a b) (right : IsLowestTerms c d) (falling : IsLowestTermsOf a d p t) (rising : IsLowestTermsOf c b s q) where
  whole : IsLowestTermsOf (a *ℤ c) (b *ℤ d) (p *ℤ s) (q *ℤ t)
  whole = product_lowest a b c d a b c d p q s t (lowest_own a b left) (lowest_own c d right) falling rising

  below : q *ℤ t ≡ pos (unsigned_abs q * unsigned_abs t)
  below = size_product q t rising.lowest.positive falling.lowest.positive

  above : b *ℤ d ≡ pos (unsigned_abs b * unsigned_abs d)
  above = size_product b d left.positive right.positive

  -- the products are in lowest terms
  pub crossed_lowest : IsLowestTerms (p *ℤ s) (pos (unsigned_abs q * unsigned_abs t))
  crossed_lowest = subst (λ (z : ℤ). IsLowestTerms (p *ℤ s) z) below whole.lowest

  crossed_same : SameValue (p *ℤ s) (pos (unsigned_abs q * unsigned_abs t)) (a *ℤ c) (pos (unsigned_abs b * unsigned_abs d))
  crossed_same =
      subst (λ (z : ℤ). SameValue (p *ℤ s) z (a *ℤ c) (pos (unsigned_abs b * unsigned_abs d))) below
      (subst (λ (z : ℤ). SameValue (p *ℤ s) (q *ℤ t) (a *ℤ c) z) above (sym whole.same))

  -- what is the result for them is the result for the product
  pub crossed_checked : (bound : ℕ) (r : Option (ℤ × ℕ)) → ChecksPairBelow bound (p *ℤ s, unsigned_abs q * unsigned_abs t) r → ChecksPairBelow bound (a *ℤ c, unsigned_abs b * unsigned_abs d) r
  crossed_checked bound r checks =
      pair_moved bound (p *ℤ s, unsigned_abs q * unsigned_abs t) (a *ℤ c, unsigned_abs b * unsigned_abs d) r
      (product_positive _ _ (size_positive b left.positive) (size_positive d right.positive)) crossed_same checks
