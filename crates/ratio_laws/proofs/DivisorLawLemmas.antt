-- The laws of greatest common divisors and least common multiples, from their properties.
use Rattle.std.specs.Prelude.{◌≡◌, ◌≢◌, ◌*◌, ◌≤ℤ◌, ◌<ℤ◌, ◌*ℤ◌, ℕ, ℤ, zero, suc, pos, negsuc, unsigned_abs, int_div}
use Rattle.std.specs.declared.cmp.Ordering.TheVariants.{Greater}
use Rattle.std.proofs.Common.{refl, sym, ap, arith, inr, ◌∙◌}
use Rattle.std.proofs.lemmas.Int.{ints, unsigned_abs-mul}
use lib.IntN.{*ℤ_comm, *ℤ-zero}
use Rattle.ratio_integer.specs.Division.{IsGcdOf, IsLcmOf}
use Rattle.ratio_integer.specs.Fraction.{IsLowestTerms, IsLowestTermsOf, SameValue}
use Rattle.ratio_integer.proofs.CommonDivisors.{gcd_exists}
use Rattle.ratio_integer.proofs.LcmLemmas.{exact_quotient, lcm_by_gcd, lcm_of_zero}
use Rattle.ratio_integer.proofs.LowestTerms.{lowest_unique, over_one}
use Rattle.ratio_integer.proofs.Whole.{mul_assoc, mul_positive, mul-swap_last}
use Rattle.ratio_core.specs.Divisors.{DividesFraction, IsGcdOfFractions, IsLcmOfFractions}
use Rattle.ratio_core.specs.Order.{cross_cmp}
use Rattle.ratio_core.proofs.DivisorLemmas.{gcd_of_fractions, gcd_unique, lcm_of_fractions, lcm_unique}
use Rattle.num_rational.specs.declared.reduced.Reduced.{Reduced}
use Rattle.num_rational.specs.Ratio.{denominator, numerator}
use Rattle.num_rational.proofs.ValueLemmas.{at_most_not_greater, same_value_absolutes}
use Rattle.ratio_laws.specs.DivisorLaws.{HasDivisorOfBoth, HasMultipleOfBoth, HasNoDivisorAbove, HasNoMultipleBelow, IsWholeByDivisor, MultipliesToProduct}
use Rattle.ratio_laws.proofs.ResultLemmas.{denominator_nonzero, one_result, product_nonzero}

-- ---- whole numbers

-- if n is a positive multiple of m, then m is at most n
multiple_at_least : (k m n : ℤ) → n ≡ k *ℤ m → pos 0 <ℤ n → m ≤ℤ n
multiple_at_least (pos zero) m n is positive = absurd (omega (arith, ints))
multiple_at_least (pos (suc k)) (pos m) n is positive = omega (arith, ints)
multiple_at_least k (negsuc m) n is positive = omega (arith, ints)
multiple_at_least (negsuc k) (pos m) n is positive = absurd (omega (arith, ints))

-- the gcd times the lcm is the magnitude of the product
pub record HasLcm (a b g : ℤ) : Type 0 where
  pub multiple : ℤ
  pub least : IsLcmOf a b multiple
  pub product : g *ℤ multiple ≡ pos (unsigned_abs (a *ℤ b))

by_gcd : (a b g : ℤ) → b ≢ pos 0 → IsGcdOf a b g → HasLcm a b g
by_gcd a b (negsuc g) nonzero is = absurd (let sign = is.sign in omega (arith, ints))
by_gcd a b (pos g) nonzero is =
    let u = int_div a (pos g) in
    let whole : u *ℤ pos g ≡ a = exact_quotient a (pos g) is.divisor.0 in
    let product : a *ℤ b ≡ pos g *ℤ (u *ℤ b) = ap (λ (t : ℤ). t *ℤ b) (sym whole ∙ *ℤ_comm u (pos g)) ∙ mul_assoc (pos g) u b in
    record {
      multiple = pos (unsigned_abs (u *ℤ b));
      least = lcm_by_gcd a b (pos g) u nonzero is refl;
      product = ap pos (sym (unsigned_abs-mul (pos g) (u *ℤ b)) ∙ ap unsigned_abs (sym product));
    }

has_lcm : (a b g : ℤ) → IsGcdOf a b g → HasLcm a b g
has_lcm a (pos zero) g is = record {
  multiple = pos 0;
  least = lcm_of_zero a (pos 0) (pos 0) (inr refl) refl;
  product = *ℤ-zero g ∙ sym (ap (λ (t : ℤ). pos (unsigned_abs t)) (*ℤ-zero a));
}
has_lcm a (pos (suc b)) g is = by_gcd a (pos (suc b)) g (omega (arith, ints)) is
has_lcm a (negsuc b) g is = by_gcd a (negsuc b) g (omega (arith, ints)) is

magnitude_of_positive : (z : ℤ) → pos 0 <ℤ z → pos (unsigned_abs z) ≡ z
magnitude_of_positive z positive = omega (arith, ints)

-- ---- a/b and c/d

module _ (a b c d : ℤ) (left : IsLowestTerms a b) (right : IsLowestTerms c d) (g h l m : ℤ) (divisor : IsGcdOfFractions a b c d g h) (multiple : IsLcmOfFractions a b c d l m) where
  products_are : (g *ℤ l ≡ pos (unsigned_abs (a *ℤ c))) × (h *ℤ m ≡ b *ℤ d)
  products_are =
      let numer : (g : ℤ) × IsGcdOf a c g = gcd_exists a c in
      let denom : (m : ℤ) × IsGcdOf b d m = gcd_exists b d in
      let numers = has_lcm a c numer.0 numer.1 in
      let denoms = has_lcm b d denom.0 denom.1 in
      let first = gcd_unique a b c d _ _ _ _ divisor (gcd_of_fractions a b c d left right numer.0 denoms.multiple numer.1 denoms.least) in
      let second = lcm_unique a b c d _ _ _ _ multiple (lcm_of_fractions a b c d left right numers.multiple denom.0 numers.least denom.1) in (
        rw (first.0, second.0) numers.product,
        rw (first.1, second.1) (*ℤ_comm denoms.multiple denom.0 ∙ denoms.product ∙ magnitude_of_positive (b *ℤ d) (mul_positive b d left.positive right.positive)),
      )

-- a/b by a fraction that divides it is a whole number
whole_quotient : (a b g h n d : ℤ) → DividesFraction g h a b → IsLowestTermsOf (a *ℤ h) (b *ℤ g) n d → d ≡ pos 1
whole_quotient a b g h n d (k, e) low =
    let same : (a *ℤ h) *ℤ pos 1 ≡ k *ℤ (b *ℤ g) = times_one (a *ℤ h) ∙ e ∙ mul-swap_last k g b in
    (lowest_unique _ _ n d k (pos 1) low (record { fraction = low.fraction; same = same; lowest = over_one k (pos 1) refl })).1
  where
    times_one : (z : ℤ) → z *ℤ pos 1 ≡ z
    times_one z = omega (arith, ints)

-- a fraction that divides a positive one is not above it
divisor_not_above : (g h n d : ℤ) → pos 0 <ℤ h → pos 0 <ℤ d → pos 0 <ℤ n → DividesFraction g h n d → cross_cmp g h n d ≢ Greater
divisor_not_above g h n d h_up d_up n_up (k, e) =
    at_most_not_greater g h n d h_up d_up
    (multiple_at_least k (g *ℤ d) (n *ℤ h) (e ∙ mul_assoc k g d) (mul_positive n h n_up h_up))

above_zero : (z : ℤ) → pos 0 ≤ℤ z → z ≢ pos 0 → pos 0 <ℤ z
above_zero z sign nonzero = grind (arith, ints)

-- ---- the laws

module _ {T : _} {i : _} {o : _} {e : _} {p : _} {h : _} (x y : Reduced T i o e p h) where
  pub has_divisor_of_both : HasDivisorOfBoth x y
  has_divisor_of_both divisor told = (told.pair.first, told.pair.second)

  pub is_whole_by_divisor : IsWholeByDivisor x y
  is_whole_by_divisor divisor quotient told other =
      whole_quotient (numerator x.ratio) (denominator x.ratio) (numerator divisor.ratio) (denominator divisor.ratio) _ _ told.pair.first other.terms

  pub has_no_divisor_above : HasNoDivisorAbove x y
  has_no_divisor_above divisor other told nonzero left right =
      divisor_not_above (numerator other.ratio) (denominator other.ratio) (numerator divisor.ratio) (denominator divisor.ratio)
      other.lowest.positive divisor.lowest.positive (above_zero _ told.pair.sign nonzero)
      (told.pair.greatest _ _ (denominator_nonzero other) left right)

  pub has_multiple_of_both : HasMultipleOfBoth x y
  has_multiple_of_both multiple told = (told.pair.first, told.pair.second)

  pub has_no_multiple_below : HasNoMultipleBelow x y
  has_no_multiple_below multiple other told positive left right =
      divisor_not_above (numerator multiple.ratio) (denominator multiple.ratio) (numerator other.ratio) (denominator other.ratio)
      multiple.lowest.positive other.lowest.positive positive
      (told.pair.least _ _ (denominator_nonzero other) left right)

  pub multiplies_to_product : MultipliesToProduct x y
  multiplies_to_product divisor multiple product left right told other times first second =
      let are = products_are (numerator x.ratio) (denominator x.ratio) (numerator y.ratio) (denominator y.ratio) x.lowest y.lowest _ _ _ _ told.pair other.pair in
      let b_up = mul_positive (denominator x.ratio) (denominator y.ratio) x.lowest.positive y.lowest.positive in
      one_result _ _ (pos (unsigned_abs (numerator product.ratio))) (denominator product.ratio) left right
      (product_nonzero divisor multiple) (denominator_nonzero product)
      (rw (are.0, are.1) (sym (same_value_absolutes _ _ _ _ b_up product.lowest.positive times.terms.same)))
      first second
