-- If a fraction is in lowest terms, so are its negative, its reciprocal, its powers, and its difference from a whole number.
use Rattle.std.specs.Prelude.{◌≡◌, ◌≢◌, ◌^◌, ◌+ℤ◌, ◌*ℤ◌, ℕ, ℤ, zero, suc, pos, negsuc, neg_ℤ, unsigned_abs}
use Rattle.std.specs.Int.{int_pow}
use Rattle.std.proofs.Common.{sym, ap, arith, ◌∙◌, pow-suc}
use Rattle.std.proofs.lemmas.Int.{ints}
use Rattle.std.proofs.Math.Nat.{eq-one_of_dvd-one, pow-zero}
use Rattle.ratio_integer.specs.Division.{IsMultiple}
use Rattle.ratio_integer.specs.Fraction.{IsHeldLowest, IsLowestTerms}
use Rattle.ratio_integer.specs.Range.{IsHeld}
use Rattle.ratio_integer.proofs.CommonDivisors.{IsCoprime, coprime_product, coprime_turned, divides_multiple, multiple_divides}
use Rattle.ratio_integer.proofs.LowestTerms.{lowest_own}
use Rattle.ratio_integer.proofs.Whole.{add-mul, mul_assoc, unsigned_abs-neg}
use Rattle.ratio_core.specs.Power.{IsReciprocal}
use Rattle.ratio_core.specs.Rounding.{IsFractionalPart}
use Rattle.ratio_core.proofs.PowerLemmas.{pow_above, size-pow}

-- a fraction in lowest terms whose numbers are in range is its own lowest terms
pub own_held : (lo hi n d : ℤ) → IsLowestTerms n d → IsHeld lo hi n → IsHeld lo hi d → IsHeldLowest lo hi n d n d
own_held lo hi n d lowest numer_held denom_held = record { terms = lowest_own n d lowest; numer_held = numer_held; denom_held = denom_held }

pub negative_lowest : (n d : ℤ) → IsLowestTerms n d → IsLowestTerms (neg_ℤ n) d
negative_lowest n d lowest = record { positive = lowest.positive; only_one = rw (unsigned_abs-neg n) lowest.only_one }

-- ---- reciprocals

pub reciprocal_lowest : (n d a b : ℤ) → IsLowestTerms n d → n ≢ pos 0 → IsReciprocal n d a b → IsLowestTerms a b
reciprocal_lowest (pos zero) d a b lowest nonzero is = absurd (nonzero (ap pos (omega arith)))
reciprocal_lowest (pos (suc n)) d a b lowest nonzero is =
    let parts = is.positive (omega (arith, ints)) in
    rw (parts.0, parts.1) (record { positive = omega (arith, ints); only_one = coprime_turned _ _ lowest.only_one })
reciprocal_lowest (negsuc n) d a b lowest nonzero is =
    let parts = is.negative (omega (arith, ints)) in
    rw (parts.0, parts.1) (record {
      positive = omega (arith, ints);
      only_one = rw (unsigned_abs-neg d, unsigned_abs-neg (negsuc n)) (coprime_turned _ _ lowest.only_one);
    })

-- ---- powers

pub coprime_power : (x y m : ℕ) → IsCoprime y x → IsCoprime y (x ^ m)
coprime_power x y zero apart = λ k p q. eq-one_of_dvd-one (rw (pow-zero x) at q)
coprime_power x y (suc m) apart = rw (pow-suc x m) (coprime_product y (x ^ m) x (coprime_power x y m apart) apart)

pub powers_lowest : (n d : ℤ) (m : ℕ) → IsLowestTerms n d → IsLowestTerms (int_pow n m) (int_pow d m)
powers_lowest n d m lowest = record {
  positive = pow_above d m lowest.positive;
  only_one = rw (size-pow n m, size-pow d m) (
      coprime_power (unsigned_abs d) (unsigned_abs n ^ m) m (
      coprime_turned _ _ (coprime_power (unsigned_abs n) (unsigned_abs d) m (coprime_turned _ _ lowest.only_one))));
}

-- ---- the difference from a whole number

pub multiple_sum : (w d f n k : ℤ) → IsMultiple d k → IsMultiple f k → n ≡ w *ℤ d +ℤ f → IsMultiple n k
multiple_sum w d f n k (p, pe) (q, qe) sum = (w *ℤ p +ℤ q, sum ∙ ap (λ t. w *ℤ t +ℤ f) pe ∙ ap (λ t. w *ℤ (p *ℤ k) +ℤ t) qe ∙ ap (λ t. t +ℤ q *ℤ k) (sym (mul_assoc w p k)) ∙ sym (add-mul (w *ℤ p) q k))

pub part_lowest : (n d f : ℤ) → IsLowestTerms n d → IsFractionalPart n d f → IsLowestTerms f d
part_lowest n d f lowest part = record {
  positive = lowest.positive;
  only_one = λ k p q. lowest.only_one k (multiple_divides n (pos k) (multiple_sum part.whole d f n (pos k) (divides_multiple d (pos k) q) (divides_multiple f (pos k) p) part.sum)) q;
}
