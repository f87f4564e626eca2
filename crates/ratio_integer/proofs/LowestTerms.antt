-- Lowest terms: each fraction has exactly one pair of them, and dividing by the gcd gives them.
use Rattle.std.specs.Prelude.{◌≡◌, ◌≢◌, ◌*◌, ◌≤ℤ◌, ◌<ℤ◌, ◌*ℤ◌, ℕ, ℤ, zero, suc, pos, negsuc, neg_ℤ, unsigned_abs, int_div, Option, Some, None}
use Rattle.std.specs.Int.{◌∣◌}
use Rattle.std.proofs.Common.{refl, sym, ap, arith, ◌∙◌}
use Rattle.std.proofs.Math.Nat.{dvd_antisymm, dvd-mul_left, dvd_of_mul-dvd-mul_left, eq-one_of_dvd-one, mul-dvd-mul_left}
use Rattle.std.proofs.lemmas.Int.{ints, unsigned_abs-mul}
use lib.IntN.{one, *ℤ_comm, *ℤ-one, zero-*ℤ}
use Rattle.ratio_integer.specs.Division.{GcdHeld, IsGcdOf}
use Rattle.ratio_integer.specs.Fraction.{ChecksLowest, Fits, IsCancelledOf, IsHeldLowest, IsLowestTerms, IsLowestTermsOf, SameValue}
use Rattle.ratio_integer.specs.Range.{IsHeld, IsRange}
use Rattle.ratio_integer.proofs.CommonDivisors.{coprime_gcd, coprime_turned, gcd_exists}
use Rattle.ratio_integer.proofs.DivisionLemmas.{abs_pos, gcd_bounded, low_below, quotient_held}
use Rattle.ratio_integer.proofs.GcdLemmas.{coprime-dvd}
use Rattle.ratio_integer.proofs.LcmLemmas.{divisor_nonzero, exact_quotient}
use Rattle.ratio_integer.proofs.Whole.{mul_assoc, mul_cancel, mul-swap_inner, mul-swap_last, neg-mul-neg, positive_factor, positive_nonzero, unsigned_abs-products}

-- ---- the same value

pub same_value_turned : (a b c d : ℤ) → SameValue a b c d → SameValue c d a b
same_value_turned a b c d same = sym same

-- having the same value is transitive, if the fraction in the middle has a denominator that is not 0
pub same_value_chained : (a b c d e f : ℤ) → d ≢ pos 0 → SameValue a b c d → SameValue c d e f → SameValue a b e f
same_value_chained a b c d e f fraction first second =
    mul_cancel (a *ℤ f) (e *ℤ b) d fraction (
    mul-swap_last a f d
    ∙ sym (mul_assoc a d f)
    ∙ ap (λ (t : ℤ). t *ℤ f) first
    ∙ mul-swap_last c b f
    ∙ sym (mul_assoc c f b)
    ∙ ap (λ (t : ℤ). t *ℤ b) second
    ∙ mul-swap_last e d b
    ∙ sym (mul_assoc e b d))

-- products of equal values have equal values
pub same_value_products : (a b c d p q s t : ℤ) → SameValue a b p q → SameValue c d s t → SameValue (a *ℤ c) (b *ℤ d) (p *ℤ s) (q *ℤ t)
same_value_products a b c d p q s t left right =
    mul-swap_inner a c q t ∙ ap (λ (z : ℤ). z *ℤ (c *ℤ t)) left ∙ ap (λ (z : ℤ). (p *ℤ b) *ℤ z) right ∙ mul-swap_inner p b s d

-- ---- there is only one pair of lowest terms

-- if a and b are coprime, p and q are coprime, and a*q = p*b, then b = q
denoms_same : (a b p q : ℕ) → ((k : ℕ) → k ∣ a → k ∣ b → k ≡ 1) → ((k : ℕ) → k ∣ p → k ∣ q → k ≡ 1) → a * q ≡ p * b → b ≡ q
denoms_same a b p q first second crossed = dvd_antisymm
    (coprime-dvd b a q (coprime_gcd b a (coprime_turned a b first)) (rw (turn q a ∙ crossed) (dvd-mul_left b p)))
    (coprime-dvd q p b (coprime_gcd q p (coprime_turned p q second)) (rw (turn b p ∙ sym crossed) (dvd-mul_left q a)))
  where
    turn : (x y : ℕ) → x * y ≡ y * x
    turn x y = omega arith

-- two pairs in lowest terms with the same value are equal
pub lowest_same : (a b p q : ℤ) → IsLowestTerms a b → IsLowestTerms p q → SameValue a b p q → (a ≡ p) × (b ≡ q)
lowest_same a b p q first second same =
    let size = denoms_same (unsigned_abs a) (unsigned_abs b) (unsigned_abs p) (unsigned_abs q) first.only_one second.only_one (unsigned_abs-products a q p b same) in
    let b_positive = first.positive in
    let q_positive = second.positive in
    let denom : b ≡ q = omega (arith, ints) in
    (mul_cancel a p q (positive_nonzero q q_positive) (same ∙ ap (λ (t : ℤ). p *ℤ t) denom), denom)

-- a fraction has at most one pair of lowest terms
pub lowest_unique : (n d a b p q : ℤ) → IsLowestTermsOf n d a b → IsLowestTermsOf n d p q → (a ≡ p) × (b ≡ q)
lowest_unique n d a b p q first second =
    lowest_same a b p q first.lowest second.lowest (same_value_chained a b n d p q first.fraction (sym first.same) second.same)

-- a pair in lowest terms is its own lowest terms
pub lowest_own : (a b : ℤ) → IsLowestTerms a b → IsLowestTermsOf a b a b
lowest_own a b lowest = record { fraction = positive_nonzero b lowest.positive; same = refl; lowest = lowest }

-- a number over 1 is in lowest terms
pub over_one : (a b : ℤ) → b ≡ pos 1 → IsLowestTerms a b
over_one a b one = record { positive = omega (arith, ints); only_one = λ k p q. let divides_one : k ∣ 1 = rw (ap unsigned_abs one) at q in eq-one_of_dvd-one divides_one }

-- ---- equal values have the same lowest terms

pub lowest_moved : (n d m e a b : ℤ) → e ≢ pos 0 → SameValue m e n d → IsLowestTermsOf n d a b → IsLowestTermsOf m e a b
lowest_moved n d m e a b fraction same low = record {
  fraction = fraction;
  same = same_value_chained m e n d a b low.fraction same low.same;
  lowest = low.lowest;
}

pub lowest_equal : (n d m e a b p q : ℤ) → SameValue n d m e → IsLowestTermsOf n d a b → IsLowestTermsOf m e p q → (a ≡ p) × (b ≡ q)
lowest_equal n d m e a b p q same first second = lowest_unique n d a b p q first (lowest_moved m e n d p q first.fraction same second)

pub held_lowest_moved : (lo hi n d m e a b : ℤ) → e ≢ pos 0 → SameValue m e n d → IsHeldLowest lo hi n d a b → IsHeldLowest lo hi m e a b
held_lowest_moved lo hi n d m e a b fraction same low = record {
  terms = lowest_moved n d m e a b fraction same low.terms;
  numer_held = low.numer_held;
  denom_held = low.denom_held;
}

-- fractions of the same value have the same result
pub checks_lowest_moved : {R : Type 0} (numer denom : R → ℤ) (lo hi n d m e : ℤ) (r : Option R) → d ≢ pos 0 → e ≢ pos 0 → SameValue m e n d → ChecksLowest numer denom lo hi (n, d) r → ChecksLowest numer denom lo hi (m, e) r
checks_lowest_moved numer denom lo hi n d m e None d_fraction e_fraction same out = λ fits. out (record { numer = fits.numer; denom = fits.denom; low = held_lowest_moved lo hi m e n d fits.numer fits.denom d_fraction (sym same) fits.low })
checks_lowest_moved numer denom lo hi n d m e (Some r) d_fraction e_fraction same low = held_lowest_moved lo hi n d m e (numer r) (denom r) e_fraction same low

-- if a number of the lowest terms is out of range, the fraction does not fit
pub numer_out : (lo hi n d a b : ℤ) → IsLowestTermsOf n d a b → ¬ (IsHeld lo hi a) → ¬ (Fits lo hi n d)
numer_out lo hi n d a b low out fits = out (rw (lowest_unique n d fits.numer fits.denom a b fits.low.terms low).0 at fits.low.numer_held)

pub denom_out : (lo hi n d a b : ℤ) → IsLowestTermsOf n d a b → ¬ (IsHeld lo hi b) → ¬ (Fits lo hi n d)
denom_out lo hi n d a b low out fits = out (rw (lowest_unique n d fits.numer fits.denom a b fits.low.terms low).1 at fits.low.denom_held)

-- ---- dividing by the gcd

-- the two quotients are coprime
pub cancelled_coprime : (n d a b : ℤ) → d ≢ pos 0 → IsCancelledOf n d a b → (k : ℕ) → k ∣ unsigned_abs a → k ∣ unsigned_abs b → k ≡ 1
cancelled_coprime n d a b fraction is k p q =
    let g = is.divisor in
    let first : unsigned_abs g * k ∣ unsigned_abs n = rw (sizes g n a is.numer) (mul-dvd-mul_left k (unsigned_abs g) p) in
    let second : unsigned_abs g * k ∣ unsigned_abs d = rw (sizes g d b is.denom) (mul-dvd-mul_left k (unsigned_abs g) q) in
    let both : unsigned_abs g * k ∣ unsigned_abs g * 1 = rw (times-one (unsigned_abs g)) (is.greatest.divisor.2 _ first second) in
    eq-one_of_dvd-one (dvd_of_mul-dvd-mul_left k (abs_pos g (divisor_nonzero n d g fraction is.greatest)) both)
  where
    sizes : (g x y : ℤ) → y *ℤ g ≡ x → unsigned_abs x ≡ unsigned_abs g * unsigned_abs y
    sizes g x y e = ap unsigned_abs (sym e ∙ *ℤ_comm y g) ∙ unsigned_abs-mul g y

    times-one : (m : ℕ) → m * 1 ≡ m
    times-one m = omega arith

-- they are a fraction of the same value
pub cancelled_fraction : (n d a b : ℤ) → d ≢ pos 0 → IsCancelledOf n d a b → b ≢ pos 0
cancelled_fraction n d a b fraction is none =
    fraction (sym is.denom ∙ ap (λ (t : ℤ). t *ℤ is.divisor) none ∙ zero-*ℤ is.divisor)

pub cancelled_same : (n d a b : ℤ) → IsCancelledOf n d a b → SameValue n d a b
cancelled_same n d a b is =
    ap (λ (t : ℤ). t *ℤ b) (sym is.numer) ∙ mul-swap_last a is.divisor b ∙ ap (λ (t : ℤ). a *ℤ t) is.denom

-- if the denominator is positive, they are in lowest terms
pub lowest_cancelled : (n d a b : ℤ) → pos 0 <ℤ d → IsCancelledOf n d a b → IsLowestTermsOf n d a b
lowest_cancelled n d a b positive is =
    let fraction = positive_nonzero d positive in
    record {
      fraction = fraction;
      same = cancelled_same n d a b is;
      lowest = record {
        positive = positive_factor b is.divisor (above_zero is.divisor is.greatest.sign (divisor_nonzero n d is.divisor fraction is.greatest)) (rw is.denom positive);
        only_one = cancelled_coprime n d a b fraction is;
      };
    }
  where
    above_zero : (g : ℤ) → pos 0 ≤ℤ g → g ≢ pos 0 → pos 0 <ℤ g
    above_zero g sign nonzero = grind (arith, ints)

-- the quotients by the gcd are the cancelled pair; if the gcd is 1, so are the numbers themselves
pub cancelled_quotients : (n d g a b : ℤ) → IsGcdOf n d g → a ≡ int_div n g → b ≡ int_div d g → IsCancelledOf n d a b
cancelled_quotients n d g a b is a-is b-is = record {
  divisor = g;
  greatest = is;
  numer = ap (λ (t : ℤ). t *ℤ g) a-is ∙ exact_quotient n g is.divisor.0;
  denom = ap (λ (t : ℤ). t *ℤ g) b-is ∙ exact_quotient d g is.divisor.1;
}

pub cancelled_by_one : (n d g : ℤ) → IsGcdOf n d g → g ≡ pos 1 → IsCancelledOf n d n d
unfolding one
cancelled_by_one n d g is single = record { divisor = g; greatest = is; numer = rw single (*ℤ-one n); denom = rw single (*ℤ-one d) }

pub lowest_quotients : (n d g a b : ℤ) → pos 0 <ℤ d → IsGcdOf n d g → a ≡ int_div n g → b ≡ int_div d g → IsLowestTermsOf n d a b
lowest_quotients n d g a b positive is a-is b-is = lowest_cancelled n d a b positive (cancelled_quotients n d g a b is a-is b-is)

-- ---- the same for numbers in range

-- the gcd of a number and a positive number in range is in range
pub gcd_held_positive : (lo hi n d : ℤ) → IsRange lo hi → IsHeld lo hi d → pos 0 <ℤ d → GcdHeld lo hi n d
gcd_held_positive lo hi n d range d_held positive =
    gcd_bounded lo hi n d (low_below lo hi range) (positive_nonzero d positive) (let below = d_held.below in omega (arith, ints))

-- the quotient of a number in range by a gcd in range is in range
pub quotient_by_gcd_held : (lo hi n d g m : ℤ) → IsRange lo hi → IsHeld lo hi m → IsHeld lo hi g → d ≢ pos 0 → IsGcdOf n d g → IsHeld lo hi (int_div m g)
quotient_by_gcd_held lo hi n d g m range m_held g_held fraction is =
    quotient_held lo hi m g range m_held g_held (divisor_nonzero n d g fraction is) (λ top. let sign = is.sign in let e = top.denom in omega (arith, ints))

pub held_lowest_over_one : (lo hi n d : ℤ) → IsHeld lo hi n → IsHeld lo hi d → d ≡ pos 1 → IsHeldLowest lo hi n d n d
held_lowest_over_one lo hi n d n_held d_held one = record { terms = lowest_own n d (over_one n d one); numer_held = n_held; denom_held = d_held }

pub held_lowest_cancelled : (lo hi n d a b : ℤ) → IsHeld lo hi a → IsHeld lo hi b → pos 0 <ℤ d → IsCancelledOf n d a b → IsHeldLowest lo hi n d a b
held_lowest_cancelled lo hi n d a b a_held b_held positive is = record { terms = lowest_cancelled n d a b positive is; numer_held = a_held; denom_held = b_held }

pub held_lowest_quotients : (lo hi n d g a b : ℤ) → IsRange lo hi → IsHeld lo hi n → IsHeld lo hi d → IsHeld lo hi g → pos 0 <ℤ d → IsGcdOf n d g → a ≡ int_div n g → b ≡ int_div d g → IsHeldLowest lo hi n d a b
held_lowest_quotients lo hi n d g a b range n_held d_held g_held positive is a-is b-is =
    let fraction = positive_nonzero d positive in
    record {
      terms = lowest_quotients n d g a b positive is a-is b-is;
      numer_held = rw a-is (quotient_by_gcd_held lo hi n d g n range n_held g_held fraction is);
      denom_held = rw b-is (quotient_by_gcd_held lo hi n d g d range d_held g_held fraction is);
    }

-- ---- each fraction has lowest terms

pub record HasLowest (n d : ℤ) : Type 0 where
  pub numer : ℤ
  pub denom : ℤ
  pub terms : IsLowestTermsOf n d numer denom

positive_has_lowest : (n d : ℤ) → pos 0 <ℤ d → HasLowest n d
positive_has_lowest n d positive =
    let found : (g : ℤ) × IsGcdOf n d g = gcd_exists n d in
    record { numer = int_div n found.0; denom = int_div d found.0; terms = lowest_quotients n d found.0 _ _ positive found.1 refl refl }

pub lowest_exist : (n d : ℤ) → d ≢ pos 0 → HasLowest n d
lowest_exist n (pos zero) fraction = absurd (fraction refl)
lowest_exist n (pos (suc m)) fraction = positive_has_lowest n (pos (suc m)) (omega (arith, ints))
lowest_exist n (negsuc m) fraction =
    let low : HasLowest (neg_ℤ n) (pos (suc m)) = positive_has_lowest (neg_ℤ n) (pos (suc m)) (omega (arith, ints)) in
    record { numer = low.numer; denom = low.denom; terms = lowest_moved (neg_ℤ n) (pos (suc m)) n (negsuc m) low.numer low.denom fraction (turned n m) low.terms }
  where
    turned : (n : ℤ) (m : ℕ) → n *ℤ pos (suc m) ≡ neg_ℤ n *ℤ negsuc m
    turned n m = sym (neg-mul-neg n (pos (suc m)))
