-- The laws of the nearest fraction.
use Rattle.std.specs.Prelude.{◌≡◌, ◌⊎◌, ◌*◌, ◌<◌, ◌≤◌, ◌≤ℤ◌, ◌<ℤ◌, ◌-ℤ◌, ◌*ℤ◌, ℕ, ℤ, zero, suc, pos, unsigned_abs}
use Rattle.std.specs.Int.{◌∣◌}
use Rattle.std.proofs.Common.{refl, sym, ap, arith, inl, inr, ◌∙◌}
use Rattle.std.proofs.Math.Nat.{dvd-mul_left, eq_of_mul-eq-mul_right, le_of_dvd, lt_of_mul-lt-mul_right, mul-le-mul, mul-lt-mul_of_pos_right}
use Rattle.std.proofs.lemmas.Int.{ints}
use lib.IntN.{*ℤ_comm}
use Rattle.ratio_integer.specs.Fraction.{IsLowestTerms, IsLowestTermsOf, SameValue}
use Rattle.ratio_integer.proofs.CommonDivisors.{coprime_gcd, coprime_turned}
use Rattle.ratio_integer.proofs.DivisionLemmas.{abs_pos}
use Rattle.ratio_integer.proofs.GcdLemmas.{coprime-dvd}
use Rattle.ratio_integer.proofs.LowestTerms.{lowest_exist, same_value_chained}
use Rattle.ratio_integer.proofs.Whole.{mul_assoc, mul_cancel, mul-swap_last, positive_nonzero, sub-mul, unsigned_abs-products}
use Rattle.ratio_approximation.specs.Nearest.{ComesFirst, IsNearest, gap}

-- ---- there is at most one

both_first : (g : ℕ) (p q : ℤ) (h : ℕ) (m e : ℤ) → ComesFirst g p q h m e → ComesFirst h m e g p q → (p ≡ m) × (q ≡ e)
both_first g p q h m e (inl a) (inl b) = absurd (omega arith)
both_first g p q h m e (inl a) (inr b) = absurd (omega (arith, b.0))
both_first g p q h m e (inr a) (inl b) = absurd (omega (arith, a.0))
both_first g p q h m e (inr a) (inr b) = later a.1 b.1
  where
    later : (q <ℤ e) ⊎ ((q ≡ e) × (p ≤ℤ m)) → (e <ℤ q) ⊎ ((e ≡ q) × (m ≤ℤ p)) → (p ≡ m) × (q ≡ e)
    later (inl x) (inl y) = absurd (omega (arith, ints))
    later (inl x) (inr y) = absurd (omega (arith, ints))
    later (inr x) (inl y) = absurd (omega (arith, ints))
    later (inr x) (inr y) = (omega (arith, ints), x.0)

pub nearest_unique : (n d most p q m e : ℤ) → IsNearest n d most p q → IsNearest n d most m e → (p ≡ m) × (q ≡ e)
nearest_unique n d most p q m e x y = both_first (gap n d p q) p q (gap n d m e) m e (x.first m e y.positive y.within) (y.first p q x.positive x.within)

-- ---- gaps of equal values

-- if p/q and a/b have one value, their gaps have the ratio of their denominators
same_gaps : (n d p q a b : ℤ) → SameValue p q a b → gap n d p q * unsigned_abs b ≡ gap n d a b * unsigned_abs q
same_gaps n d p q a b same = unsigned_abs-products (n *ℤ q -ℤ p *ℤ d) b (n *ℤ b -ℤ a *ℤ d) q (
    let first : (n *ℤ q) *ℤ b ≡ (n *ℤ b) *ℤ q = mul-swap_last n q b ∙ sym (mul_assoc n b q) in
    let second : (p *ℤ d) *ℤ b ≡ (a *ℤ d) *ℤ q = mul-swap_last p d b ∙ sym (mul_assoc p b d) ∙ ap (λ (t : ℤ). t *ℤ d) same ∙ mul_assoc a q d ∙ (ap (λ (t : ℤ). a *ℤ t) (*ℤ_comm q d) ∙ sym (mul_assoc a d q)) in
    sub-mul (n *ℤ q) (p *ℤ d) b ∙ ap (λ (t : ℤ). t -ℤ (p *ℤ d) *ℤ b) first ∙ ap (λ (t : ℤ). (n *ℤ b) *ℤ q -ℤ t) second ∙ sym (sub-mul (n *ℤ b) (a *ℤ d) q))

-- ---- lowest terms

-- of all fractions of one value, the lowest terms have the least denominator
pub least_denom : (p q a b : ℤ) → pos 0 <ℤ q → IsLowestTerms a b → SameValue p q a b → b ≤ℤ q
least_denom p q a b q_up lowest same =
    let crossed : unsigned_abs p * unsigned_abs b ≡ unsigned_abs a * unsigned_abs q = unsigned_abs-products p b a q same in
    let turned : unsigned_abs q * unsigned_abs a ≡ unsigned_abs p * unsigned_abs b = omega arith in
    let divides : unsigned_abs b ∣ unsigned_abs q = coprime-dvd (unsigned_abs b) (unsigned_abs a) (unsigned_abs q) (coprime_gcd (unsigned_abs b) (unsigned_abs a) (coprime_turned (unsigned_abs a) (unsigned_abs b) lowest.only_one)) (rw turned (dvd-mul_left (unsigned_abs b) (unsigned_abs p))) in
    let less : unsigned_abs b ≤ unsigned_abs q = le_of_dvd (abs_pos q (positive_nonzero q q_up)) divides in
    let b_up = lowest.positive in
    omega (arith, ints)

pub nearest_lowest : (n d most p q : ℤ) → IsNearest n d most p q → IsLowestTerms p q
nearest_lowest n d most p q is =
    let low = lowest_exist p q (positive_nonzero q is.positive) in
    let less = least_denom p q low.numer low.denom is.positive low.terms.lowest low.terms.same in
    let within = is.within in
    own low.numer low.denom low.terms.lowest low.terms.same less (is.first low.numer low.denom low.terms.lowest.positive (omega (arith, ints)))
  where
    own : (a b : ℤ) → IsLowestTerms a b → SameValue p q a b → b ≤ℤ q → ComesFirst (gap n d p q) p q (gap n d a b) a b → IsLowestTerms p q
    own a b lowest same less (inl nearer) = absurd (let even = same_gaps n d p q a b same in omega arith)
    own a b lowest same less (inr later) =
        let denom : q ≡ b = (let rest = later.1 in grind (arith, ints)) in
        let numer : p ≡ a = mul_cancel p a b (positive_nonzero b lowest.positive) (same ∙ ap (λ (t : ℤ). a *ℤ t) denom) in
        rw (numer, denom) lowest

-- ---- if the lowest terms are within the bound

no_gap : (n d a b : ℤ) → SameValue n d a b → gap n d a b ≡ 0
no_gap n d a b same = ap unsigned_abs difference
  where
    difference : n *ℤ b -ℤ a *ℤ d ≡ pos 0
    difference = omega (arith, ints)

gap_zero : (n d m e : ℤ) → gap n d m e ≡ 0 → SameValue n d m e
gap_zero n d m e none = by (n *ℤ e) (m *ℤ d) none
  where
    by : (x y : ℤ) → unsigned_abs (x -ℤ y) ≡ 0 → x ≡ y
    by x y h = omega (arith, ints)

pub lowest_nearest : (n d most a b : ℤ) → IsLowestTermsOf n d a b → b ≤ℤ most → IsNearest n d most a b
lowest_nearest n d most a b low within = record {
  positive = low.lowest.positive;
  within = within;
  first = λ m e up e_within. place m e up (gap n d m e) refl;
}
  where
    none : gap n d a b ≡ 0
    none = no_gap n d a b low.same

    tied : (m e : ℤ) → pos 0 <ℤ e → SameValue m e a b → (b <ℤ e) ⊎ ((b ≡ e) × (a ≤ℤ m))
    tied m e up same =
        let less = least_denom m e a b up low.lowest same in
        let alike : b ≡ e → m ≡ a = λ z. mul_cancel m a b (positive_nonzero b low.lowest.positive) (same ∙ ap (λ (t : ℤ). a *ℤ t) (sym z)) in
        grind (arith, ints, alike)

    place : (m e : ℤ) → pos 0 <ℤ e → (h : ℕ) → h ≡ gap n d m e → ComesFirst (gap n d a b) a b (gap n d m e) m e
    place m e up zero is =
        let same : SameValue n d m e = gap_zero n d m e (sym is) in
        inr (ap (λ t. t * unsigned_abs e) none ∙ (let z : 0 * unsigned_abs e ≡ 0 * unsigned_abs b = omega arith in z) ∙ ap (λ t. t * unsigned_abs b) is, tied m e up (same_value_chained m e n d a b low.fraction (sym same) low.same))
    place m e up (suc h) is =
        let far : 0 < gap n d m e * unsigned_abs b = mul-le-mul (let k : 0 < gap n d m e = omega arith in k) (abs_pos b (positive_nonzero b low.lowest.positive)) in
        let near : gap n d a b * unsigned_abs e ≡ 0 = ap (λ t. t * unsigned_abs e) none ∙ (let z : 0 * unsigned_abs e ≡ 0 = omega arith in z) in
        inl (omega arith)

-- ---- equal values

-- if n/d and m/e have one value, the gaps of p/q from them have the ratio of d and e
moved_gaps : (n d m e p q : ℤ) → SameValue n d m e → gap n d p q * unsigned_abs e ≡ gap m e p q * unsigned_abs d
moved_gaps n d m e p q same = unsigned_abs-products (n *ℤ q -ℤ p *ℤ d) e (m *ℤ q -ℤ p *ℤ e) d (
    let first : (n *ℤ q) *ℤ e ≡ (m *ℤ q) *ℤ d = mul-swap_last n q e ∙ sym (mul_assoc n e q) ∙ ap (λ (t : ℤ). t *ℤ q) same ∙ mul-swap_last m d q ∙ sym (mul_assoc m q d) in
    let second : (p *ℤ d) *ℤ e ≡ (p *ℤ e) *ℤ d = mul-swap_last p d e ∙ sym (mul_assoc p e d) in
    sub-mul (n *ℤ q) (p *ℤ d) e ∙ ap (λ (t : ℤ). t -ℤ (p *ℤ d) *ℤ e) first ∙ ap (λ (t : ℤ). (m *ℤ q) *ℤ d -ℤ t) second ∙ sym (sub-mul (m *ℤ q) (p *ℤ e) d))

-- scaling keeps the order of the gaps
scaled_less : (d e g h i j q s : ℕ) → 0 < e → g * e ≡ i * d → h * e ≡ j * d → g * s < h * q → i * s < j * q
scaled_less d e g h i j q s up first second less =
    let more : (g * s) * e < (h * q) * e = mul-lt-mul_of_pos_right less up in
    let most : (i * s) * d < (j * q) * d = omega (arith, ap (λ t. t * s) first, ap (λ t. t * q) second) in
    lt_of_mul-lt-mul_right d most

scaled_same : (d e g h i j q s : ℕ) → 0 < d → g * e ≡ i * d → h * e ≡ j * d → g * s ≡ h * q → i * s ≡ j * q
scaled_same d e g h i j q s up first second same =
    eq_of_mul-eq-mul_right d up (i * s) (j * q) (omega (arith, ap (λ t. t * e) same, ap (λ t. t * s) first, ap (λ t. t * q) second))

first_moved : (d e g h i j : ℕ) (p q r s : ℤ) → 0 < d → 0 < e → g * e ≡ i * d → h * e ≡ j * d → ComesFirst g p q h r s → ComesFirst i p q j r s
first_moved d e g h i j p q r s d_up e_up first second (inl less) = inl (scaled_less d e g h i j (unsigned_abs q) (unsigned_abs s) e_up first second less)
first_moved d e g h i j p q r s d_up e_up first second (inr later) = inr (scaled_same d e g h i j (unsigned_abs q) (unsigned_abs s) d_up first second later.0, later.1)

pub nearest_moved : (n d m e most p q : ℤ) → pos 0 <ℤ d → pos 0 <ℤ e → SameValue n d m e → IsNearest n d most p q → IsNearest m e most p q
nearest_moved n d m e most p q d_up e_up same is = record {
  positive = is.positive;
  within = is.within;
  first = λ r s up within. first_moved (unsigned_abs d) (unsigned_abs e) (gap n d p q) (gap n d r s) (gap m e p q) (gap m e r s) p q r s
      (abs_pos d (positive_nonzero d d_up)) (abs_pos e (positive_nonzero e e_up)) (moved_gaps n d m e p q same) (moved_gaps n d m e r s same) (is.first r s up within);
}
