-- The lowest terms of typed fractions, mixed numbers and percentages in 128 bits.
use Rattle.std.specs.Prelude.{◌≡◌, ◌+◌, ◌-◌, ◌*◌, ◌^◌, ◌<◌, ◌≤◌, ◌≤ℤ◌, ◌*ℤ◌, ℕ, ℤ, zero, suc, pos, negsuc, unsigned_abs, Bool, true, false, List, ◌++◌, length, Option, Some, None}
use Rattle.std.specs.Int.{◌∣◌, IsGcd}
use Rattle.std.specs.Str.Parse.{AllDigits}
use Rattle.std.proofs.Common.{refl, sym, ap, arith, inr, ◌∙◌}
use Rattle.std.proofs.lemmas.Int.{ints}
use Rattle.std.proofs.lemmas.Nat.{pow-add}
use Rattle.std.proofs.Math.Nat.{dvd-mul_right, dvd_trans}
use Rattle.ratio_integer.specs.Fraction.{IsCancelledOf, IsLowestTerms, IsLowestTermsOf}
use Rattle.ratio_integer.proofs.CommonDivisors.{IsCoprime, coprime_product, gcd_coprime}
use Rattle.ratio_integer.proofs.GcdLemmas.{parts-coprime}
use Rattle.ratio_integer.proofs.LowestTerms.{over_one}
use Rattle.ratio_decimal.specs.DecimalCuts.{ChecksTerms, ChecksZero, IsWide}
use Rattle.ratio_decimal.specs.DecimalReading.{tens_above, tens_below}
use Rattle.ratio_core.specs.Reading.{digits_sum}
use Rattle.ratio_decimal.specs.TypedText.{share}
use Rattle.ratio_decimal.specs.declared.reading.terms.Terms.{Terms}
use Rattle.ratio_decimal.proofs.DecimalDigits.{power_some}
use Rattle.ratio_decimal.proofs.DecimalTerms.{denom_least, denom_some, lowest_of, same_products, terms_moved, wide_moved}
use Rattle.ratio_decimal.proofs.DecimalValues.{checks_moved, far_left, far_right, product_power_some, sum_small}

-- ---- the 100th part of a decimal

product_some : (k : ℕ) → 0 < k → 0 < 100 * (k * 1)
product_some k some = omega arith

-- the point goes to the left by two places more
pub less_down : (m k tens e : ℕ) (down : Bool) (r : Option Terms) → down ≡ true → tens ≡ e + 2 → 0 < 100 * (k * 10 ^ e) → ChecksTerms m (k * 10 ^ tens) r → ChecksTerms (m * tens_above down e) (100 * (k * tens_below down e)) r
less_down m k tens e down r is tens-is some checks = rw is (checks_moved m (k * 10 ^ tens) (m * 1) (100 * (k * 10 ^ e)) r some (spread m k (10 ^ tens) (10 ^ e) (ap (λ x. 10 ^ x) tens-is ∙ pow-add 10 e 2)) checks)
  where
    spread : (m k t u : ℕ) → t ≡ u * 100 → m * 1 * (k * t) ≡ m * (100 * (k * u))
    spread m k t u is = ap (λ x. m * 1 * (k * x)) is ∙ (omega arith)

-- to the left, though the exponent is above 0
pub less_turned : (m k tens e : ℕ) (down : Bool) (r : Option Terms) → down ≡ false → tens + e ≡ 2 → 0 < k → ChecksTerms m (k * 10 ^ tens) r → ChecksTerms (m * tens_above down e) (100 * (k * tens_below down e)) r
less_turned m k tens e down r is tens-is some checks = rw is (checks_moved m (k * 10 ^ tens) (m * 10 ^ e) (100 * (k * 1)) r (product_some k some) (spread m k (10 ^ tens) (10 ^ e) (sym (pow-add 10 tens e) ∙ ap (λ x. 10 ^ x) tens-is)) checks)
  where
    spread : (m k t u : ℕ) → t * u ≡ 100 → m * u * (k * t) ≡ m * (100 * (k * 1))
    spread m k t u is = (let h : m * u * (k * t) ≡ m * (t * u * (k * 1)) = omega arith in h) ∙ ap (λ x. m * (x * (k * 1))) is

-- to the right by two places less
pub less_up : (m k tens e : ℕ) (down : Bool) (r : Option Terms) → down ≡ false → tens + 2 ≡ e → 0 < k → ChecksTerms (m * 10 ^ tens) k r → ChecksTerms (m * tens_above down e) (100 * (k * tens_below down e)) r
less_up m k tens e down r is tens-is some checks = rw is (checks_moved (m * 10 ^ tens) k (m * 10 ^ e) (100 * (k * 1)) r (product_some k some) (spread m k (10 ^ e) (10 ^ tens) (sym (ap (λ x. 10 ^ x) tens-is) ∙ pow-add 10 tens 2)) checks)
  where
    spread : (m k t u : ℕ) → t ≡ u * 100 → m * t * k ≡ m * u * (100 * (k * 1))
    spread m k t u is = ap (λ x. m * x * k) is ∙ (omega arith)

-- exponents that are about 2^128 or more
far_less : (m w k : ℕ) (down : Bool) (e : ℕ) → 2 ^ 128 ≤ e + 2 → w < 2 ^ 64 → k < 2 ^ 64 → 0 < m → m < 10 ^ (w + k) → IsWide (m * tens_above down e) (100 * (10 ^ k * tens_below down e))
far_less m w k true e far short brief some small =
    wide_moved (m * 1) (10 ^ k * 10 ^ (e + 2)) (m * 1) (100 * (10 ^ k * 10 ^ e)) (let h = product_power_some k e in omega arith) (spread m (10 ^ k) (10 ^ (e + 2)) (10 ^ e) (pow-add 10 e 2)) (far_left m w k (e + 2) (omega arith) short some small)
  where
    spread : (m k t u : ℕ) → t ≡ u * 100 → m * 1 * (k * t) ≡ m * 1 * (100 * (k * u))
    spread m k t u is = ap (λ x. m * 1 * (k * x)) is ∙ (omega arith)
far_less m w k false e far short brief some small =
    let count : e - 2 + 2 ≡ e = omega arith in
    wide_moved (m * 10 ^ (e - 2)) (10 ^ k * 1) (m * 10 ^ e) (100 * (10 ^ k * 1)) (let h = power_some k in omega arith)
    (spread m (10 ^ k) (10 ^ e) (10 ^ (e - 2)) (sym (ap (λ x. 10 ^ x) count) ∙ pow-add 10 (e - 2) 2)) (far_right m k (e - 2) (omega arith) brief some)
  where
    spread : (m k t u : ℕ) → t ≡ u * 100 → m * t * (k * 1) ≡ m * u * (100 * (k * 1))
    spread m k t u is = ap (λ x. m * x * (k * 1)) is ∙ (omega arith)

scale_some : (k : ℕ) (down : Bool) (e : ℕ) → 0 < 100 * (10 ^ k * tens_below down e)
scale_some k false e = let h = power_some k in omega arith
scale_some k true e = let h = product_power_some k e in omega arith

far_zero : (m k : ℕ) (down : Bool) (e p q : ℕ) → m ≡ 0 → p ≡ 0 → q ≡ 1 → ChecksTerms (m * tens_above down e) (100 * (10 ^ k * tens_below down e)) (Some (record { numer = p; denom = q }))
far_zero m k down e p q none p-is q-is = rw (none, p-is, q-is) (lowest_of (0 * tens_above down e) (100 * (10 ^ k * tens_below down e)) 0 1 (scale_some k down e) (omega arith) (omega arith) (over_one (pos 0) (pos 1) refl).only_one)

pub far_hundredth : (whole part : List ℕ) (down : Bool) (e : ℕ) (r : Option Terms) → AllDigits 10 whole → AllDigits 10 part → length whole < 2 ^ 64 → length part < 2 ^ 64 → 2 ^ 128 ≤ e + 2
    → ChecksZero (digits_sum 10 (whole ++ part)) r → ChecksTerms (digits_sum 10 (whole ++ part) * tens_above down e) (100 * (10 ^ length part * tens_below down e)) r
far_hundredth whole part down e None first second short brief far some = far_less (digits_sum 10 (whole ++ part)) (length whole) (length part) down e far short brief some (sum_small whole part first second)
far_hundredth whole part down e (Some r) first second short brief far zeros = far_zero (digits_sum 10 (whole ++ part)) (length part) down e r.numer r.denom zeros.0 zeros.1 zeros.2

-- ---- the 100th part of lowest terms

-- x = n/g and h = 100/g
part_beside : (n q g x h : ℕ) → 0 < g → x * g ≡ n → h * g ≡ 100 → IsCoprime n q → IsGcd n 100 g → IsCoprime x (q * h)
part_beside n q g x h some xg hg only is = coprime_product x q h beside_q beside_h
  where
    beside_q : IsCoprime x q
    beside_q k left right = only k (let whole : k ∣ n = rw (← xg) (dvd_trans k left (dvd-mul_right x g)) in whole) right

    turn : (y z : ℕ) → y * z ≡ z * y
    turn y z = omega arith

    scaled : IsGcd (g * x) (g * h) g
    scaled = rw (turn g x, xg, turn g h, hg) is

    beside_h : IsCoprime x h
    beside_h = gcd_coprime x h 1 (parts-coprime x h g some scaled) refl

hundred_some : (q g h : ℕ) → 0 < q → h * g ≡ 100 → (0 < g) × (0 < q * h)
hundred_some q zero h more hg = absurd (omega arith)
hundred_some q (suc g) zero more hg = absurd (omega arith)
hundred_some zero (suc g) (suc h) more hg = absurd (omega arith)
hundred_some (suc q) (suc g) (suc h) more hg = (omega arith, omega arith)

hundredth_of : (n d g p h q : ℕ) → IsLowestTerms (pos n) (pos d) → IsGcd n 100 g → p * g ≡ n → h * g ≡ 100 → q ≡ d * h → IsLowestTermsOf (pos n) (pos (100 * d)) (pos p) (pos q)
hundredth_of n d g p h q lowest is pg hg q-is =
    let positive = denom_some n d lowest in
    let some = hundred_some d g h positive hg in
    rw q-is (lowest_of n (100 * d) p (d * h) (omega arith) some.1 (same n d g p h pg hg) (part_beside n d g p h some.0 pg hg lowest.only_one is))
  where
    same : (n d g p h : ℕ) → p * g ≡ n → h * g ≡ 100 → n * (d * h) ≡ p * (100 * d)
    same n d g p h pg hg = ap (λ x. x * (d * h)) (sym pg) ∙ (let turn : p * g * (d * h) ≡ p * (h * g * d) = omega arith in turn) ∙ ap (λ x. p * (x * d)) hg

-- the numbers, from what `cancelled` returns
record AreParts (n p h : ℕ) : Type 0 where
  divisor : ℕ
  greatest : IsGcd n 100 divisor
  numer : p * divisor ≡ n
  rest : h * divisor ≡ 100

parts_are : (n p h : ℕ) → IsCancelledOf (pos n) (pos 100) (pos p) (pos h) → AreParts n p h
parts_are n p h is = by is.divisor is.greatest.sign is.greatest.divisor is.numer is.denom
  where
    by : (z : ℤ) → pos 0 ≤ℤ z → IsGcd n 100 (unsigned_abs z) → pos p *ℤ z ≡ pos n → pos h *ℤ z ≡ pos 100 → AreParts n p h
    by (pos g) sign is numer rest = let a : pos (p * g) ≡ pos n = numer in let b : pos (h * g) ≡ pos 100 = rest in record { divisor = g; greatest = is; numer = (cc); rest = (cc) }
    by (negsuc g) sign is numer rest = absurd (omega (arith, ints))

pub hundredth_terms : (n d p h q : ℕ) → IsLowestTerms (pos n) (pos d) → IsCancelledOf (pos n) (pos 100) (pos p) (pos h) → q ≡ d * h → IsLowestTermsOf (pos n) (pos (100 * d)) (pos p) (pos q)
hundredth_terms n d p h q lowest is q-is =
    let parts = parts_are n p h is in
    hundredth_of n d parts.divisor p h q lowest parts.greatest parts.numer parts.rest q-is

pub hundredth_wide : (n d p h : ℕ) → IsLowestTerms (pos n) (pos d) → IsCancelledOf (pos n) (pos 100) (pos p) (pos h) → 2 ^ 128 ≤ d * h → IsWide n (100 * d)
hundredth_wide n d p h lowest is wide = record {
  each = λ a b more e. inr (
      let least = denom_least n (100 * d) p (d * h) a b (let some = denom_some n d lowest in omega arith) more (hundredth_terms n d p h (d * h) lowest is refl) e in
      omega arith);
}

-- ---- fractions and mixed numbers

fraction_some : (n d : ℕ) (a b : ℤ) → IsLowestTermsOf (pos n) (pos d) a b → 0 < d
fraction_some n zero a b is = absurd (is.fraction refl)
fraction_some n (suc d) a b is = omega arith

hundred_same : (b c p q : ℕ) → b * q ≡ p * c → b * (100 * q) ≡ p * (100 * c)
hundred_same b c p q same = (let turn : b * (100 * q) ≡ 100 * (b * q) = omega arith in turn) ∙ ap (λ x. 100 * x) same ∙ (omega arith)

pub quotient_wide : (b c p q : ℕ) (percent : Bool) → percent ≡ true → IsLowestTermsOf (pos b) (pos c) (pos p) (pos q) → IsWide p (100 * q) → (0 < share percent * c) × IsWide b (share percent * c)
quotient_wide b c p q percent true-is is wide =
    let some = fraction_some b c (pos p) (pos q) is in
    rw true-is ((omega arith), wide_moved p (100 * q) b (100 * c) (omega arith) (hundred_same b c p q (same_products b c p q is)) wide)

pub quotient_terms : (b c p q u v : ℕ) (percent : Bool) → percent ≡ true → IsLowestTermsOf (pos b) (pos c) (pos p) (pos q) → IsLowestTermsOf (pos p) (pos (100 * q)) (pos u) (pos v)
    → IsLowestTermsOf (pos b) (pos (share percent * c)) (pos u) (pos v)
quotient_terms b c p q u v percent true-is is more =
    let some = fraction_some b c (pos p) (pos q) is in
    rw true-is (terms_moved p (100 * q) b (100 * c) u v (omega arith) (hundred_same b c p q (same_products b c p q is)) more)

mixed_same : (a b c p q : ℕ) → b * q ≡ p * c → (a * c + b) * q ≡ (a * q + p) * c
mixed_same a b c p q same = (let spread : (a * c + b) * q ≡ a * q * c + b * q = omega arith in spread) ∙ ap (λ x. a * q * c + x) same ∙ (omega arith)

pub mixed_some : (b c p q : ℕ) → IsLowestTermsOf (pos b) (pos c) (pos p) (pos q) → 0 < c
mixed_some b c p q is = fraction_some b c (pos p) (pos q) is

pub mixed_wide : (a b c p q number : ℕ) → number ≡ a → IsLowestTermsOf (pos b) (pos c) (pos p) (pos q) → IsWide (number * q + p) q → IsWide (a * c + b) c
mixed_wide a b c p q number number-is is wide =
    wide_moved (a * q + p) q (a * c + b) c (fraction_some b c (pos p) (pos q) is) (mixed_same a b c p q (same_products b c p q is)) (rw (← number-is) wide)

pub mixed_terms : (a b c p q number u v : ℕ) → number ≡ a → IsLowestTermsOf (pos b) (pos c) (pos p) (pos q) → IsLowestTermsOf (pos (number * q + p)) (pos q) (pos u) (pos v) → IsLowestTermsOf (pos (a * c + b)) (pos c) (pos u) (pos v)
mixed_terms a b c p q number u v number-is is more =
    terms_moved (a * q + p) q (a * c + b) c u v (fraction_some b c (pos p) (pos q) is) (mixed_same a b c p q (same_products b c p q is)) (rw (← number-is) more)
