-- The lowest terms of a number over a power of 10, without its twos and its fives.
use Rattle.std.specs.Prelude.{◌≡◌, ◌≢◌, ◌+◌, ◌-◌, ◌*◌, ◌/◌, ◌%◌, ◌^◌, ◌<◌, ◌≤◌, ℕ, zero, suc, pos, Bool, true, false}
use Rattle.std.specs.Int.{◌∣◌, IsGcd}
use Rattle.std.proofs.Common.{refl, sym, ap, subst, arith, inl, inr, ◌∙◌, pow-suc}
use Rattle.std.proofs.lemmas.Nat.{mul-pow, pow-add}
use Rattle.std.proofs.lemmas.Nat.Gcd.{IsGcd-from_mod, IsGcd-from_zero, dvd_of_mod-eq-zero, dvd_refl}
use Rattle.std.proofs.Math.Nat.{div-mul_cancel, dvd-mul_right, eq-one_of_dvd-one, mod-lt, mul-le-mul, pow-le-pow_right, pow-zero}
use Rattle.ratio_integer.specs.Fraction.{IsLowestTermsOf}
use Rattle.ratio_integer.proofs.CommonDivisors.{IsCoprime, coprime_divisors, coprime_product, gcd_coprime}
use Rattle.ratio_decimal.specs.DecimalCuts.{IsWithout}
use Rattle.ratio_decimal.specs.DecimalReading.{tens_above, tens_below}
use Rattle.ratio_decimal.proofs.DecimalDigits.{power_some}
use Rattle.ratio_decimal.proofs.DecimalTerms.{lowest_of, terms_moved}
use Rattle.ratio_decimal.proofs.DecimalValues.{product_power_some}
use Rattle.ratio_core.proofs.KeptLowest.{coprime_power}

-- ---- one prime taken out

-- so far the prime was taken out `most - left` times
pub record IsTakenOut (prime number most rest left : ℕ) : Type 0 where
  pub few : left ≤ most
  pub same : number ≡ rest * prime ^ (most - left)

pub one_out : (prime number most rest left : ℕ) → IsTakenOut prime number most rest left → 0 < left → rest % prime ≡ 0 → IsTakenOut prime number most (rest / prime) (left - 1)
one_out prime number most rest left out some divides =
    let next : most - (left - 1) ≡ suc (most - left) = (let few = out.few in omega arith) in
    let whole : rest / prime * prime ≡ rest = div-mul_cancel prime (dvd_of_mod-eq-zero prime divides) in
    record {
      few = omega (arith, out.few);
      same = out.same ∙ ap (λ x. x * prime ^ (most - left)) (sym whole) ∙ regroup (rest / prime) prime (prime ^ (most - left)) ∙ ap (λ x. rest / prime * x) (sym (ap (λ k. prime ^ k) next ∙ pow-suc prime (most - left)));
    }
  where
    regroup : (x p t : ℕ) → x * p * t ≡ x * (t * p)
    regroup x p t = omega arith

-- ---- what is left shares nothing with the power

power_zero_beside : (rest prime : ℕ) → IsCoprime rest (prime ^ 0)
power_zero_beside rest prime = λ k p q. eq-one_of_dvd-one (rw (pow-zero prime) at q)

beside_power : (prime number most rest left : ℕ) → (rest % prime ≢ 0 → IsCoprime rest prime) → IsWithout prime number most rest left → IsCoprime rest (prime ^ left)
beside_power prime number most rest left apart is =
    elim is.done [
      | inl none ↦ subst (λ k. IsCoprime rest (prime ^ k)) (sym none) (power_zero_beside rest prime)
      | inr other ↦ coprime_power prime rest left (apart other)
    ]

odd_beside : (n : ℕ) → n % 2 ≢ 0 → IsCoprime n 2
odd_beside n odd =
    let small : n % 2 < 2 = mod-lt n (omega arith) in
    let one : n % 2 ≡ 1 = omega arith in
    gcd_coprime n 2 1 (IsGcd-from_mod n 2 1 (rw one (IsGcd-from_mod 2 1 1 (IsGcd-from_zero 1 0 refl)))) refl

five_gcd : (r : ℕ) → r ≢ 0 → r < 5 → IsGcd 5 r 1
five_gcd zero some small = absurd (some refl)
five_gcd (suc zero) some small = IsGcd-from_mod 5 1 1 (IsGcd-from_zero 1 0 refl)
five_gcd (suc (suc zero)) some small = IsGcd-from_mod 5 2 1 (IsGcd-from_mod 2 1 1 (IsGcd-from_zero 1 0 refl))
five_gcd (suc (suc (suc zero))) some small = IsGcd-from_mod 5 3 1 (IsGcd-from_mod 3 2 1 (IsGcd-from_mod 2 1 1 (IsGcd-from_zero 1 0 refl)))
five_gcd (suc (suc (suc (suc zero)))) some small = IsGcd-from_mod 5 4 1 (IsGcd-from_mod 4 1 1 (IsGcd-from_zero 1 0 refl))
five_gcd (suc (suc (suc (suc (suc r))))) some small = absurd (omega arith)

five_beside : (n : ℕ) → n % 5 ≢ 0 → IsCoprime n 5
five_beside n other = gcd_coprime n 5 1 (IsGcd-from_mod n 5 1 (five_gcd (n % 5) other (mod-lt n (omega arith)))) refl

-- ---- both taken out

cut_power : (x k t : ℕ) → t ≤ k → x ^ k ≡ x ^ (k - t) * x ^ t
cut_power x k t few = (let count : k - t + t ≡ k = omega arith in sym (ap (λ j. x ^ j) count)) ∙ pow-add x (k - t) t

ten_power : (k : ℕ) → 10 ^ k ≡ 2 ^ k * 5 ^ k
ten_power k = mul-pow 2 5 k

pub powers_fit : (k t f : ℕ) → k ≤ 19 → t ≤ k → f ≤ k → 2 ^ t * 5 ^ f < 2 ^ 64
powers_fit k t f few less fewer =
    let product : 2 ^ t * 5 ^ f ≤ 2 ^ k * 5 ^ k = mul-le-mul {n₁ = 2 ^ t} {m₁ = 5 ^ f} {n₂ = 2 ^ k} {m₂ = 5 ^ k} (pow-le-pow_right {n = 2} (omega arith) {i = t} {j = k} less) (pow-le-pow_right {n = 5} (omega arith) {i = f} {j = k} fewer) in
    let power : 10 ^ k ≤ 10 ^ 19 = pow-le-pow_right {n = 10} (omega arith) {i = k} {j = 19} few in
    omega (arith, ten_power k)

pub fives_fit : (k f : ℕ) → k ≤ 19 → f ≤ k → 5 ^ f < 2 ^ 64
fives_fit k f few fewer = omega (arith, pow-le-pow_right {n = 5} (omega arith) {i = f} {j = 19} (omega arith))

powers_some : (t f : ℕ) → 0 < 2 ^ t * 5 ^ f
powers_some t f =
    let product : 1 * 1 ≤ 2 ^ t * 5 ^ f = mul-le-mul {n₁ = 1} {m₁ = 1} {n₂ = 2 ^ t} {m₂ = 5 ^ f} (pow-le-pow_right {n = 2} (omega arith) {i = 0} {j = t} (omega arith)) (pow-le-pow_right {n = 5} (omega arith) {i = 0} {j = f} (omega arith)) in
    omega arith

both_same : (number k odd t p f : ℕ) → IsWithout 2 number k odd t → IsWithout 5 odd k p f → number * (2 ^ t * 5 ^ f) ≡ p * 10 ^ k
both_same number k odd t p f twos fives =
    ap (λ x. x * (2 ^ t * 5 ^ f)) (twos.same ∙ ap (λ x. x * 2 ^ (k - t)) fives.same) ∙ regroup p (5 ^ (k - f)) (2 ^ (k - t)) (2 ^ t) (5 ^ f) ∙ ap (λ x. p * (x * (5 ^ (k - f) * 5 ^ f))) (sym (cut_power 2 k t twos.few)) ∙ ap (λ x. p * (2 ^ k * x)) (sym (cut_power 5 k f fives.few)) ∙ ap (λ x. p * x) (sym (ten_power k))
  where
    regroup : (p e a b f : ℕ) → p * e * a * (b * f) ≡ p * (a * b * (e * f))
    regroup p e a b f = omega arith

-- the number over 10^k, in lowest terms
pub both_out : (number k odd t p f : ℕ) → IsWithout 2 number k odd t → IsWithout 5 odd k p f → IsLowestTermsOf (pos number) (pos (10 ^ k)) (pos p) (pos (2 ^ t * 5 ^ f))
both_out number k odd t p f twos fives =
    let divides : p ∣ odd = rw fives.same (dvd-mul_right p (5 ^ (k - f))) in
    let beside_two : IsCoprime p (2 ^ t) = coprime_divisors odd (2 ^ t) p (2 ^ t) (beside_power 2 number k odd t (odd_beside odd) twos) divides (dvd_refl (2 ^ t)) in
    let beside_five : IsCoprime p (5 ^ f) = beside_power 5 odd k p f (five_beside p) fives in
    lowest_of number (10 ^ k) p (2 ^ t * 5 ^ f) (power_some k) (powers_some t f) (both_same number k odd t p f twos fives) (coprime_product p (2 ^ t) (5 ^ f) beside_two beside_five)

-- ---- the moved point

tens_some : (k tens : ℕ) (down : Bool) → 0 < 10 ^ k * tens_below down tens
tens_some k tens true = product_power_some k tens
tens_some k tens false = (let h = power_some k in omega arith)

pub moved_left : (places tens : ℕ) (down : Bool) → down ≡ true → 10 ^ places * tens_below down tens ≡ 10 ^ (places + tens) * tens_above down tens
moved_left places tens down is = rw is ((let h = pow-add 10 places tens in omega arith))

pub moved_right : (places tens : ℕ) (down : Bool) → down ≡ false → tens ≤ places → 10 ^ places * tens_below down tens ≡ 10 ^ (places - tens) * tens_above down tens
moved_right places tens down is few = rw is ((let h = cut_power 10 places tens few in omega arith))

-- the digits are the number s. `count` of them are behind the point, and `places` behind the moved one
pub short_terms_moved : (s count places tens p q : ℕ) (down : Bool) → 10 ^ count * tens_below down tens ≡ 10 ^ places * tens_above down tens → IsLowestTermsOf (pos s) (pos (10 ^ places)) (pos p) (pos q)
    → IsLowestTermsOf (pos (s * tens_above down tens)) (pos (10 ^ count * tens_below down tens)) (pos p) (pos q)
short_terms_moved s count places tens p q down power terms =
    terms_moved s (10 ^ places) (s * tens_above down tens) (10 ^ count * tens_below down tens) p q (tens_some count tens down) (turn s (tens_above down tens) (10 ^ places) ∙ ap (λ x. s * x) (sym power)) terms
  where
    turn : (s a k : ℕ) → s * a * k ≡ s * (k * a)
    turn s a k = omega arith
