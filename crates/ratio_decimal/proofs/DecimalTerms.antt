-- The lowest terms of a digit and of what is behind it, and what fractions of equal values share.
use Rattle.std.specs.Prelude.{◌≡◌, ◌≢◌, ◌+◌, ◌-◌, ◌*◌, ◌/◌, ◌%◌, ◌^◌, ◌<◌, ◌≤◌, ◌==◌, ℕ, zero, suc, pos, cond}
use Rattle.std.specs.Int.{◌∣◌, IsGcd}
use Rattle.std.proofs.Common.{refl, sym, ap, subst, arith, ◌∙◌, inl, inr}
use Rattle.std.proofs.lemmas.Bool.Decides.{nat_tests}
use Rattle.std.proofs.lemmas.Int.{ints}
use Rattle.std.proofs.lemmas.Nat.{mul-mod_second}
use Rattle.std.proofs.lemmas.Nat.Gcd.{IsGcd-from_mod, IsGcd-from_zero}
use Rattle.std.proofs.Math.Nat.{add-mod, div-add-mod, div-lt_iff_lt-mul, div-mul_cancel, div-one, dvd-add_iff_right, dvd-mul_left, dvd-mul_left_of_dvd, dvd-mul_right, dvd_trans, eq_of_mul-eq-mul_right, le_of_dvd, le_of_mul-le-mul_right, mul-add-div, mod-lt, mul_comm, mul-le-mul, mul-le-mul_left, mul-le-mul_right, mul-sub, pos_of_dvd_of_pos}
use Rattle.ratio_integer.specs.Fraction.{IsLowestTerms, IsLowestTermsOf}
use Rattle.ratio_integer.proofs.CommonDivisors.{IsCoprime, coprime_gcd, coprime_product, coprime_turned, gcd_coprime}
use Rattle.ratio_integer.proofs.GcdLemmas.{coprime-dvd, parts-coprime}
use Rattle.ratio_integer.proofs.LowestTerms.{lowest_moved}
use Rattle.ratio_decimal.specs.DecimalCuts.{IsFine, IsPartTerms, IsWide}

-- ---- fractions of natural numbers

pub some_not_zero : (d : ℕ) → 0 < d → ¬ (pos d ≡ pos 0)
some_not_zero d some e = let none : d ≡ 0 = cc in omega arith

pub same_products : (n d p q : ℕ) → IsLowestTermsOf (pos n) (pos d) (pos p) (pos q) → n * q ≡ p * d
same_products n d p q is = let e : pos (n * q) ≡ pos (p * d) = is.same in cc

pub denom_some : (p q : ℕ) → IsLowestTerms (pos p) (pos q) → 0 < q
denom_some p q is = let h = is.positive in omega (arith, ints)

pub lowest_of : (n d p q : ℕ) → 0 < d → 0 < q → n * q ≡ p * d → IsCoprime p q → IsLowestTermsOf (pos n) (pos d) (pos p) (pos q)
lowest_of n d p q some more same only = record {
  fraction = some_not_zero d some;
  same = ap pos same;
  lowest = record { positive = omega (arith, ints, more); only_one = only };
}

pub terms_moved : (n d m e p q : ℕ) → 0 < e → m * d ≡ n * e → IsLowestTermsOf (pos n) (pos d) (pos p) (pos q) → IsLowestTermsOf (pos m) (pos e) (pos p) (pos q)
terms_moved n d m e p q some same is = lowest_moved (pos n) (pos d) (pos m) (pos e) (pos p) (pos q) (some_not_zero e some) (ap pos same) is

-- a/b and n/d and p/q have one value
crossed : (n d p q a b : ℕ) → 0 < d → n * q ≡ p * d → a * d ≡ n * b → a * q ≡ p * b
crossed n d p q a b some first second = eq_of_mul-eq-mul_right d some (a * q) (p * b) (turn a q d ∙ ap (λ t. t * q) second ∙ turn n b q ∙ ap (λ t. t * b) first ∙ turn p d b)
  where
    turn : (x y z : ℕ) → x * y * z ≡ x * z * y
    turn x y z = omega arith

-- no denominator of a value is below that of its lowest terms
pub denom_least : (n d p q a b : ℕ) → 0 < d → 0 < b → IsLowestTermsOf (pos n) (pos d) (pos p) (pos q) → a * d ≡ n * b → q ≤ b
denom_least n d p q a b some more is same =
    let e : b * p ≡ a * q = (let h = crossed n d p q a b some (same_products n d p q is) same in omega arith) in
    le_of_dvd more (coprime-dvd q p b (coprime_gcd q p (coprime_turned p q is.lowest.only_one)) (rw e (dvd-mul_left q a)))

-- ---- where no terms fit 128 bits

pub fine_moved : (n d m e : ℕ) → 0 < e → m * d ≡ n * e → IsFine n d → IsFine m e
fine_moved n d m e some same is = record { each = λ a b more h. is.each a b more (crossed m e n d a b some same h) }

pub wide_moved : (n d m e : ℕ) → 0 < e → m * d ≡ n * e → IsWide n d → IsWide m e
wide_moved n d m e some same is = record { each = λ a b more h. is.each a b more (crossed m e n d a b some same h) }

-- digits before a point of fine digits do not help
pub fine_behind : (s t n d : ℕ) → IsFine n d → IsFine (s * d + n) (t * d)
fine_behind s t n d is = record { each = λ a b more h. is.each (t * a - s * b) b more (rest a b h) }
  where
    rest : (a b : ℕ) → a * (t * d) ≡ (s * d + n) * b → (t * a - s * b) * d ≡ n * b
    rest a b h =
        let left : d * (t * a) ≡ d * (s * b) + n * b = omega arith in
        let cut : d * (t * a - s * b) ≡ n * b = mul-sub d (t * a) (s * b) ∙ ap (λ x. x - d * (s * b)) left ∙ (omega arith) in
        (let turn : (t * a - s * b) * d ≡ d * (t * a - s * b) = mul_comm (t * a - s * b) d in turn) ∙ cut

pub wide_fine : (n d : ℕ) → IsFine n d → IsWide n d
wide_fine n d is = record { each = λ a b more h. inr (is.each a b more h) }

-- a number of 2^128 or more is wide with any part behind it
pub wide_above : (x n d : ℕ) → 0 < d → x * d ≤ n → 2 ^ 128 ≤ x → IsWide n d
wide_above x n d some less wide = record { each = λ a b more h. inl (above a b more h) }
  where
    above : (a b : ℕ) → 0 < b → a * d ≡ n * b → 2 ^ 128 ≤ a
    above a b more h =
        let big : x * d * b ≤ n * b = mul-le-mul_right b less in
        let turned : x * b * d ≤ a * d = (let e : x * b * d ≡ x * d * b = omega arith in omega arith) in
        let whole : x * b ≤ a = le_of_mul-le-mul_right turned some in
        let one : x * 1 ≤ x * b = mul-le-mul_left x more in
        omega arith

-- and so is a fraction whose lowest terms have such a numerator
pub wide_numer : (n d p q : ℕ) → 0 < d → 0 < q → IsLowestTermsOf (pos n) (pos d) (pos p) (pos q) → 2 ^ 128 ≤ p → IsWide n d
wide_numer n d p q some positive is wide = record { each = λ a b more h. inl (above a b more h) }
  where
    above : (a b : ℕ) → 0 < b → a * d ≡ n * b → 2 ^ 128 ≤ a
    above a b more h =
        let least : p * q ≤ p * b = mul-le-mul_left p (denom_least n d p q a b some more is h) in
        let same : a * q ≡ p * b = crossed n d p q a b some (same_products n d p q is) h in
        let whole : p ≤ a = le_of_mul-le-mul_right {m = p} {n = a} {k = q} (omega arith) positive in
        omega arith

-- ---- digits before a part whose lowest terms are known

more_same : (s t n d p q : ℕ) → n * q ≡ p * d → (s * d + n) * (t * q) ≡ (s * q + p) * (t * d)
more_same s t n d p q same =
    let scaled : n * q * t ≡ p * d * t = ap (λ x. x * t) same in
    omega arith

pub terms_more : (s t n d p q u v : ℕ) → 0 < t * d → IsPartTerms n d p q → IsPartTerms (s * q + p) (t * q) u v → IsPartTerms (s * d + n) (t * d) u v
terms_more s t n d p q u v some is more = record {
  terms = terms_moved (s * q + p) (t * q) (s * d + n) (t * d) u v some (more_same s t n d p q (same_products n d p q is.terms)) more.terms;
  below = more.below;
}

pub fine_more : (s t n d p q : ℕ) → 0 < t * d → IsPartTerms n d p q → IsFine (s * q + p) (t * q) → IsFine (s * d + n) (t * d)
fine_more s t n d p q some is more = fine_moved (s * q + p) (t * q) (s * d + n) (t * d) some (more_same s t n d p q (same_products n d p q is.terms)) more

-- ---- the greatest common divisor with ten

abbrev divisor_of : ℕ → ℕ
divisor_of last = cond (last == 0) 10 (cond (last == 5) 5 (cond (last % 2 == 0) 2 1))

last_gcd : (last : ℕ) → last < 10 → IsGcd 10 last (divisor_of last)
last_gcd zero h = IsGcd-from_zero 10 0 refl
last_gcd (suc zero) h = IsGcd-from_mod 10 1 1 (IsGcd-from_zero 1 0 refl)
last_gcd (suc (suc zero)) h = IsGcd-from_mod 10 2 2 (IsGcd-from_zero 2 0 refl)
last_gcd (suc (suc (suc zero))) h = IsGcd-from_mod 10 3 1 (IsGcd-from_mod 3 1 1 (IsGcd-from_zero 1 0 refl))
last_gcd (suc (suc (suc (suc zero)))) h = IsGcd-from_mod 10 4 2 (IsGcd-from_mod 4 2 2 (IsGcd-from_zero 2 0 refl))
last_gcd (suc (suc (suc (suc (suc zero))))) h = IsGcd-from_mod 10 5 5 (IsGcd-from_zero 5 0 refl)
last_gcd (suc (suc (suc (suc (suc (suc zero)))))) h = IsGcd-from_mod 10 6 2 (IsGcd-from_mod 6 4 2 (IsGcd-from_mod 4 2 2 (IsGcd-from_zero 2 0 refl)))
last_gcd (suc (suc (suc (suc (suc (suc (suc zero))))))) h = IsGcd-from_mod 10 7 1 (IsGcd-from_mod 7 3 1 (IsGcd-from_mod 3 1 1 (IsGcd-from_zero 1 0 refl)))
last_gcd (suc (suc (suc (suc (suc (suc (suc (suc zero)))))))) h = IsGcd-from_mod 10 8 2 (IsGcd-from_mod 8 2 2 (IsGcd-from_zero 2 0 refl))
last_gcd (suc (suc (suc (suc (suc (suc (suc (suc (suc zero))))))))) h = IsGcd-from_mod 10 9 1 (IsGcd-from_mod 9 1 1 (IsGcd-from_zero 1 0 refl))
last_gcd (suc (suc (suc (suc (suc (suc (suc (suc (suc (suc n)))))))))) h = absurd (omega arith)

-- the last digit of d * q + p
last_digit : (d p q : ℕ) → (d * (q % 10) + p % 10) % 10 ≡ (d * q + p) % 10
last_digit d p q =
    add-mod (d * (q % 10)) (p % 10) 10 ∙ ap (λ t. (t + p % 10 % 10) % 10) (mul-mod_second d q 10) ∙ ap (λ t. ((d * q) % 10 + t) % 10) (let h : p % 10 % 10 ≡ p % 10 = omega arith in h) ∙ sym (add-mod (d * q) p 10)

-- the divisor is right, if it is that of the last digit
with_ten : (d p q g : ℕ) → divisor_of ((d * (q % 10) + p % 10) % 10) ≡ g → IsGcd (d * q + p) 10 g
with_ten d p q g divisor =
    let last = (d * (q % 10) + p % 10) % 10 in
    let small : last < 10 = omega arith in
    let step : IsGcd 10 last g = rw (← divisor) (last_gcd last small) in
    IsGcd-from_mod (d * q + p) 10 g (let h : IsGcd 10 ((d * q + p) % 10) g = rw (← last_digit d p q) step in h)

pub with_last : (d p q last : ℕ) → (d * (q % 10) + p % 10) % 10 ≡ last → IsGcd (d * q + p) 10 (divisor_of last)
with_last d p q last is = with_ten d p q (divisor_of last) (ap divisor_of is)

divisor_two : (x : ℕ) → x ≢ 0 → x ≢ 5 → x % 2 ≡ 0 → divisor_of x ≡ 2
divisor_two x some other even = grind (arith, nat_tests)

divisor_one : (x : ℕ) → x ≢ 0 → x ≢ 5 → x % 2 ≢ 0 → divisor_of x ≡ 1
divisor_one x some other odd = grind (arith, nat_tests)

pub with_even : (d p q : ℕ) → (d * (q % 10) + p % 10) % 10 ≢ 0 → (d * (q % 10) + p % 10) % 10 ≢ 5 → (d * (q % 10) + p % 10) % 10 % 2 ≡ 0 → IsGcd (d * q + p) 10 2
with_even d p q some other even = with_ten d p q 2 (divisor_two _ some other even)

pub with_odd : (d p q : ℕ) → (d * (q % 10) + p % 10) % 10 ≢ 0 → (d * (q % 10) + p % 10) % 10 ≢ 5 → (d * (q % 10) + p % 10) % 10 % 2 ≢ 0 → IsGcd (d * q + p) 10 1
with_odd d p q some other odd = with_ten d p q 1 (divisor_one _ some other odd)

-- ---- one digit more

pub divisor_some : (n g : ℕ) → IsGcd n 10 g → 0 < g
divisor_some n g is = pos_of_dvd_of_pos is.1 (omega arith)

pub numer_is : (d p q g : ℕ) → 0 < g → d * (q / g) + p / g + (d * (q % g) + p % g) / g ≡ (d * q + p) / g
numer_is d p q g some =
    let whole : g * (d * (q / g) + p / g) + (d * (q % g) + p % g) ≡ d * q + p = spread d g (q / g) (q % g) (p / g) (p % g) ∙ ap (λ t. d * t + (g * (p / g) + p % g)) (div-add-mod q g) ∙ ap (λ t. d * q + t) (div-add-mod p g) in
    sym (mul-add-div {m = g} some (d * (q / g) + p / g) (d * (q % g) + p % g)) ∙ ap (λ t. t / g) whole
  where
    spread : (d g x y z w : ℕ) → g * (d * x + z) + (d * y + w) ≡ d * (g * x + y) + (g * z + w)
    spread d g x y z w = omega arith

pub numer_small : (d p q g : ℕ) → d < 10 → p < q → IsGcd (d * q + p) 10 g → (d * q + p) / g < q * (10 / g)
numer_small d p q g digit below is =
    let some = divisor_some (d * q + p) g is in
    let ten : 10 / g * g ≡ 10 = div-mul_cancel g is.1 in
    let less : d * q ≤ 9 * q = mul-le-mul_right q (omega arith) in
    (div-lt_iff_lt-mul {k = g} {x = d * q + p} {y = q * (10 / g)} some).1 (
    let room : q * (10 / g) * g ≡ q * 10 = regroup q (10 / g) g ∙ ap (λ t. q * t) ten in
    omega arith)
  where
    regroup : (x y z : ℕ) → x * y * z ≡ x * (y * z)
    regroup x y z = omega arith

pub total_small : (d p q g : ℕ) → d < 10 → p < q → IsGcd (d * q + p) 10 g → d * (q / g) + p / g + (d * (q % g) + p % g) / g < q * (10 / g)
total_small d p q g digit below is = rw (numer_is d p q g (divisor_some (d * q + p) g is)) (numer_small d p q g digit below is)

pub rests_small : (d p q g : ℕ) → d < 10 → 0 < g → g ≤ 10 → d * (q % g) + p % g ≤ 110
rests_small d p q g digit some small =
    let first : q % g < g = mod-lt q some in
    let second : p % g < g = mod-lt p some in
    let product : d * (q % g) ≤ 10 * 10 = mul-le-mul {n₁ = d} {m₁ = q % g} {n₂ = 10} {m₂ = 10} (omega arith) (omega arith) in
    omega arith

-- x = n/g and h = 10/g
tenth_beside : (d p q g x h : ℕ) → 0 < g → x * g ≡ d * q + p → h * g ≡ 10 → IsCoprime p q → IsGcd (d * q + p) 10 g → IsCoprime x (q * h)
tenth_beside d p q g x h some xg hg only is = coprime_product x q h beside_q beside_h
  where
    beside_q : IsCoprime x q
    beside_q k left right =
        let whole : k ∣ d * q + p = rw (← xg) (dvd_trans k left (dvd-mul_right x g)) in
        only k ((dvd-add_iff_right k {m = d * q} {n = p} (dvd-mul_left_of_dvd k right d)).1 whole) right

    turn : (y z : ℕ) → y * z ≡ z * y
    turn y z = omega arith

    scaled : IsGcd (g * x) (g * h) g
    scaled = rw (turn g x, xg, turn g h, hg) is

    beside_h : IsCoprime x h
    beside_h = gcd_coprime x h 1 (parts-coprime x h g some scaled) refl

tenth_same : (n q g x h : ℕ) → x * g ≡ n → h * g ≡ 10 → n * (q * h) ≡ x * (10 * q)
tenth_same n q g x h xg hg = ap (λ t. t * (q * h)) (sym xg) ∙ regroup x g q h ∙ ap (λ t. x * (t * q)) hg
  where
    regroup : (x g q h : ℕ) → x * g * (q * h) ≡ x * (h * g * q)
    regroup x g q h = omega arith

product_some : (q h g : ℕ) → 0 < q → h * g ≡ 10 → 0 < q * h
product_some q zero g more hg = absurd (omega arith)
product_some zero (suc h) g more hg = absurd (omega arith)
product_some (suc q) (suc h) g more hg = omega arith

pub tenth_terms : (d p q g : ℕ) → 0 < q → IsCoprime p q → IsGcd (d * q + p) 10 g
    → IsLowestTermsOf (pos (d * q + p)) (pos (10 * q)) (pos ((d * q + p) / g)) (pos (q * (10 / g)))
tenth_terms d p q g more only is =
    let some = divisor_some (d * q + p) g is in
    let xg = div-mul_cancel g is.0 in
    let hg = div-mul_cancel g is.1 in
    lowest_of (d * q + p) (10 * q) ((d * q + p) / g) (q * (10 / g)) (omega arith) (product_some q (10 / g) g more hg) (tenth_same (d * q + p) q g ((d * q + p) / g) (10 / g) xg hg)
    (tenth_beside d p q g ((d * q + p) / g) (10 / g) some xg hg only is)

-- the terms that the call computes
pub digit_terms : (d p q g n m : ℕ) → d < 10 → p < q → IsLowestTerms (pos p) (pos q) → IsGcd (d * q + p) 10 g → n ≡ d * (q / g) + p / g + (d * (q % g) + p % g) / g → m ≡ q * (10 / g)
    → IsPartTerms (d * q + p) (10 * q) n m
digit_terms d p q g n m digit below lowest is n-is m-is =
    let some = divisor_some (d * q + p) g is in
    rw (n-is, m-is, numer_is d p q g some) (record { terms = tenth_terms d p q g (denom_some p q lowest) lowest.only_one is; below = numer_small d p q g digit below is })

-- the same by the last digit of d * q + p
number_gcd : (n : ℕ) → IsGcd n 10 (divisor_of (n % 10))
number_gcd n = IsGcd-from_mod n 10 (divisor_of (n % 10)) (last_gcd (n % 10) (mod-lt n (omega arith)))

by_gcd : (d p q g : ℕ) → d < 10 → p < q → IsLowestTerms (pos p) (pos q) → divisor_of ((d * q + p) % 10) ≡ g → IsPartTerms (d * q + p) (10 * q) ((d * q + p) / g) (q * (10 / g))
by_gcd d p q g digit below lowest divisor =
    let is : IsGcd (d * q + p) 10 g = rw (← divisor) (number_gcd (d * q + p)) in
    record { terms = tenth_terms d p q g (denom_some p q lowest) lowest.only_one is; below = numer_small d p q g digit below is }

pub by_ten : (d p q : ℕ) → d < 10 → p < q → IsLowestTerms (pos p) (pos q) → (d * q + p) % 10 ≡ 0 → IsPartTerms (d * q + p) (10 * q) ((d * q + p) / 10) q
by_ten d p q digit below lowest last =
    let whole : q * 1 ≡ q = omega arith in
    subst (λ x. IsPartTerms (d * q + p) (10 * q) ((d * q + p) / 10) x) whole (by_gcd d p q 10 digit below lowest (ap divisor_of last))

pub by_five : (d p q : ℕ) → d < 10 → p < q → IsLowestTerms (pos p) (pos q) → (d * q + p) % 10 ≡ 5 → IsPartTerms (d * q + p) (10 * q) ((d * q + p) / 5) (q * 2)
by_five d p q digit below lowest last = by_gcd d p q 5 digit below lowest (ap divisor_of last)

pub by_two : (d p q : ℕ) → d < 10 → p < q → IsLowestTerms (pos p) (pos q) → (d * q + p) % 10 ≢ 0 → (d * q + p) % 10 ≢ 5 → (d * q + p) % 10 % 2 ≡ 0 → IsPartTerms (d * q + p) (10 * q) ((d * q + p) / 2) (q * 5)
by_two d p q digit below lowest some other even = by_gcd d p q 2 digit below lowest (divisor_two _ some other even)

pub by_one : (d p q : ℕ) → d < 10 → p < q → IsLowestTerms (pos p) (pos q) → (d * q + p) % 10 ≢ 0 → (d * q + p) % 10 ≢ 5 → (d * q + p) % 10 % 2 ≢ 0 → IsPartTerms (d * q + p) (10 * q) (d * q + p) (q * 10)
by_one d p q digit below lowest some other odd =
    subst (λ x. IsPartTerms (d * q + p) (10 * q) x (q * 10)) (div-one (d * q + p)) (by_gcd d p q 1 digit below lowest (divisor_one _ some other odd))

-- and where their denominator does not fit
pub digit_fine : (d p q g : ℕ) → IsLowestTerms (pos p) (pos q) → IsGcd (d * q + p) 10 g → 2 ^ 128 ≤ q * (10 / g) → IsFine (d * q + p) (10 * q)
digit_fine d p q g lowest is wide = record {
  each = λ a b more h. (
      let least = denom_least (d * q + p) (10 * q) ((d * q + p) / g) (q * (10 / g)) a b (let some = denom_some p q lowest in omega arith) more (tenth_terms d p q g (denom_some p q lowest) lowest.only_one is) h in
      omega arith);
}

-- ---- a whole number before it

pub whole_terms : (w p q n : ℕ) → IsLowestTerms (pos p) (pos q) → n ≡ w * q + p → IsLowestTermsOf (pos (w * q + p)) (pos q) (pos n) (pos q)
whole_terms w p q n lowest is =
    let some = denom_some p q lowest in
    rw is (lowest_of (w * q + p) q (w * q + p) q some some refl (λ k left right. lowest.only_one k ((dvd-add_iff_right k {m = w * q} {n = p} (dvd-mul_left_of_dvd k right w)).1 left) right))

pub whole_wide : (w p q : ℕ) → IsLowestTerms (pos p) (pos q) → 2 ^ 128 ≤ w * q + p → IsWide (w * q + p) q
whole_wide w p q lowest wide =
    let some = denom_some p q lowest in
    wide_numer (w * q + p) q (w * q + p) q some some (whole_terms w p q (w * q + p) lowest refl) wide
