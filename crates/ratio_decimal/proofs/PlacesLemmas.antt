-- How many places the digits of a fraction over d have, and whether they end.
use Rattle.std.specs.Prelude.{◌≡◌, ◌≢◌, ◌⊎◌, ◌*◌, ◌+◌, ◌-◌, ◌/◌, ◌%◌, ◌^◌, ◌<◌, ◌≤◌, ℕ, zero, suc}
use Rattle.std.specs.Int.{◌∣◌}
use Rattle.std.proofs.Common.{refl, sym, ap, arith, ◌∙◌, inl, inr, pow-suc, subst, eq-zero-or-pos}
use Rattle.std.proofs.Math.Nat.{dvd-mul_left_of_dvd, dvd_of_mul-dvd-mul_left, eq-one_of_dvd-one, mul-div_cancel', pow-le-pow_right}
use Rattle.std.proofs.lemmas.Nat.{pow-add}
use Rattle.ratio_integer.proofs.CommonDivisors.{IsCoprime, coprime_gcd}
use Rattle.ratio_integer.proofs.GcdLemmas.{coprime-dvd}
use Rattle.ratio_decimal.specs.Decimal.{IsPlacesOf}

-- ---- numbers without a prime factor

-- a number that 2 does not divide is coprime to it
coprime_two : (n : ℕ) → n % 2 ≢ 0 → IsCoprime n 2
coprime_two n apart k p q = go k (2 / k) (n / k) (mul-div_cancel' k q) (mul-div_cancel' k p)
  where
    go : (k m c : ℕ) → k * m ≡ 2 → k * c ≡ n → k ≡ 1
    go zero m c e f = absurd (omega arith)
    go (suc zero) m c e f = refl
    go (suc (suc zero)) m c e f = absurd (apart (omega arith))
    go (suc (suc (suc k))) zero c e f = absurd (omega arith)
    go (suc (suc (suc k))) (suc m) c e f = absurd (omega arith)

-- and the same of 5
coprime_five : (n : ℕ) → n % 5 ≢ 0 → IsCoprime n 5
coprime_five n apart k p q = go k (5 / k) (n / k) (mul-div_cancel' k q) (mul-div_cancel' k p)
  where
    go : (k m c : ℕ) → k * m ≡ 5 → k * c ≡ n → k ≡ 1
    go zero m c e f = absurd (omega arith)
    go (suc zero) m c e f = refl
    go (suc (suc zero)) m c e f = absurd (omega arith)
    go (suc (suc (suc zero))) m c e f = absurd (omega arith)
    go (suc (suc (suc (suc zero)))) m c e f = absurd (omega arith)
    go (suc (suc (suc (suc (suc zero))))) m c e f = absurd (apart (omega arith))
    go (suc (suc (suc (suc (suc (suc k)))))) zero c e f = absurd (omega arith)
    go (suc (suc (suc (suc (suc (suc k)))))) (suc m) c e f = absurd (omega arith)

coprime_one : (n : ℕ) → IsCoprime n 1
coprime_one n k p q = eq-one_of_dvd-one q

-- ---- one 2 and one 5 less

-- `left` is what is left of d: d divides a power of ten exactly if `left` divides the one with so many places less
pub record IsStripped (d left places : ℕ) : Type 0 where
  pub positive : 0 < left
  pub multiple : ℕ
  pub product : multiple * d ≡ 10 ^ places * left
  pub divides : (k : ℕ) → d ∣ 10 ^ (places + k) → left ∣ 10 ^ k
  pub least : (k : ℕ) → d ∣ 10 ^ k → places ≤ k
  pub few : left * 2 ^ places ≤ d

pub at_first : (d : ℕ) → 0 < d → IsStripped d d 0
at_first d some = record {
  positive = some;
  multiple = 1;
  product = omega arith;
  divides = λ k h. subst (λ j. d ∣ 10 ^ j) (none k) h;
  least = λ k h. omega arith;
  few = omega arith;
}
  where
    none : (k : ℕ) → 0 + k ≡ k
    none k = omega arith

-- if d divides a power of ten, it has more places, unless nothing is left
more_places : (d left places k : ℕ) → IsStripped d left places → left ≢ 1 → d ∣ 10 ^ k → places + 1 ≤ k
more_places d left places k is more h = elim (eq-zero-or-pos (k - places)) [
  | inl z ↦
      let low = is.least k h in
      let same : k ≡ places + 0 = omega arith in
      absurd (more (eq-one_of_dvd-one (is.divides 0 (subst (λ j. d ∣ 10 ^ j) same h))))
  | inr some ↦ omega arith
]

-- a factor g of ten is taken off, and what is left is coprime to the other factor
less_by : (d left places smaller g other : ℕ) → IsStripped d left places → left ≢ 1 → left ≡ g * smaller → 2 ≤ g → g * other ≡ 10 → IsCoprime smaller other → IsStripped d smaller (places + 1)
less_by d left places smaller g other is more left-is many ten apart = record {
  positive = positive smaller left-is;
  multiple = is.multiple * other;
  product = product;
  divides = divides;
  least = λ k h. more_places d left places k is more h;
  few = few;
}
  where
    positive : (s : ℕ) → left ≡ g * s → 0 < s
    positive zero e = absurd (let h = is.positive in omega arith)
    positive (suc s) e = omega arith

    power : 10 ^ (places + 1) ≡ 10 ^ places * 10
    power = pow-add 10 places 1

    turn : (m x : ℕ) → m * x * d ≡ (m * d) * x
    turn m x = omega arith

    regroup : (p : ℕ) → p * (g * smaller) * other ≡ p * (g * other) * smaller
    regroup p = omega arith

    product : is.multiple * other * d ≡ 10 ^ (places + 1) * smaller
    product =
        turn is.multiple other ∙ ap (λ x. x * other) (is.product ∙ ap (λ x. 10 ^ places * x) left-is) ∙ regroup (10 ^ places)
        ∙ ap (λ x. 10 ^ places * x * smaller) ten ∙ ap (λ x. x * smaller) (sym power)

    next_power : (k : ℕ) → 10 ^ suc k ≡ g * (10 ^ k * other)
    next_power k =
        let e : 10 ^ suc k ≡ 10 ^ k * 10 = pow-suc 10 k in
        e ∙ ap (λ x. 10 ^ k * x) (sym ten) ∙ swap (10 ^ k)
      where
        swap : (p : ℕ) → p * (g * other) ≡ g * (p * other)
        swap p = omega arith

    divides : (k : ℕ) → d ∣ 10 ^ (places + 1 + k) → smaller ∣ 10 ^ k
    divides k h =
        let shift : places + 1 + k ≡ places + suc k = omega arith in
        let all : left ∣ 10 ^ suc k = is.divides (suc k) (subst (λ j. d ∣ 10 ^ j) shift h) in
        let scaled : g * smaller ∣ g * (10 ^ k * other) = subst (λ x. x ∣ g * (10 ^ k * other)) left-is (subst (λ x. left ∣ x) (next_power k) all) in
        coprime-dvd smaller other (10 ^ k) (coprime_gcd smaller other apart) (dvd_of_mul-dvd-mul_left smaller (let m = many in omega arith) scaled)

    few : smaller * 2 ^ (places + 1) ≤ d
    few =
        let e : 2 ^ (places + 1) ≡ 2 ^ places * 2 = pow-add 2 places 1 in
        let h = is.few in
        let f : left * 2 ^ places ≡ g * smaller * 2 ^ places = ap (λ x. x * 2 ^ places) left-is in
        let up : smaller * (2 ^ places * 2) ≤ g * smaller * 2 ^ places = twice g many in
        rw e (omega arith)
      where
        twice : (g : ℕ) → 2 ≤ g → smaller * (2 ^ places * 2) ≤ g * smaller * 2 ^ places
        twice zero h = absurd (omega arith)
        twice (suc zero) h = absurd (omega arith)
        twice (suc (suc g)) h = omega arith

pub next : (d left places smaller : ℕ) → IsStripped d left places → left ≢ 1 → (left ≡ smaller * 10) ⊎ (((left ≡ smaller * 2) × (smaller % 5 ≢ 0)) ⊎ ((left ≡ smaller * 5) × (smaller % 2 ≢ 0))) → IsStripped d smaller (places + 1)
next d left places smaller is more (inl e) = less_by d left places smaller 10 1 is more (omega arith) (omega arith) (omega arith) (coprime_one smaller)
next d left places smaller is more (inr (inl e)) = less_by d left places smaller 2 5 is more (let h = e.0 in omega arith) (omega arith) (omega arith) (coprime_five smaller e.1)
next d left places smaller is more (inr (inr e)) = less_by d left places smaller 5 2 is more (let h = e.0 in omega arith) (omega arith) (omega arith) (coprime_two smaller e.1)

-- ---- the end

-- a number without a 2 and a 5 divides no power of ten, unless it is 1
pub only_one : (left k : ℕ) → left % 2 ≢ 0 → left % 5 ≢ 0 → left ∣ 10 ^ k → left ≡ 1
only_one left zero two five h = eq-one_of_dvd-one h
only_one left (suc k) two five h =
    let e : 10 ^ suc k ≡ 10 ^ k * 5 * 2 = pow-suc 10 k ∙ split (10 ^ k) in
    only_one left k two five
    (coprime-dvd left 5 (10 ^ k) (coprime_gcd left 5 (coprime_five left five))
    (coprime-dvd left 2 (10 ^ k * 5) (coprime_gcd left 2 (coprime_two left two)) (subst (λ x. left ∣ x) e h)))
  where
    split : (p : ℕ) → p * 10 ≡ p * 5 * 2
    split p = omega arith

pub never_ends : (d left places : ℕ) → IsStripped d left places → left ≢ 1 → (left % 2 ≢ 0) × (left % 5 ≢ 0) → (k : ℕ) → ¬ (d ∣ 10 ^ k)
never_ends d left places is more apart k h =
    let e : 10 ^ (places + k) ≡ 10 ^ places * 10 ^ k = pow-add 10 places k in
    let wide : d ∣ 10 ^ (places + k) = subst (λ x. d ∣ x) (sym e) (dvd-mul_left_of_dvd d h (10 ^ places)) in
    more (only_one left k apart.0 apart.1 (is.divides k wide))

pub ends : (d left places : ℕ) → IsStripped d left places → left ≡ 1 → IsPlacesOf d places
ends d left places is one = record {
  multiple = is.multiple;
  product = is.product ∙ ap (λ x. 10 ^ places * x) one ∙ times_one (10 ^ places);
  least = is.least;
  few = let h = is.few in let e : left * 2 ^ places ≡ 1 * 2 ^ places = ap (λ x. x * 2 ^ places) one in omega arith;
}
  where
    times_one : (p : ℕ) → p * 1 ≡ p
    times_one p = omega arith

-- there are at most 127 places
pub few_places : (d places : ℕ) → 2 ^ places ≤ d → d < 2 ^ 128 → places ≤ 127
few_places d places low high = elim (eq-zero-or-pos (places - 127)) [
  | inl z ↦ omega arith
  | inr more ↦ let up : 2 ^ 128 ≤ 2 ^ places = pow-le-pow_right {n = 2} (omega arith) {i = 128} {j = places} (omega arith) in absurd (omega arith)
]

pub few_more : (d left places : ℕ) → IsStripped d left places → d < 2 ^ 128 → places ≤ 127
few_more d left places is small = few_places d places (let h = is.few in let s = is.positive in at_least left s h) small
  where
    at_least : (x : ℕ) → 0 < x → x * 2 ^ places ≤ d → 2 ^ places ≤ d
    at_least zero s h = absurd (omega arith)
    at_least (suc x) s h = omega arith
