-- How the digits of a decimal are read, from the first on and from the last on.
use Rattle.std.specs.Prelude.{◌≡◌, ◌≢◌, ◌+◌, ◌-◌, ◌*◌, ◌^◌, ◌<◌, ◌≤◌, ℕ, suc, pos, List, [], ◌∷◌, ◌++◌, length}
use Rattle.std.specs.Char.{digit_value}
use Rattle.std.specs.Str.Parse.{AllDigits, digits_value_after}
use Rattle.std.proofs.Common.{refl, sym, ap, subst, arith, ◌∙◌, drop, take, get_or, length-append, pow-suc}
use Rattle.std.proofs.lemmas.Grind.{common_steps}
use Rattle.std.proofs.lemmas.List.{drop_all, take-append-drop}
use Rattle.std.proofs.lemmas.Nat.{pow-add}
use Rattle.std.proofs.lemmas.Str.Parse.{digit_at}
use Rattle.std.proofs.Math.Nat.{mul-le-mul, pow-le-pow_right}
use Rattle.std.proofs.Math.Seq.{drop-cons, drop-length}
use Rattle.ratio_integer.specs.Fraction.{IsLowestTerms}
use Rattle.ratio_decimal.specs.DecimalCuts.{IsFine, IsPartTerms}
use Rattle.ratio_core.specs.Reading.{digits_sum}
use Rattle.ratio_integer.proofs.LowestTerms.{lowest_own, over_one}
use Rattle.ratio_decimal.proofs.DecimalTerms.{fine_behind, fine_more, lowest_of, terms_more, terms_moved}

-- ---- from the first digit on

-- a number only grows with the digits after it
after_grows : (n : ℕ) (ds : List ℕ) → n ≤ digits_value_after 10 n ds
after_grows n [] = omega arith
after_grows n (c ∷ cs) = omega (arith, after_grows (n * 10 + digit_value c) cs)

-- the digits from `at` on, after the number so far
pub record IsReadTo (first : ℕ) (digits : List ℕ) (at number : ℕ) : Type 0 where
  pub inside : at ≤ length digits
  pub same : digits_value_after 10 first digits ≡ digits_value_after 10 number (drop at digits)

pub read_more : (first : ℕ) (digits : List ℕ) (at number digit next : ℕ) → IsReadTo first digits at number → at < length digits → digit ≡ digit_value (get_or digits at 0) → next ≡ number * 10 + digit
    → IsReadTo first digits (at + 1) next
read_more first digits at number digit next r more is next-is =
    let one : suc at ≡ at + 1 = omega arith in
    record {
      inside = omega (arith, more);
      same = r.same ∙ ap (digits_value_after 10 number) (drop-cons digits at 0 more) ∙ ap (λ n. digits_value_after 10 n (drop (suc at) digits)) (ap (λ d. number * 10 + d) (sym is) ∙ sym next-is) ∙ ap (λ j. digits_value_after 10 next (drop j digits)) one;
    }

pub read_all : (first : ℕ) (digits : List ℕ) (at number : ℕ) → IsReadTo first digits at number → length digits ≤ at → number ≡ digits_value_after 10 first digits
read_all first digits at number r end = sym (r.same ∙ ap (digits_value_after 10 number) (drop_all at digits end))

-- where the next number does not fit, the whole one does not either
pub read_wide : (first : ℕ) (digits : List ℕ) (at number digit : ℕ) → IsReadTo first digits at number → at < length digits → digit ≡ digit_value (get_or digits at 0) → 2 ^ 128 ≤ number * 10 + digit
    → 2 ^ 128 ≤ digits_value_after 10 first digits
read_wide first digits at number digit r more is wide =
    let r2 = read_more first digits at number digit (number * 10 + digit) r more is refl in
    omega (arith, r2.same, after_grows (number * 10 + digit) (drop (at + 1) digits))

-- ---- from the last digit on

pub sum_split : (xs ys : List ℕ) → digits_sum 10 (xs ++ ys) ≡ digits_sum 10 xs * 10 ^ length ys + digits_sum 10 ys
sum_split [] ys = omega arith
sum_split (c ∷ cs) ys =
    let power : 10 ^ length (cs ++ ys) ≡ 10 ^ length cs * 10 ^ length ys = ap (λ k. 10 ^ k) (length-append cs ys) ∙ pow-add 10 (length cs) (length ys) in
    let first : digit_value c * 10 ^ length (cs ++ ys) ≡ digit_value c * (10 ^ length cs * 10 ^ length ys) = ap (λ t. digit_value c * t) power in
    omega (arith, sum_split cs ys, first)

pub power_some : (k : ℕ) → 0 < 10 ^ k
power_some k = omega (arith, pow-le-pow_right {n = 10} (omega arith) {i = 0} {j = k} (omega arith))

-- the digits from `at` on, with p/q behind them, are n/m
pub record IsReadFrom (digits : List ℕ) (p q at n m : ℕ) : Type 0 where
  pub inside : at ≤ length digits
  pub part : IsPartTerms (digits_sum 10 (drop at digits) * q + p) (10 ^ length (drop at digits) * q) n m

pub back_none : (digits : List ℕ) (p q : ℕ) → p < q → IsLowestTerms (pos p) (pos q) → IsReadFrom digits p q (length digits) p q
back_none digits p q below lowest = record {
  inside = omega arith;
  part = rw (drop-length digits) (record { terms = terms_moved p q (0 * q + p) (1 * q) p q (omega arith) (omega arith) (lowest_own (pos p) (pos q) lowest); below = below });
}

-- the digit at `at` - 1 and those from `at` on
last_drop : (digits : List ℕ) (at d : ℕ) → 0 < at → at ≤ length digits → d ≡ digit_value (get_or digits (at - 1) 0)
    → (digits_sum 10 (drop (at - 1) digits) ≡ d * 10 ^ length (drop at digits) + digits_sum 10 (drop at digits)) × (10 ^ length (drop (at - 1) digits) ≡ 10 * 10 ^ length (drop at digits))
last_drop digits at d some inside is =
    let i = at - 1 in
    let next : suc i ≡ at = omega arith in
    let cut : drop i digits ≡ get_or digits i 0 ∷ drop at digits = drop-cons digits i 0 (omega arith) ∙ ap (λ j. get_or digits i 0 ∷ drop j digits) next in (
      ap (digits_sum 10) cut ∙ ap (λ x. x * 10 ^ length (drop at digits) + digits_sum 10 (drop at digits)) (sym is),
      ap (λ xs. 10 ^ length xs) cut ∙ pow-suc 10 (length (drop at digits)) ∙ (let turn : 10 ^ length (drop at digits) * 10 ≡ 10 * 10 ^ length (drop at digits) = omega arith in turn),
    )

last_numer : (digits : List ℕ) (p q at d : ℕ) → 0 < at → at ≤ length digits → d ≡ digit_value (get_or digits (at - 1) 0)
    → d * (10 ^ length (drop at digits) * q) + (digits_sum 10 (drop at digits) * q + p) ≡ digits_sum 10 (drop (at - 1) digits) * q + p
last_numer digits p q at d some inside is =
    spread d (10 ^ length (drop at digits)) (digits_sum 10 (drop at digits)) q p ∙ ap (λ x. x * q + p) (sym (last_drop digits at d some inside is).0)
  where
    spread : (d t s q p : ℕ) → d * (t * q) + (s * q + p) ≡ (d * t + s) * q + p
    spread d t s q p = omega arith

last_denom : (digits : List ℕ) (q at d : ℕ) → 0 < at → at ≤ length digits → d ≡ digit_value (get_or digits (at - 1) 0)
    → 10 * (10 ^ length (drop at digits) * q) ≡ 10 ^ length (drop (at - 1) digits) * q
last_denom digits q at d some inside is =
    spread (10 ^ length (drop at digits)) q ∙ ap (λ x. x * q) (sym (last_drop digits at d some inside is).1)
  where
    spread : (t q : ℕ) → 10 * (t * q) ≡ 10 * t * q
    spread t q = omega arith

product_some : (k q : ℕ) → 0 < q → 0 < 10 ^ k * q
product_some k q some = let h = mul-le-mul {n₁ = 1} {m₁ = 1} {n₂ = 10 ^ k} {m₂ = q} (power_some k) some in omega arith

-- one digit more
pub back_more : (digits : List ℕ) (p q at n m d u v : ℕ) → 0 < q → IsReadFrom digits p q at n m → 0 < at → d ≡ digit_value (get_or digits (at - 1) 0) → IsPartTerms (d * m + n) (10 * m) u v
    → IsReadFrom digits p q (at - 1) u v
back_more digits p q at n m d u v positive r some is more =
    let rest = drop at digits in
    let some2 : 0 < 10 * (10 ^ length rest * q) = (let h = product_some (length rest) q positive in omega arith) in
    let step = terms_more d 10 (digits_sum 10 rest * q + p) (10 ^ length rest * q) n m u v some2 r.part more in
    record {
      inside = omega (arith, r.inside);
      part = subst (λ x. IsPartTerms (digits_sum 10 (drop (at - 1) digits) * q + p) x u v) (last_denom digits q at d some r.inside is)
          (subst (λ x. IsPartTerms x (10 * (10 ^ length rest * q)) u v) (last_numer digits p q at d some r.inside is) step);
    }

-- digits in front of fine ones are fine
front_fine : (digits : List ℕ) (p q at : ℕ) → IsFine (digits_sum 10 (drop at digits) * q + p) (10 ^ length (drop at digits) * q) → IsFine (digits_sum 10 digits * q + p) (10 ^ length digits * q)
front_fine digits p q at fine =
    let front = take at digits in
    let rest = drop at digits in
    let whole : front ++ rest ≡ digits = take-append-drop at digits in
    let sum : digits_sum 10 front * (10 ^ length rest * q) + (digits_sum 10 rest * q + p) ≡ digits_sum 10 digits * q + p =
    spread (digits_sum 10 front) (10 ^ length rest) (digits_sum 10 rest) q p ∙ ap (λ x. x * q + p) (sym (sum_split front rest) ∙ ap (digits_sum 10) whole) in
    let power : 10 ^ length front * (10 ^ length rest * q) ≡ 10 ^ length digits * q =
    regroup (10 ^ length front) (10 ^ length rest) q ∙ ap (λ x. x * q) (sym (pow-add 10 (length front) (length rest)) ∙ ap (λ k. 10 ^ k) (sym (length-append front rest) ∙ ap length whole)) in
    subst (λ x. IsFine (digits_sum 10 digits * q + p) x) power (subst (λ x. IsFine x (10 ^ length front * (10 ^ length rest * q))) sum (fine_behind (digits_sum 10 front) (10 ^ length front) _ _ fine))
  where
    spread : (s t r q p : ℕ) → s * (t * q) + (r * q + p) ≡ (s * t + r) * q + p
    spread s t r q p = omega arith

    regroup : (x y z : ℕ) → x * (y * z) ≡ x * y * z
    regroup x y z = omega arith

pub back_fine : (digits : List ℕ) (p q at n m d : ℕ) → 0 < q → IsReadFrom digits p q at n m → 0 < at → d ≡ digit_value (get_or digits (at - 1) 0) → IsFine (d * m + n) (10 * m)
    → IsFine (digits_sum 10 digits * q + p) (10 ^ length digits * q)
back_fine digits p q at n m d positive r some is fine =
    let rest = drop at digits in
    let some2 : 0 < 10 * (10 ^ length rest * q) = (let h = product_some (length rest) q positive in omega arith) in
    let step = fine_more d 10 (digits_sum 10 rest * q + p) (10 ^ length rest * q) n m some2 r.part fine in
    front_fine digits p q (at - 1) (subst (λ x. IsFine (digits_sum 10 (drop (at - 1) digits) * q + p) x) (last_denom digits q at d some r.inside is)
    (subst (λ x. IsFine x (10 * (10 ^ length rest * q))) (last_numer digits p q at d some r.inside is) step))

pub back_all : (digits : List ℕ) (p q at n m : ℕ) → IsReadFrom digits p q at n m → at ≡ 0 → IsPartTerms (digits_sum 10 digits * q + p) (10 ^ length digits * q) n m
back_all digits p q at n m r none = (let h = r.part in rw none at h)

-- ---- zeros

-- so many zeros were read that `left` are left
pub record AreZerosRead (zeros p q left n m : ℕ) : Type 0 where
  pub few : left ≤ zeros
  pub part : IsPartTerms p (10 ^ (zeros - left) * q) n m

pub zeros_none : (zeros p q : ℕ) → p < q → IsLowestTerms (pos p) (pos q) → AreZerosRead zeros p q zeros p q
zeros_none zeros p q below lowest =
    let none : zeros - zeros ≡ 0 = omega arith in
    record {
      few = omega arith;
      part = rw none (record { terms = terms_moved p q p (1 * q) p q (omega arith) (omega arith) (lowest_own (pos p) (pos q) lowest); below = below });
    }

zero_denom : (zeros q left : ℕ) → 0 < left → left ≤ zeros → 10 * (10 ^ (zeros - left) * q) ≡ 10 ^ (zeros - (left - 1)) * q
zero_denom zeros q left some few =
    let next : zeros - (left - 1) ≡ suc (zeros - left) = omega arith in
    spread (10 ^ (zeros - left)) q ∙ ap (λ x. x * q) (sym (ap (λ k. 10 ^ k) next ∙ pow-suc 10 (zeros - left)))
  where
    spread : (t q : ℕ) → 10 * (t * q) ≡ t * 10 * q
    spread t q = omega arith

pub zeros_more : (zeros p q left n m u v : ℕ) → 0 < q → AreZerosRead zeros p q left n m → 0 < left → IsPartTerms (0 * m + n) (10 * m) u v → AreZerosRead zeros p q (left - 1) u v
zeros_more zeros p q left n m u v positive r some more =
    let d = 10 ^ (zeros - left) * q in
    let some2 : 0 < 10 * d = (let h = product_some (zeros - left) q positive in omega arith) in
    let none : 0 * d + p ≡ p = omega arith in
    record {
      few = omega (arith, r.few);
      part = subst (λ x. IsPartTerms p x u v) (zero_denom zeros q left some r.few) (subst (λ x. IsPartTerms x (10 * d) u v) none (terms_more 0 10 p d n m u v some2 r.part more));
    }

pub zeros_fine : (zeros p q left n m : ℕ) → 0 < q → AreZerosRead zeros p q left n m → 0 < left → IsFine (0 * m + n) (10 * m) → IsFine p (10 ^ zeros * q)
zeros_fine zeros p q left n m positive r some fine =
    let d = 10 ^ (zeros - left) * q in
    let some2 : 0 < 10 * d = (let h = product_some (zeros - left) q positive in omega arith) in
    let none : 0 * d + p ≡ p = omega arith in
    let step : IsFine p (10 ^ (zeros - (left - 1)) * q) = subst (IsFine p) (zero_denom zeros q left some r.few) (subst (λ x. IsFine x (10 * d)) none (fine_more 0 10 p d n m some2 r.part fine)) in
    let count : left - 1 + (zeros - (left - 1)) ≡ zeros = (let few = r.few in omega arith) in
    let power : 10 ^ (left - 1) * (10 ^ (zeros - (left - 1)) * q) ≡ 10 ^ zeros * q = regroup (10 ^ (left - 1)) (10 ^ (zeros - (left - 1))) q ∙ ap (λ x. x * q) (sym (pow-add 10 (left - 1) (zeros - (left - 1))) ∙ ap (λ k. 10 ^ k) count) in
    let none2 : 0 * (10 ^ (zeros - (left - 1)) * q) + p ≡ p = omega arith in
    subst (IsFine p) power (subst (λ x. IsFine x (10 ^ (left - 1) * (10 ^ (zeros - (left - 1)) * q))) none2 (fine_behind 0 (10 ^ (left - 1)) p (10 ^ (zeros - (left - 1)) * q) step))
  where
    regroup : (x y z : ℕ) → x * (y * z) ≡ x * y * z
    regroup x y z = omega arith

pub zeros_all : (zeros p q left n m : ℕ) → AreZerosRead zeros p q left n m → left ≡ 0 → IsPartTerms p (10 ^ zeros * q) n m
zeros_all zeros p q left n m r none =
    let all : zeros - left ≡ zeros = omega arith in
    subst (λ k. IsPartTerms p (10 ^ k * q) n m) all r.part

pub zeros_of_zero : (zeros p q : ℕ) → p ≡ 0 → 0 < q → IsPartTerms p (10 ^ zeros * q) 0 1
zeros_of_zero zeros p q none positive = rw none (record {
  terms = lowest_of 0 (10 ^ zeros * q) 0 1 (product_some zeros q positive) (omega arith) (omega arith) (over_one (pos 0) (pos 1) refl).only_one;
  below = omega arith;
})

-- ---- single digits, and powers of ten

pub digit_range : (digits : List ℕ) (at : ℕ) → AllDigits 10 digits → at < length digits
    → (48 ≤ get_or digits at 0) × (get_or digits at 0 - 48 ≡ digit_value (get_or digits at 0)) × (get_or digits at 0 - 48 < 10)
digit_range digits at all inside = let h = digit_at digits at all inside in (omega (arith, h.0), worth (get_or digits at 0) h.0 h.1, omega (arith, h.0, h.1))
  where
    worth : (c : ℕ) → 48 ≤ c → c ≤ 57 → c - 48 ≡ digit_value c
    worth c low high = grind (arith, common_steps)

pub many_zeros : (n k : ℕ) → n ≢ 0 → 38 < k → 2 ^ 128 ≤ n * 10 ^ k
many_zeros n k some many =
    let power : 10 ^ 39 ≤ 10 ^ k = pow-le-pow_right {n = 10} (omega arith) {i = 39} {j = k} (omega arith) in
    let h : 1 * 10 ^ 39 ≤ n * 10 ^ k = mul-le-mul {n₁ = 1} {m₁ = 10 ^ 39} {n₂ = n} {m₂ = 10 ^ k} (omega arith) power in
    omega arith

pub few_zeros : (k : ℕ) → k ≤ 38 → 10 ^ k < 2 ^ 128
few_zeros k few = omega (arith, pow-le-pow_right {n = 10} (omega arith) {i = k} {j = 38} few)

pub all_split : (xs ys : List ℕ) → AllDigits 10 (xs ++ ys) → AllDigits 10 xs × AllDigits 10 ys
all_split [] ys h = (tt, h)
all_split (x ∷ xs) ys h = let rest = all_split xs ys h.1 in ((h.0, rest.0), rest.1)
