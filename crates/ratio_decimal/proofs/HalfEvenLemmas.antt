-- What `half_even` is, and what it gives for a number with a whole part or a first digit.
use Rattle.std.specs.Prelude.{◌≡◌, ◌*◌, ◌+◌, ◌/◌, ◌%◌, ◌^◌, ◌<◌, ◌≤◌, ◌*ℤ◌, ◌+ℤ◌, ◌-◌, ℕ, zero, suc, pos, Bool, true, false, cond, ltb}
use Rattle.std.proofs.Common.{refl, sym, ap, arith, ◌∙◌, subst, pow-suc, eq-zero-or-pos, inl, inr, ltb-true, ltb-false}
use Rattle.std.proofs.Math.Nat.{div-add-mod', div-lt_iff_lt-mul, mod-lt, mul-add-div_right, mul-add-mod_self_right, mul_assoc, mul_comm, pow-le-pow_right}
use Rattle.std.proofs.lemmas.Int.{ints}
use Rattle.std.proofs.lemmas.Nat.{mul-le}
use Rattle.ratio_integer.specs.Division.{IsMultiple}
use Rattle.ratio_core.specs.Parts.{IsDivided}
use Rattle.ratio_decimal.specs.Precision.{half_even}
use Rattle.ratio_decimal.specs.RoundingRules.{IsRoundedBy}
use Rattle.ratio_decimal.specs.declared.rounding_rule.Rounding.TheVariants.{HalfEven}
use Rattle.ratio_decimal.proofs.RoundingRuleLemmas.{is_odd_number, rises, stays}

-- ---- what it is

-- below a half, above a half, and at a half
pub by_half : (P : ℕ → Type 0) (n d : ℕ) → (n % d + n % d < d → P (n / d)) → (d < n % d + n % d → P (n / d + 1)) → (n % d + n % d ≡ d → P (n / d + n / d % 2)) → P (half_even n d)
unfolding half_even
by_half P n d low high tie = go (ltb (n % d + n % d) d) (ltb d (n % d + n % d)) refl refl
  where
    go : (s t : Bool) → ltb (n % d + n % d) d ≡ s → ltb d (n % d + n % d) ≡ t → P (cond s (n / d) (cond t (n / d + 1) (n / d + n / d % 2)))
    go true t e f = low (ltb-true _ _ e)
    go false true e f = high (ltb-true _ _ f)
    go false false e f = tie (let a = ltb-false _ _ e in let b = ltb-false _ _ f in omega arith)

-- it is n/d by the rule
pub half_even_is : (n d : ℕ) → 0 < d → IsRoundedBy HalfEven (pos n) (pos d) (pos (half_even n d))
half_even_is n d some =
    by_half (λ r. IsRoundedBy HalfEven (pos n) (pos d) (pos r)) n d
    (λ low. stays (pos n) (pos d) (pos (n / d)) (pos (n % d)) is HalfEven (λ up. elim up [ inl h ↦ let k = h in omega (arith, ints) | inr h ↦ let k = h.0 in omega (arith, ints) ]))
    (λ high. rises (pos n) (pos d) (pos (n / d)) (pos (n % d)) is HalfEven (inl (omega (arith, ints))))
    (λ tie. at_half (n / d % 2) refl tie)
  where
    is : IsDivided (pos n) (pos d) (pos (n / d)) (pos (n % d))
    is = let e = div-add-mod' n d in let b = mod-lt n some in record { sum = ap pos (sym e); rest = record { above = omega (arith, ints); below = omega (arith, ints) } }

    at_half : (odd : ℕ) → n / d % 2 ≡ odd → n % d + n % d ≡ d → IsRoundedBy HalfEven (pos n) (pos d) (pos (n / d + odd))
    at_half zero e tie =
        let same : n / d + 0 ≡ n / d = omega arith in
        let even : IsMultiple (pos (n / d)) (pos 2) = (pos (n / d / 2), let h : n / d ≡ n / d / 2 * 2 = omega arith in ap pos h) in
        subst (λ r. IsRoundedBy HalfEven (pos n) (pos d) (pos r)) (sym same)
        (stays (pos n) (pos d) (pos (n / d)) (pos (n % d)) is HalfEven (λ up. elim up [ inl h ↦ let k = h in omega (arith, ints) | inr h ↦ h.1 even ]))
    at_half (suc zero) e tie =
        let odd : pos (n / d) ≡ pos (n / d / 2) *ℤ pos 2 +ℤ pos 1 = let h : n / d ≡ n / d / 2 * 2 + 1 = omega arith in ap pos h in
        rises (pos n) (pos d) (pos (n / d)) (pos (n % d)) is HalfEven (inr (ap pos tie, is_odd_number (pos (n / d)) (pos (n / d / 2)) odd))
    at_half (suc (suc odd)) e tie = absurd (omega arith)

-- ---- an even number more

spread : (q r d p : ℕ) → (q * d + r) * p ≡ q * p * d + r * p
spread q r d p = omega arith

pub more_half_even : (q a d : ℕ) → 0 < d → q % 2 ≡ 0 → half_even (q * d + a) d ≡ q + half_even a d
unfolding half_even
more_half_even q a d some even =
    let whole : (q * d + a) / d ≡ q + a / d = mul-add-div_right {m = d} some q a in
    let rest : (q * d + a) % d ≡ a % d = mul-add-mod_self_right q d a in
    let odd : (q + a / d) % 2 ≡ a / d % 2 = omega arith in
    rw (whole, rest, odd) (shift (ltb (a % d + a % d) d) (ltb d (a % d + a % d)))
  where
    shift : (s t : Bool) → cond s (q + a / d) (cond t (q + a / d + 1) (q + a / d + a / d % 2)) ≡ q + cond s (a / d) (cond t (a / d + 1) (a / d + a / d % 2))
    shift true t = refl
    shift false true = omega arith
    shift false false = omega arith

pub even_power : (q k : ℕ) → 1 ≤ k → (q * 10 ^ k) % 2 ≡ 0
even_power q zero some = absurd (omega arith)
even_power q (suc k) some =
    let product : q * 10 ^ suc k ≡ q * 10 ^ k * 10 = ap (λ x. q * x) (pow-suc 10 k) ∙ sym (mul_assoc q (10 ^ k) 10) in
    omega (arith, product)

-- ---- so many parts of 1 stay fewer

pub wide_power : (k : ℕ) → 39 ≤ k → 2 ^ 128 < 2 * 10 ^ k
wide_power k many = let h : 10 ^ 39 ≤ 10 ^ k = pow-le-pow_right {n = 10} (omega arith) {i = 39} {j = k} many in omega arith

-- at least the floor
pub least_half_even : (n d : ℕ) → n / d ≤ half_even n d
least_half_even n d = by_half (λ r. n / d ≤ r) n d (λ h. omega arith) (λ h. omega arith) (λ h. omega arith)

-- p - 1 times d and a rest of a half or more are above (d - 1) times p
full : (rest d q r : ℕ) → suc rest * suc q ≤ d * suc q → q * d + r ≡ rest * suc q → d ≤ r + r → d < 2 * suc q → ⊥
full rest d q r up is half wide = let same : q * d ≡ d * q = mul_comm q d in omega arith

before_last : (rest d q r p : ℕ) → suc rest * p ≤ d * p → q * d + r ≡ rest * p → d ≤ r + r → d < 2 * p → q < p → q + 1 < p
before_last rest d q r p up is half wide first =
    elim (eq-zero-or-pos (p - suc q)) [
      | inl z ↦ let last : p ≡ suc q = omega arith in
          absurd (full rest d q r (subst (λ x. suc rest * x ≤ d * x) last up) (subst (λ x. q * d + r ≡ rest * x) last is) half (omega arith))
      | inr more ↦ omega arith
    ]

-- rest/d in so many parts is less than all of them, also if it is rounded
pub no_carry : (rest d k : ℕ) → rest < d → d < 2 * 10 ^ k → half_even (rest * 10 ^ k) d < 10 ^ k
no_carry rest d k less wide = below (10 ^ k) wide
  where
    turned : (p : ℕ) → suc rest * p ≤ d * p → d < 2 * p → rest * p < p * d
    turned p up h = let same : p * d ≡ d * p = mul_comm p d in omega arith

    below : (p : ℕ) → d < 2 * p → half_even (rest * p) d < p
    below p h =
        let up : suc rest * p ≤ d * p = mul-le (suc rest) p d p less (omega arith) in
        let cut : (rest * p) / d * d + (rest * p) % d ≡ rest * p = div-add-mod' (rest * p) d in
        let first : rest * p / d < p = (div-lt_iff_lt-mul {k = d} {x = rest * p} {y = p} (omega arith)).1 (turned p up h) in
        let next : d ≤ rest * p % d + rest * p % d → rest * p / d + 1 < p = λ half. before_last rest d (rest * p / d) (rest * p % d) p up cut half h first in
        by_half (λ r. r < p) (rest * p) d (λ low. first) (λ high. next (omega arith)) (λ tie. let more = next (omega arith) in omega arith)

-- ---- parts of a number with a whole part, and of one with a first digit

pub whole_rounded : (n d k : ℕ) → 0 < d → 1 ≤ k → half_even (n * 10 ^ k) d ≡ n / d * 10 ^ k + half_even (n % d * 10 ^ k) d
whole_rounded n d k some more =
    let parts : n ≡ n / d * d + n % d = sym (div-add-mod' n d) in
    ap (λ x. half_even (x * 10 ^ k) d) parts ∙ ap (λ x. half_even x d) (spread (n / d) (n % d) d (10 ^ k)) ∙ more_half_even (n / d * 10 ^ k) (n % d * 10 ^ k) d some (even_power (n / d) k more)

pub digit_rounded : (rest d digit next k : ℕ) → 0 < d → rest * 10 ≡ digit * d + next → 1 ≤ k → half_even (rest * 10 ^ suc k) d ≡ digit * 10 ^ k + half_even (next * 10 ^ k) d
digit_rounded rest d digit next k some sum more =
    let all : rest * 10 ^ suc k ≡ digit * 10 ^ k * d + next * 10 ^ k = ap (λ x. rest * x) (pow-suc 10 k) ∙ turn (10 ^ k) ∙ ap (λ x. x * 10 ^ k) sum ∙ spread digit next d (10 ^ k) in
    ap (λ x. half_even x d) all ∙ more_half_even (digit * 10 ^ k) (next * 10 ^ k) d some (even_power digit k more)
  where
    turn : (p : ℕ) → rest * (p * 10) ≡ rest * 10 * p
    turn p = omega arith
