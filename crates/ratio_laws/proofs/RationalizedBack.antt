-- A fraction in the gap around a float has this float as its nearest one.
use Rattle.std.specs.Prelude.{◌≡◌, ◌≢◌, ◌⊎◌, ◌+◌, ◌-◌, ◌*◌, ◌/◌, ◌%◌, ◌^◌, ◌<◌, ◌≤◌, ◌<ℤ◌, ◌*ℤ◌, ℕ, ℤ, zero, suc, pos, negsuc, neg_ℤ, Bool, true, false, cond, T, Some, eqb, leb, to_bits}
use Rattle.std.specs.Float.{Float, Format, nan, inf, fin}
use Rattle.std.specs.Float.Ieee.{fits, hid, low, neg, of_fields, ones, prec, round, top, up}
use Rattle.std.proofs.Common.{refl, sym, ap, arith, inl, inr, subst, ◌∙◌}
use Rattle.std.proofs.lemmas.Bool.{cases_lt}
use Rattle.std.proofs.lemmas.Int.{ints}
use Rattle.std.proofs.lemmas.Nat.{pow-add, pow_pos}
use Rattle.std.proofs.Math.Nat.{div-add-mod', eq_of_mul-eq-mul_right, le-div_iff_mul-le, lt_of_mul-lt-mul_right, mod-lt, mul-le-mul_right, mul-lt-mul_of_pos_right, mul-pos}
use borrow.Author.Tests.{eq-eqb}
use lib.Ieee.Exact.{HasValue}
use Rattle.core.proofs.num.Values.{neg-round}
use Rattle.core.proofs.dec2flt.RoundingLemmas.{nearest_of_near}
use Rattle.core.specs.Dec2flt.Rounding.{IsNearestBits, IsSignificand, scaled_bits}
use Rattle.ratio_integer.specs.Fraction.{SameValue}
use Rattle.ratio_integer.proofs.LowestTerms.{same_value_chained}
use Rattle.ratio_decimal.specs.FloatLaws.{EndsHaveGreaterDenominators, FloatsLieBetweenEnds, RationalizedComesBack}
use Rattle.ratio_decimal.specs.Floats.{nearest_float}
use Rattle.ratio_core.specs.Signs.{with_sign}
use Rattle.ratio_decimal.specs.Rationalize.{ChecksRationalized, halfway}
use Rattle.ratio_decimal.specs.Rationalizing.{IsGap}
use Rattle.ratio_approximation.specs.Simplest.{IsBetween}
use Rattle.ratio_decimal.proofs.FloatFields.{kept}
use Rattle.ratio_decimal.proofs.FloatLawLemmas.{come_back, exact, other_signs, zero_first}
use Rattle.ratio_core.proofs.SignedNumbers.{with_sign-mul}
use Rattle.ratio_decimal.proofs.GapLemmas.{above_none, back_between}
use Rattle.ratio_decimal.proofs.RationalizeLemmas.{high_end, hid_pos, low_end, IsEnd, not_whole, odd_of, ones_pos, part_place, part_some, two_hid, value_is}
use Rattle.ratio_approximation.proofs.SimplestLawLemmas.{between_same}

-- ---- in quarters of the last place, which are u/4 of the least float over e

-- a fraction over e between two numbers of quarters
scaled_less : (a x e q p c : ℕ) → 0 < p → q * p ≡ 4 * c → a * e < x * q → a * (e * p) < 4 * (x * c)
scaled_less a x e q p c P is less =
    let first : a * e * p < x * q * p = mul-lt-mul_of_pos_right less P in
    let left : a * e * p ≡ a * (e * p) = omega arith in
    let right : x * q * p ≡ 4 * (x * c) = (let r : x * (q * p) ≡ x * (4 * c) = ap (λ y. x * y) is in omega (arith, r)) in
    omega (arith, first, left, right)

scaled_more : (a x e q p c : ℕ) → 0 < p → q * p ≡ 4 * c → x * q < a * e → 4 * (x * c) < a * (e * p)
scaled_more a x e q p c P is less =
    let first : x * q * p < a * e * p = mul-lt-mul_of_pos_right less P in
    let left : a * e * p ≡ a * (e * p) = omega arith in
    let right : x * q * p ≡ 4 * (x * c) = (let r : x * (q * p) ≡ x * (4 * c) = ap (λ y. x * y) is in omega (arith, r)) in
    omega (arith, first, left, right)

module _ (f : Format) (m k l h x e : ℕ) (E : 0 < e) (is : IsSignificand f m k) (gap : IsGap f m k l h)
    (above : l * (e * 2 ^ k) < 4 * (x * 2 ^ low f)) (below : 4 * (x * 2 ^ low f) < h * (e * 2 ^ k)) where
  m_most : m ≤ 2 ^ prec f
  m_most = (let fit = is.fits in omega (arith, fit))

  below' : 2 * (x * 2 ^ low f) < 2 * (m * (e * 2 ^ k)) + e * 2 ^ k
  below' =
      let b : 4 * (x * 2 ^ low f) < (4 * m + 2) * (e * 2 ^ k) = rw (gap.up) at below in
      omega (arith, b)

  even_near : l + 2 ≡ 4 * m → (m ≢ hid f) ⊎ (k ≡ 0) → IsNearestBits f x e (scaled_bits f m k)
  even_near l-is other =
      let u = e * 2 ^ k in
      let all : l * u + 2 * u ≡ 4 * (m * u) = (let t : (l + 2) * u ≡ 4 * m * u = ap (λ y. y * u) l-is in omega (arith, t)) in
      nearest_of_near f x e m k E m_most is.normal (reach all other) (omega (arith, above, all)) below'
    where
      reach : l * (e * 2 ^ k) + 2 * (e * 2 ^ k) ≡ 4 * (m * (e * 2 ^ k)) → (m ≢ hid f) ⊎ (k ≡ 0) → 0 < k → hid f * (e * 2 ^ k) ≤ x * 2 ^ low f
      reach all (inr none) some = absurd (omega (arith, none, some))
      reach all (inl other) some = elim (cases_lt (hid f) m) [
        | inl less ↦
            let more : (hid f + 1) * (e * 2 ^ k) ≤ m * (e * 2 ^ k) = mul-le-mul_right (e * 2 ^ k) (omega (arith, less)) in
            omega (arith, more, all, above)
        | inr more ↦ absurd (other (let n = is.normal some in omega (arith, more, n)))
      ]

  finer_near : l + 1 ≡ 4 * m → m ≡ hid f → 0 < k → IsNearestBits f x e (scaled_bits f m k)
  finer_near l-is least some =
      let u = e * 2 ^ k in
      let all : l * u + u ≡ 4 * (m * u) = (let t : (l + 1) * u ≡ 4 * m * u = ap (λ y. y * u) l-is in omega (arith, t)) in
      elim (cases_lt (x * 2 ^ low f) (hid f * u)) [
        | inr from ↦ nearest_of_near f x e m k E m_most is.normal (λ _. omega (arith, from)) (omega (arith, above, all)) below'
        | inl under ↦
            let back : k ≡ k - 1 + 1 = omega (arith, some) in
            let v = e * 2 ^ (k - 1) in
            let power : 2 ^ k ≡ 2 ^ (k - 1) * 2 = ap (λ y. 2 ^ y) back ∙ pow-add 2 (k - 1) 1 in
            let twice : u ≡ 2 * v = ap (λ y. e * y) power ∙ omega arith in
            let own : m * u ≡ hid f * u = ap (λ y. y * u) least in
            let wide : 2 ^ prec f * v ≡ hid f * u = ap (λ y. y * v) (two_hid f) ∙ omega arith ∙ ap (λ y. hid f * y) (sym twice) in
            let full : hid f * u ≡ 2 * (hid f * v) = ap (λ y. hid f * y) twice ∙ omega arith in
            let rows : k * hid f ≡ (k - 1) * hid f + hid f = ap (λ y. y * hid f) back ∙ omega arith in
            let same : scaled_bits f (2 ^ prec f) (k - 1) ≡ scaled_bits f m k = omega (arith, rows, least, two_hid f) in
            let v_up : 0 < v = mul-pos E (pow_pos (k - 1)) in
            subst (IsNearestBits f x e) same
            (nearest_of_near f x e (2 ^ prec f) (k - 1) E (omega arith) (λ _. omega (arith, two_hid f)) (λ _. omega (arith, above, all, own, full, twice, many v))
            (omega (arith, above, all, own, wide, twice)) (omega (arith, under, wide, v_up)))
      ]
    where
      many : (v : ℕ) → v ≤ hid f * v
      many v = (let t : 1 * v ≤ hid f * v = mul-le-mul_right v (omega (arith, hid_pos f)) in omega (arith, t))

  pub near : IsNearestBits f x e (scaled_bits f m k)
  near = elim gap.down [
    | inl finer ↦ finer_near finer.0 finer.1 finer.2
    | inr even ↦ even_near even.0 even.1
  ]

-- ---- the digits of a finite float and their place

abbrev IsFinite : Float → Type 0
IsFinite nan = ⊥
IsFinite (inf s) = ⊥
IsFinite (fin s m e) = s ≡ s

never_finite : (f : Format) (s : Bool) (e t : ℕ) → e ≡ ones f → 0 < e → ¬ (IsFinite (of_fields f s e t))
unfolding of_fields
never_finite f s zero t is some = absurd (omega (arith, some))
never_finite f s (suc e) t is some = rw (eq-eqb (suc e) (ones f) is) (either (eqb t 0))
  where
    either : (b : Bool) → ¬ (IsFinite (cond b (inf s) nan))
    either true = λ h. h
    either false = λ h. h

top_pos : (f : Format) → 0 < top f
top_pos f = (let h = hid_pos f in omega (arith, h))

under_infinity : (f : Format) (x : Float) → T (fits f x) → IsFinite x → to_bits f x % top f < ones f * hid f
under_infinity f x fit finite = elim (cases_lt (to_bits f x % top f) (ones f * hid f)) [
  | inl less ↦ less
  | inr far ↦
      let b = to_bits f x % top f in
      let e = b / hid f in
      let least : ones f ≤ e = (le-div_iff_mul-le (hid_pos f)).1 far in
      let less : b < top f = mod-lt (to_bits f x) (top_pos f) in
      let split : e * hid f + b % hid f ≡ b = div-add-mod' b (hid f) in
      let most : e < suc (ones f) = lt_of_mul-lt-mul_right (hid f) (omega (arith, less, split)) in
      absurd (never_finite f _ e _ (omega (arith, least, most)) (omega (arith, least, ones_pos f)) (subst IsFinite (kept f x fit) finite))
]

digits_there : (f : Format) (b : ℕ) → (m : ℕ) × (k : ℕ) × (b ≡ k * hid f + m) × IsSignificand f m k
digits_there f b = elim (cases_lt b (hid f)) [
  | inl less ↦ (b, 0, omega arith, record { fits = omega (arith, less, two_hid f); normal = λ some. absurd (omega (arith, some)) })
  | inr more ↦
      let split : b / hid f * hid f + b % hid f ≡ b = div-add-mod' b (hid f) in
      let rest : b % hid f < hid f = mod-lt b (hid_pos f) in
      let one : 1 ≤ b / hid f = (le-div_iff_mul-le (hid_pos f)).1 (omega (arith, more)) in
      let rows : b / hid f * hid f ≡ (b / hid f - 1) * hid f + hid f = ap (λ y. y * hid f) (let e : b / hid f ≡ b / hid f - 1 + 1 = omega (arith, one) in e) ∙ omega arith in
      (hid f + b % hid f, b / hid f - 1, omega (arith, split, rows), record { fits = omega (arith, rest, two_hid f); normal = λ some. omega arith })
]

gap_there : (f : Format) (m k : ℕ) → 0 < m → (l : ℕ) × (h : ℕ) × IsGap f m k l h
gap_there f m k some = elim (cases_lt 0 k) [
  | inr none ↦ even (inr (omega (arith, none)))
  | inl up ↦ elim (cases_lt m (hid f)) [
    | inl less ↦ even (inl (λ e. omega (arith, e, less)))
    | inr more ↦ elim (cases_lt (hid f) m) [
      | inl less ↦ even (inl (λ e. omega (arith, e, less)))
      | inr most ↦ (4 * m - 1, 4 * m + 2, record { up = refl; down = inl (omega (arith, some), omega (arith, more, most), up) })
    ]
  ]
]
  where
    even : (m ≢ hid f) ⊎ (k ≡ 0) → (l : ℕ) × (h : ℕ) × IsGap f m k l h
    even other = (4 * m - 2, 4 * m + 2, record { up = refl; down = inr (omega (arith, some), other) })

-- ---- the float itself lies in its gap, so a fraction there has the same nearest float as the float's own value

same_sides : (f : Format) (s : Bool) (x e y g b : ℕ) → IsNearestBits f x e b → IsNearestBits f y g b → round f s x e ≡ round f s y g
same_sides f false x e y g b first last = sym first.0 ∙ last.0
same_sides f true x e y g b first last = sym (neg-round f x e) ∙ ap neg (sym first.0 ∙ last.0) ∙ neg-round f y g

own_round : (f : Format) (s t : Bool) (c e a : ℕ) → T (fits f (fin s c (negsuc e))) → HasValue (fin s c (negsuc e)) t a (2 ^ low f) → round f s a (2 ^ low f) ≡ fin s c (negsuc e)
own_round f s t zero e a fit is = absurd (let o = odd_of f s 0 e fit in omega (arith, o))
own_round f s t (suc c) e a fit is = exact f s c (negsuc e) a (2 ^ low f) fit (pow_pos (low f)) (sym is.1)

module _ (f : Format) (s : Bool) (c e : ℕ) (fit : T (fits f (fin s c (negsuc e)))) where
  abbrev b : ℕ
  b = to_bits f (fin s c (negsuc e)) % top f

  abbrev digits : (m : ℕ) × (k : ℕ) × (b ≡ k * hid f + m) × IsSignificand f m k
  digits = digits_there f b

  abbrev m : ℕ
  m = digits.0

  abbrev k : ℕ
  k = digits.1

  value : HasValue (fin s c (negsuc e)) (leb (top f) (to_bits f (fin s c (negsuc e)))) (m * 2 ^ k) (2 ^ low f)
  value = value_is f (fin s c (negsuc e)) fit m k digits.2 digits.3 (under_infinity f (fin s c (negsuc e)) fit refl)

  part : m * 2 ^ k % 2 ^ low f ≡ 0 → ⊥
  part = not_whole c e (m * 2 ^ k) (low f) (odd_of f s c e fit) value.1

  place : k < low f
  place = part_place m k (low f) part

  some : 0 < m
  some = part_some m k (low f) part

  abbrev gap : (l : ℕ) × (h : ℕ) × IsGap f m k l h
  gap = gap_there f m k some

  low_is : IsEnd gap.0 (2 ^ (low f - k + 2)) (halfway f (b - 1))
  low_is = low_end f b m k digits.2 digits.3 some place gap.0 gap.1 gap.2

  high_is : IsEnd gap.1 (2 ^ (low f - k + 2)) (halfway f b)
  high_is = high_end f b m k digits.2 digits.3 some place gap.0 gap.1 gap.2

  power : 2 ^ (low f - k + 2) * 2 ^ k ≡ 4 * 2 ^ low f
  power =
      let sum : low f - k + 2 + k ≡ low f + 2 = omega (arith, place) in
      sym (pow-add 2 (low f - k + 2) k) ∙ ap (λ y. 2 ^ y) sum ∙ pow-add 2 (low f) 2 ∙ omega arith

  own_bits : IsNearestBits f (m * 2 ^ k) (2 ^ low f) (scaled_bits f m k)
  own_bits =
      let all : 4 * (m * 2 ^ k * 2 ^ low f) ≡ 4 * m * (2 ^ low f * 2 ^ k) = grind arith in
      let up = mul-pos (pow_pos (low f)) (pow_pos k) in
      near f m k gap.0 gap.1 (m * 2 ^ k) (2 ^ low f) (pow_pos (low f)) digits.3 gap.2
      (rw all (mul-lt-mul_of_pos_right (under gap.2.down) up))
      (rw all (mul-lt-mul_of_pos_right (over gap.2.up) up))
    where
      under : ((gap.0 + 1 ≡ 4 * m) × (m ≡ hid f) × (0 < k)) ⊎ ((gap.0 + 2 ≡ 4 * m) × ((m ≢ hid f) ⊎ (k ≡ 0))) → gap.0 < 4 * m
      under (inl h) = (let e = h.0 in omega (arith, e))
      under (inr h) = (let e = h.0 in omega (arith, e))

      over : gap.1 ≡ 4 * m + 2 → 4 * m < gap.1
      over e = omega (arith, e)

  inside_bits : (x g : ℕ) → IsBetween (pos gap.0) (pos (2 ^ (low f - k + 2))) (pos gap.1) (pos (2 ^ (low f - k + 2))) (pos x) (pos g) → IsNearestBits f x g (scaled_bits f m k)
  inside_bits x g is =
      let above : gap.0 * g < x * 2 ^ (low f - k + 2) = (let h = is.above in omega (arith, ints, h)) in
      let below : x * 2 ^ (low f - k + 2) < gap.1 * g = (let h = is.below in omega (arith, ints, h)) in
      near f m k gap.0 gap.1 x g (let h = is.positive in omega (arith, ints, h)) digits.3 gap.2
      (scaled_less gap.0 x g (2 ^ (low f - k + 2)) (2 ^ k) (2 ^ low f) (pow_pos k) power above)
      (scaled_more gap.1 x g (2 ^ (low f - k + 2)) (2 ^ k) (2 ^ low f) (pow_pos k) power below)

  some_power : pos 0 <ℤ pos (2 ^ (low f - k + 2))
  some_power = (let p = pow_pos (low f - k + 2) in omega (arith, ints, p))

  inside : (n d : ℤ) → IsBetween (halfway f (b - 1)).0 (halfway f (b - 1)).1 (halfway f b).0 (halfway f b).1 n d
      → IsBetween (pos gap.0) (pos (2 ^ (low f - k + 2))) (pos gap.1) (pos (2 ^ (low f - k + 2))) n d
  inside n d is = between_same _ _ _ _ _ _ _ _ n d low_is.positive high_is.positive some_power some_power (sym low_is.same) (sym high_is.same) is

  -- the size x/g of the fraction, on the float's side of 0
  rounded : (x g : ℕ) → IsBetween (pos gap.0) (pos (2 ^ (low f - k + 2))) (pos gap.1) (pos (2 ^ (low f - k + 2))) (pos x) (pos g) → round f s x g ≡ fin s c (negsuc e)
  rounded x g is = same_sides f s x g (m * 2 ^ k) (2 ^ low f) (scaled_bits f m k) (inside_bits x g is) own_bits ∙ own_round f s _ c e (m * 2 ^ k) fit value

  by_size : (n d : ℤ) → IsBetween (pos gap.0) (pos (2 ^ (low f - k + 2))) (pos gap.1) (pos (2 ^ (low f - k + 2))) n d
      → (x : ℕ) × (g : ℕ) × (n ≡ pos (suc x)) × (d ≡ pos g) × (round f s (suc x) g ≡ fin s c (negsuc e))
  by_size n (negsuc d) is = absurd (let h = is.positive in omega (arith, ints, h))
  by_size n (pos d) is =
      let n-is = above_none n gap.0 (2 ^ (low f - k + 2)) d is.above in
      (n-is.0, d, n-is.1, refl, rounded (suc n-is.0) d (subst (λ y. IsBetween (pos gap.0) (pos (2 ^ (low f - k + 2))) (pos gap.1) (pos (2 ^ (low f - k + 2))) y (pos d)) n-is.1 is))

-- ---- the law

part_back : (f : Format) (s : Bool) (c e : ℕ) (lo hi n d : ℤ) → T (fits f (fin s c (negsuc e))) → ChecksRationalized (λ z. z) lo hi f (fin s c (negsuc e)) (Some (n, d)) → nearest_float f n d ≡ fin s c (negsuc e)
part_back f false c e lo hi n d fit is =
    let h = by_size f false c e fit n d (inside f false c e fit n d is.between) in
    straight h.2 h.3 h.4
  where
    straight : {n d : ℤ} {x g : ℕ} → n ≡ pos (suc x) → d ≡ pos g → round f false (suc x) g ≡ fin false c (negsuc e) → nearest_float f n d ≡ fin false c (negsuc e)
    straight n-is d-is is = rw (n-is, d-is) is
part_back f true c e lo hi n d fit is =
    let h = by_size f true c e fit (neg_ℤ n) d (inside f true c e fit (neg_ℤ n) d (back_between _ _ _ _ n d is.between)) in
    turned n h.0 h.2 h.3 h.4
  where
    turned : (n : ℤ) (x : ℕ) → neg_ℤ n ≡ pos (suc x) → {g : ℕ} → d ≡ pos g → round f true (suc x) g ≡ fin true c (negsuc e) → nearest_float f n d ≡ fin true c (negsuc e)
    turned (pos zero) x n-is d-is is = absurd (omega (arith, ints, n-is))
    turned (pos (suc n)) x n-is d-is is = absurd (omega (arith, ints, n-is))
    turned (negsuc n) x n-is d-is is = (let e : n ≡ x = omega (arith, ints, n-is) in rw (e, d-is) is)

nothing : (s : Bool) (z : ℕ) → with_sign s (0 * z) ≡ pos 0
nothing s z = ap (with_sign s) (let e : 0 * z ≡ 0 = omega arith in e) ∙ none s
  where
    none : (s : Bool) → with_sign s 0 ≡ pos 0
    none false = refl
    none true = refl

zero_back : (f : Format) (s : Bool) (e : ℕ) (n d : ℤ) → pos 0 <ℤ d → (with_sign s (0 * up (pos e)) *ℤ d) ≡ (n *ℤ pos 1) → nearest_float f n d ≡ fin false 0 (pos 0)
zero_back f s e n d above is =
    let n-is : n ≡ pos 0 = (let h : (pos 0 *ℤ d) ≡ (n *ℤ pos 1) = rw (nothing s (up (pos e))) at is in omega (arith, ints, h)) in
    rw n-is (zero_first f d above)

pub rationalized_back : RationalizedComesBack
rationalized_back f s k (pos e) lo hi n d fit is =
    (λ some. come_back f s k (pos e) n d fit some is.terms.lowest.positive (sym is.terms.same), λ none. zeros none)
  where
    zeros : k ≡ 0 → nearest_float f n d ≡ fin false 0 (pos 0)
    zeros none = zero_back f s e n d is.terms.lowest.positive (rw none at is.terms.same)
rationalized_back f s zero (negsuc e) lo hi n d fit is = absurd (let o = odd_of f s 0 e fit in omega (arith, o))
rationalized_back f s (suc k) (negsuc e) lo hi n d fit is = (λ some. part_back f s (suc k) e lo hi n d fit is, λ none. absurd (omega (arith, none)))

-- ---- the ends of the gap

-- an odd number over 2^j has no smaller denominator
power_least : (j a o g : ℕ) → o % 2 ≡ 1 → a * 2 ^ j ≡ o * g → 0 < g → 2 ^ j ≤ g
power_least zero a o g odd is some = omega (arith, some)
power_least (suc j) a o g odd is some =
    let p : 2 ^ suc j ≡ 2 * 2 ^ j = (let q : suc j ≡ j + 1 = omega arith in ap (λ x. 2 ^ x) q ∙ pow-add 2 j 1 ∙ omega arith) in
    let w : ℕ = o / 2 in
    let o-is : o ≡ 2 * w + 1 = omega (arith, odd) in
    let all : a * (2 * 2 ^ j) ≡ (2 * w + 1) * g = ap (λ x. a * x) (sym p) ∙ is ∙ ap (λ x. x * g) o-is in
    let g' : ℕ = g / 2 in
    let g-is : g ≡ 2 * g' = omega (arith, all) in
    let half : a * 2 ^ j ≡ o * g' = (let h : a * 2 ^ j * 2 ≡ o * (2 * g') = omega arith ∙ ap (λ x. a * x) (sym p) ∙ is ∙ ap (λ x. o * x) g-is in omega (arith, h)) in
    let less = power_least j a o g' odd half (omega (arith, g-is, some)) in
    omega (arith, less, p, g-is)

module _ (f : Format) (s : Bool) (c e : ℕ) (fit : T (fits f (fin s c (negsuc e)))) where
  abbrev l : ℕ
  l = low f - k f s c e fit

  own_size : c * 2 ^ l ≡ m f s c e fit * 2 ^ suc e
  own_size =
      let split : 2 ^ low f ≡ 2 ^ l * 2 ^ k f s c e fit = (let q : low f ≡ l + k f s c e fit = omega (arith, place f s c e fit) in ap (λ x. 2 ^ x) q ∙ pow-add 2 l (k f s c e fit)) in
      let is : c * 1 * 2 ^ low f ≡ m f s c e fit * 2 ^ k f s c e fit * 2 ^ suc e = (value f s c e fit).1 in
      let first : c * 2 ^ l * 2 ^ k f s c e fit ≡ c * 1 * 2 ^ low f = omega (arith, ap (λ x. c * x) split) in
      let last : m f s c e fit * 2 ^ k f s c e fit * 2 ^ suc e ≡ m f s c e fit * 2 ^ suc e * 2 ^ k f s c e fit = grind arith in
      eq_of_mul-eq-mul_right (2 ^ k f s c e fit) (pow_pos (k f s c e fit)) _ _ (first ∙ is ∙ last)

  -- the denominator of the float itself
  own_least : 2 ^ suc e ≤ 2 ^ l
  own_least = power_least (suc e) (m f s c e fit) c (2 ^ l) (odd_of f s c e fit) (sym own_size) (pow_pos l)

  even_end : (o x g : ℕ) → o % 2 ≡ 1 → 2 * o * g ≡ x * 2 ^ (l + 2) → 0 < g → 2 ^ suc e < g
  even_end o x g odd is some =
      let p : 2 ^ (l + 2) ≡ 2 ^ (l + 1) * 2 = (let q : l + 2 ≡ l + 1 + 1 = omega arith in ap (λ y. 2 ^ y) q ∙ pow-add 2 (l + 1) 1) in
      let half : x * 2 ^ (l + 1) ≡ o * g = (let h : 2 * o * g ≡ x * (2 ^ (l + 1) * 2) = is ∙ ap (λ y. x * y) p in omega (arith, h)) in
      let least = power_least (l + 1) x o g odd half some in
      omega (arith, least, own_least, pow-add 2 l 1, pow_pos l)

  finer_end : (o x g : ℕ) → o % 2 ≡ 1 → o * g ≡ x * 2 ^ (l + 2) → 0 < g → 2 ^ suc e < g
  finer_end o x g odd is some =
      let least = power_least (l + 2) x o g odd (sym is) some in
      omega (arith, least, own_least, pow-add 2 l 2, pow_pos l)

  low_less : (x g : ℕ) → (gap f s c e fit).0 * g ≡ x * 2 ^ (l + 2) → 0 < g → 2 ^ suc e < g
  low_less x g is some' = by (gap f s c e fit).0 (gap f s c e fit).2.down is
    where
      by : (q : ℕ) → ((q + 1 ≡ 4 * m f s c e fit) × (m f s c e fit ≡ hid f) × (0 < k f s c e fit)) ⊎ ((q + 2 ≡ 4 * m f s c e fit) × ((m f s c e fit ≢ hid f) ⊎ (k f s c e fit ≡ 0))) → q * g ≡ x * 2 ^ (l + 2) → 2 ^ suc e < g
      by q (inl h) is = (let e' = h.0 in finer_end q x g (omega (arith, e')) is some')
      by q (inr h) is =
          let e' = h.0 in
          let q-is : q ≡ 2 * (2 * m f s c e fit - 1) = omega (arith, e') in
          even_end (2 * m f s c e fit - 1) x g (omega (arith, some f s c e fit)) (ap (λ y. y * g) (sym q-is) ∙ is) some'

  high_less : (x g : ℕ) → (gap f s c e fit).1 * g ≡ x * 2 ^ (l + 2) → 0 < g → 2 ^ suc e < g
  high_less x g is some' =
      let q-is : (gap f s c e fit).1 ≡ 2 * (2 * m f s c e fit + 1) = (let u = (gap f s c e fit).2.up in omega (arith, u)) in
      even_end (2 * m f s c e fit + 1) x g (omega arith) (ap (λ y. y * g) (sym q-is) ∙ is) some'

  by_end : (q : ℕ) (h : ℤ × ℤ) (a d : ℤ) → IsEnd q (2 ^ (l + 2)) h → ((x g : ℕ) → q * g ≡ x * 2 ^ (l + 2) → 0 < g → 2 ^ suc e < g) → pos 0 <ℤ d → SameValue a d h.0 h.1 → pos (2 ^ suc e) <ℤ d
  by_end q h a (negsuc g) end less above is = absurd (omega (arith, ints, above))
  by_end q h a (pos g) end less above is = sizes a (same_value_chained (pos q) (pos (2 ^ (l + 2))) h.0 h.1 a (pos g) (nonzero h.1 end.positive) end.same (sym is))
    where
      nonzero : (z : ℤ) → pos 0 <ℤ z → z ≢ pos 0
      nonzero z up is = omega (arith, ints, up, is)

      sizes : (a : ℤ) → SameValue (pos q) (pos (2 ^ (l + 2))) a (pos g) → pos (2 ^ suc e) <ℤ pos g
      sizes (pos x) same = (let some' : 0 < g = omega (arith, ints, above) in let h = less x g (let s' = same in omega (arith, ints, s')) some' in omega (arith, ints, h))
      sizes (negsuc x) same = absurd (other_signs (q * g) (suc x * 2 ^ (l + 2)) (mul-pos (omega arith) (pow_pos (l + 2))) (same ∙ with_sign-mul true (suc x) (2 ^ (l + 2))))

module _ (f : Format) (s : Bool) (c e : ℕ) (fit : T (fits f (fin s c (negsuc e)))) where
  in_quarters : c * 2 ^ (l f s c e fit + 2) ≡ 4 * m f s c e fit * 2 ^ suc e
  in_quarters =
      let power : c * 2 ^ (l f s c e fit + 2) ≡ 4 * (c * 2 ^ l f s c e fit) = ap (λ y. c * y) (pow-add 2 (l f s c e fit) 2) ∙ omega arith in
      power ∙ ap (λ y. 4 * y) (own_size f s c e fit) ∙ omega arith

  own_inside : IsBetween (pos (gap f s c e fit).0) (pos (2 ^ (l f s c e fit + 2))) (pos (gap f s c e fit).1) (pos (2 ^ (l f s c e fit + 2))) (pos c) (pos (2 ^ suc e))
  own_inside =
      let under : (gap f s c e fit).0 * 2 ^ suc e < 4 * m f s c e fit * 2 ^ suc e = mul-lt-mul_of_pos_right (below (gap f s c e fit).0 (gap f s c e fit).2.down) (pow_pos (suc e)) in
      let over : 4 * m f s c e fit * 2 ^ suc e < (gap f s c e fit).1 * 2 ^ suc e = mul-lt-mul_of_pos_right (let u = (gap f s c e fit).2.up in omega (arith, u)) (pow_pos (suc e)) in
      record {
        positive = (let p = pow_pos (suc e) in omega (arith, ints, p));
        above = (let q = in_quarters in omega (arith, ints, under, q));
        below = (let q = in_quarters in omega (arith, ints, over, q));
      }
    where
      below : (q : ℕ) → ((q + 1 ≡ 4 * m f s c e fit) × (m f s c e fit ≡ hid f) × (0 < k f s c e fit)) ⊎ ((q + 2 ≡ 4 * m f s c e fit) × ((m f s c e fit ≢ hid f) ⊎ (k f s c e fit ≡ 0))) → q < 4 * m f s c e fit
      below q (inl h) = (let e' = h.0 in omega (arith, e'))
      below q (inr h) = (let e' = h.0 in omega (arith, e'))

pub floats_between : FloatsLieBetweenEnds
floats_between f s c e fit =
    let lower = low_is f s c e fit in
    let upper = high_is f s c e fit in
    between_same _ _ _ _ _ _ _ _ (pos c) (pos (2 ^ suc e)) (some_power f s c e fit) (some_power f s c e fit) lower.positive upper.positive lower.same upper.same (own_inside f s c e fit)

pub ends_greater : EndsHaveGreaterDenominators
ends_greater f s c e a d fit above (inl is) = by_end f s c e fit _ _ a d (low_is f s c e fit) (low_less f s c e fit) above is
ends_greater f s c e a d fit above (inr is) = by_end f s c e fit _ _ a d (high_is f s c e fit) (high_less f s c e fit) above is
