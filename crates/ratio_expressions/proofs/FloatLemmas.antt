-- Floats, and the decimals that read back as they are.
use Rattle.std.specs.Prelude.{◌≡◌, ◌≢◌, ◌+◌, ◌-◌, ◌*◌, ◌%◌, ◌^◌, ◌<◌, ◌≤◌, ◌<ℤ◌, ◌*ℤ◌, ◌↔◌, ◌&&◌, ◌||◌, ℕ, ℤ, zero, suc, pos, negsuc, neg_ℤ, unsigned_abs, Bool, true, false, IsTrue, T, eqb, ltb, leb}
use Rattle.std.specs.Bool.{passes}
use Rattle.std.specs.Float.{Float, binary64, nan, inf, fin}
use Rattle.std.specs.Float.Ieee.{down, emax, eq, fits, low, prec, up}
use Rattle.std.proofs.Common.{refl, sym, subst, ap, arith, inl, inr, ◌∙◌}
use Rattle.std.proofs.lemmas.Int.{ints}
use Rattle.std.proofs.lemmas.Nat.{mul-pow, pow-add}
use Rattle.std.proofs.Math.Nat.{dvd-one, eq-zero-or-pos, mul_assoc, pow-suc}
use lib.Dec.{eqb_refl, eqb→eq, leb→le}
use lib.Ieee.Bits.{is_true}
use lib.Ieee.Fits.{and_i, and_l, and_r, down_pos, eq→eqb, round-fits}
use lib.Pow.{pow_mono, pow_pos}
use Rattle.ratio_integer.specs.Fraction.{IsLowestTermsOf}
use Rattle.ratio_integer.proofs.LowestTerms.{lowest_own}
use Rattle.ratio_integer.proofs.Whole as whole
use Rattle.ratio_core.specs.Power.{power_of}
use Rattle.ratio_core.specs.Signs.{with_sign}
use Rattle.ratio_core.proofs.SignedNumbers.{with_sign-mul}
use Rattle.ratio_decimal.specs.RoundingRules.{IsRoundedBy, IsRoundedToEven}
use Rattle.ratio_decimal.specs.declared.rounding_rule.Rounding.TheVariants.{HalfEven}
use Rattle.ratio_decimal.proofs.RoundingRuleLaws.{one_by, same_by}
use Rattle.ratio_decimal.specs.Floats.{fraction_of_float, nearest_float}
use Rattle.ratio_decimal.proofs.FloatLawLemmas.{come_back, value_only, zero_first}
use Rattle.num_rational.proofs.SplitLemmas.{times-one}
use Rattle.ratio_big.specs.Multiples.{IsMultipleBy}
use Rattle.ratio_big.specs.Values.{HasTerms}
use Rattle.ratio_expressions.proofs.CallLaws.{same_terms}
use Rattle.ratio_expressions.specs.Floats.{FloatReadsBack, IsFewestPlaces}
use Rattle.ratio_expressions.proofs.WholeLemmas.{tens_some}

-- 10^places as a whole number
abbrev pub tens : ℕ → ℤ
tens places = pos (10 ^ places)

tens_above : (places : ℕ) → pos 0 <ℤ tens places
tens_above places = omega (arith, ints, tens_some places)

-- ---- 1 at the last of so many places

one_power : (k : ℕ) → 1 ^ k ≡ 1
one_power zero = refl
one_power (suc k) = pow-suc 1 k ∙ omega (arith, one_power k)

power_is : (k : ℕ) → power_of (pos 10) (pos 1) (neg_ℤ (pos k)) ≡ (pos 1, tens k)
power_is zero = refl
power_is (suc k) = ap (λ (n : ℕ). let p : ℤ × ℤ = (pos n, tens (suc k)) in p) (one_power (suc k))

lowest_tenth : (k : ℕ) → IsLowestTermsOf (pos 1) (tens k) (pos 1) (tens k)
lowest_tenth k = lowest_own (pos 1) (tens k) (record { positive = tens_above k; only_one = λ n first second. dvd-one.0 first })

pub last_place_is : (k : ℕ) (e : ℤ) (x r : ℤ × ℤ) → e ≡ neg_ℤ (pos k) → x ≡ (pos 10, pos 1) → HasTerms (power_of x.0 x.1 e) r → r ≡ (pos 1, pos (10 ^ k))
last_place_is k e x r is ten terms =
    let z : ℤ × ℤ = (pos 1, tens k) in
    let same : power_of x.0 x.1 e ≡ z = ap (λ (y : ℤ × ℤ). power_of y.0 y.1 e) ten ∙ ap (power_of (pos 10) (pos 1)) is ∙ power_is k in
    same_terms z r z (subst (λ (y : ℤ × ℤ). HasTerms y r) same terms) (lowest_tenth k)

-- ---- the value of a float with so many places

value_above : (x : Float) → (fraction_of_float x).1 ≢ pos 0 → pos 0 <ℤ (fraction_of_float x).1
value_above nan some = absurd (some refl)
value_above (inf s) some = absurd (some refl)
value_above (fin s m e) some = omega (arith, ints, down_pos e)

module _ (x : Float) (places : ℕ) (value near : ℤ × ℤ) (exact : HasTerms (fraction_of_float x) value) (by : IsMultipleBy HalfEven value (pos 1, pos (10 ^ places)) near) where
  abbrev v : ℤ × ℤ
  v = fraction_of_float x

  crossed : (value.0 *ℤ tens places) *ℤ v.1 ≡ (v.0 *ℤ tens places) *ℤ (value.1 *ℤ pos 1)
  crossed =
      whole.mul-swap_last value.0 (tens places) v.1
      ∙ sym (whole.mul_assoc value.0 v.1 (tens places))
      ∙ ap (λ (z : ℤ). z *ℤ tens places) (sym exact.same)
      ∙ whole.mul_assoc v.0 value.1 (tens places)
      ∙ sym (whole.mul-swap_last v.0 (tens places) value.1)
      ∙ ap (λ (z : ℤ). (v.0 *ℤ tens places) *ℤ z) (sym (times-one value.1))

  rounded : IsRoundedBy HalfEven (v.0 *ℤ tens places) v.1 by.count
  rounded =
      let above : pos 0 <ℤ (value.1 *ℤ pos 1) = subst (λ (z : ℤ). pos 0 <ℤ z) (sym (times-one value.1)) exact.lowest.positive in
      same_by HalfEven (value.0 *ℤ tens places) (value.1 *ℤ pos 1) (v.0 *ℤ tens places) v.1 by.count above (value_above x exact.fraction) crossed by.rounded

  nearest : nearest_float binary64 near.0 near.1 ≡ nearest_float binary64 by.count (tens places)
  nearest =
      value_only binary64 near.0 near.1 by.count (tens places) by.terms.lowest.positive (tens_above places) (sym by.terms.same ∙ ap (λ (z : ℤ). z *ℤ near.1) (times-one by.count))

  -- the test says whether the float reads back
  pub reads_back_is : (r : Bool) → r ≡ eq (nearest_float binary64 near.0 near.1) x → IsTrue r ↔ FloatReadsBack x places
  reads_back_is r is = (
    λ yes. record { multiple = by.count; rounded = rounded; nearest = subst (λ (y : Float). T (eq y x)) nearest (passes _ (sym is ∙ yes)) },
    λ back.
        let one : back.multiple ≡ by.count = one_by HalfEven (v.0 *ℤ tens places) v.1 back.multiple by.count (value_above x exact.fraction) back.rounded rounded in
        is ∙ ap (λ (y : Float). eq y x) (nearest ∙ ap (λ (z : ℤ). nearest_float binary64 z (tens places)) (sym one)) ∙ is_true _ back.nearest,
  )

-- ---- each float reads back with as many places as the least one has

whole_to_even : (z : ℤ) → IsRoundedToEven z (pos 1) z
whole_to_even z = record {
  near = record { above = omega (arith, ints); below = omega (arith, ints) };
  even = λ s h. inl (omega (arith, ints, h.above, h.below));
}

pub exact_to_even : (n d t z : ℤ) → pos 0 <ℤ d → z *ℤ d ≡ n *ℤ t → IsRoundedBy HalfEven (n *ℤ t) d z
exact_to_even n d t z above is = same_by HalfEven z (pos 1) (n *ℤ t) d z (omega (arith, ints)) above (is ∙ sym (times-one (n *ℤ t))) (whole_to_even z)

few_twos : (i k : ℕ) → 2 ^ i ≤ 2 ^ k → i ≤ k
few_twos i k less = elim (eq-zero-or-pos (i - k)) [
  | inl z ↦ omega arith
  | inr p ↦ (let more : 2 ^ (k + 1) ≤ 2 ^ i = pow_mono (omega arith) in absurd (omega (arith, less, more, pow-add 2 k 1, pow_pos k)))
]

-- a number of times the denominator is a power of ten
tens_over : (k : ℕ) (e : ℤ) → down e ≤ 2 ^ k → (c : ℕ) × (c * down e ≡ 10 ^ k)
tens_over k (pos i) few = (10 ^ k, omega arith)
tens_over k (negsuc i) few =
    let all : k - suc i + suc i ≡ k = omega (arith, few_twos (suc i) k few) in
    (5 ^ k * 2 ^ (k - suc i), mul_assoc (5 ^ k) (2 ^ (k - suc i)) (2 ^ suc i) ∙ ap (λ p. 5 ^ k * p) (sym (pow-add 2 (k - suc i) (suc i)) ∙ ap (λ j. 2 ^ j) all) ∙ sym (mul-pow 5 2 k))

few_twos_below : (s : Bool) (m : ℕ) (e : ℤ) → T (fits binary64 (fin s (suc m) e)) → down e ≤ 2 ^ low binary64
unfolding fits
few_twos_below s m e fit =
    let odd = eqb (suc m % 2) 1 in
    let short = ltb (suc m) (2 ^ prec binary64) in
    let high = leb (down e) (2 ^ low binary64) in
    let below = ltb (suc m * up e) (2 ^ suc (emax binary64) * down e) in
    leb→le _ _ (and_r (odd && short) high (and_l (odd && short && high) below fit))

one_over : (s : Bool) (e : ℤ) → T (fits binary64 (fin s zero e)) → down e ≤ 1
unfolding fits
one_over s (pos i) fit = omega arith
one_over s (negsuc i) fit = omega (arith, eqb→eq (1 * 2 ^ suc i) 1 fit)

same_float : (s : Bool) (m : ℕ) (e : ℤ) → T (eq (fin s m e) (fin s m e))
unfolding eq
same_float true m e = and_i (eqb (m * up e * down e) (m * up e * down e)) true (eqb_refl (m * up e * down e)) tt
same_float false m e = and_i (eqb (m * up e * down e) (m * up e * down e)) true (eqb_refl (m * up e * down e)) tt

or_right : (a b : Bool) → T b → T (a || b)
or_right true b h = tt
or_right false b h = h

same_zeros : (s : Bool) (e : ℤ) → T (eq (fin false 0 (pos 0)) (fin s 0 e))
unfolding eq
same_zeros s e = and_i (eqb (0 * 1 * down e) (0 * up e * 1)) _ (eq→eqb (omega arith)) (or_right _ (eqb (0 * 1 * down e) 0) (eq→eqb (omega arith)))

no_size : (s : Bool) (u c : ℕ) → with_sign s (0 * u * c) ≡ pos 0
no_size true u c = let none : 0 * u * c ≡ 0 = omega arith in ap (λ n. neg_ℤ (pos n)) none
no_size false u c = let none : 0 * u * c ≡ 0 = omega arith in ap (λ n. pos n) none

module _ (s : Bool) (m : ℕ) (e : ℤ) (k c : ℕ) (over : c * down e ≡ 10 ^ k) where
  abbrev parts : ℤ
  parts = with_sign s (m * up e * c)

  exact : parts *ℤ pos (down e) ≡ with_sign s (m * up e) *ℤ tens k
  exact =
      with_sign-mul s (m * up e * c) (down e)
      ∙ ap (with_sign s) (mul_assoc (m * up e) c (down e) ∙ ap (λ n. m * up e * n) over)
      ∙ sym (with_sign-mul s (m * up e) (10 ^ k))

  with_all_places : T (eq (nearest_float binary64 parts (tens k)) (fin s m e)) → FloatReadsBack (fin s m e) k
  with_all_places same = record { multiple = parts; rounded = exact_to_even (with_sign s (m * up e)) (pos (down e)) (tens k) parts (omega (arith, ints, down_pos e)) exact; nearest = same }

module _ (s : Bool) (e : ℤ) (k c : ℕ) (over : c * down e ≡ 10 ^ k) where
  pub zero_reads_back : FloatReadsBack (fin s 0 e) k
  zero_reads_back =
      let zero_is : nearest_float binary64 (parts s 0 e k c over) (tens k) ≡ fin false 0 (pos 0) = ap (λ (z : ℤ). nearest_float binary64 z (tens k)) (no_size s (up e) c) ∙ zero_first binary64 (tens k) (tens_above k) in
      with_all_places s 0 e k c over (subst (λ (y : Float). T (eq y (fin s 0 e))) (sym zero_is) (same_zeros s e))

finite_reads_back : (s : Bool) (m : ℕ) (e : ℤ) → T (fits binary64 (fin s m e)) → FloatReadsBack (fin s m e) 1074
finite_reads_back s zero e fit =
    let over : (c : ℕ) × (c * down e ≡ 10 ^ 1074) = tens_over 1074 e (let one = one_over s e fit in omega (arith, one, pow_pos 1074)) in
    zero_reads_back s e 1074 over.0 over.1
finite_reads_back s (suc m) e fit =
    let over : (c : ℕ) × (c * down e ≡ 10 ^ 1074) = tens_over 1074 e (few_twos_below s m e fit) in
    let back = come_back binary64 s (suc m) e (parts s (suc m) e 1074 over.0 over.1) (tens 1074) fit (omega arith) (tens_above 1074) (exact s (suc m) e 1074 over.0 over.1) in
    with_all_places s (suc m) e 1074 over.0 over.1 (subst (λ (y : Float). T (eq y (fin s (suc m) e))) (sym back) (same_float s (suc m) e))

-- a nearest float that has a value reads back with all places
pub last_reads_back : (n d : ℤ) (x : Float) → x ≡ nearest_float binary64 n d → (fraction_of_float x).1 ≢ pos 0 → FloatReadsBack x 1074
last_reads_back n d x is some = go x (subst (λ (y : Float). T (fits binary64 y)) (sym is) (nearest_fits n)) some
  where
    nearest_fits : (n : ℤ) → T (fits binary64 (nearest_float binary64 n d))
    nearest_fits (pos m) = round-fits binary64 false m (unsigned_abs d)
    nearest_fits (negsuc m) = round-fits binary64 true (suc m) (unsigned_abs d)

    go : (y : Float) → T (fits binary64 y) → (fraction_of_float y).1 ≢ pos 0 → FloatReadsBack y 1074
    go nan fit some = absurd (some refl)
    go (inf s) fit some = absurd (some refl)
    go (fin s m e) fit some = finite_reads_back s m e fit

-- the places that were tried first do not do, and these do
pub fewest_given : (x : Float) (places : ℕ) → ((k : ℕ) → k < places → FloatReadsBack x k → ⊥) → FloatReadsBack x places → IsFewestPlaces x places
fewest_given x places none back = record {
  reads_back = back;
  fewest = λ k other. elim (eq-zero-or-pos (places - k)) [ inl z ↦ omega arith | inr p ↦ absurd (none k (omega arith) other) ];
}
