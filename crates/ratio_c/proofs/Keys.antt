-- Keys: their order, by the order of floats.
use Rattle.std.specs.Prelude.{◌≡◌, ◌≢◌, ◌+◌, ◌-◌, ◌*◌, ◌/◌, ◌%◌, ◌^◌, ◌<◌, ◌≤◌, ◌<ℤ◌, ◌≤ℤ◌, ◌*ℤ◌, ℕ, ℤ, zero, suc, pos, negsuc, false, true, to_bits, from_bits}
use Rattle.std.specs.Float.{Float, nan, inf, fin, binary64, float_with_sign, is_sign_negative, NotNan, ◌<ᶠ◌}
use Rattle.std.specs.Float.Ieee.{lt, neg, round, is_nan}
use Rattle.std.proofs.Common.{ap, arith, inl, inr, refl, subst, sym, ◌∙◌}
use Rattle.std.proofs.Math.Nat.{div-add-mod', eq-zero-or-pos, le-mul_of_pos_right, mul-le-mul_left, mul-le-mul_right, mul-lt-mul_of_pos_right, pow-le-pow_right, pow-suc}
use Rattle.std.proofs.lemmas.Int.{ints}
use Rattle.std.proofs.lemmas.Nat.{pow_pos}
use borrow.Author.Tests.{eqb-false, lt-ltb, ltb-false}
use lib.Ieee.Bits.{is_false, nan_bits_above, nan_bits_is, of_bits-to_bits, to_bits-lt}
use lib.Ieee.Exact.{HasValue}
use lib.Ieee.Fits.{round-fits}
use Rattle.core.specs.Float.Order.{le_left, lt_at, lt_irrefl, lt_of_le_of_lt, lt_of_lt_of_le}
use Rattle.core.proofs.dec2flt.Patterns.{field_units, infinite, of_bits_value}
use Rattle.core.proofs.num.FloatSigns.{sign_bit, signed_round, zero_is}
use Rattle.core.proofs.num.Values.{neg-round}
use Rattle.ratio_decimal.specs.Floats.{nearest_float}
use Rattle.ratio_decimal.proofs.FloatLawLemmas.{monotone}
use Rattle.ratio_approximation.proofs.WithinLemmas.{at_most_or_above}
use Rattle.ratio_c.specs.Keys.{KeysKeepOrder, KeysTellFloats, key_of, nearest_bits}

-- ---- floats that are not below 0, by the two fields of their bits

later_field : (r t i j : ℕ) → r < 2 ^ 52 → i < j → (2 ^ 52 + r) * 2 ^ i < (2 ^ 52 + t) * 2 ^ j
later_field r t i j small less =
    let short : 2 ^ 52 + r < 2 ^ 53 = omega arith in
    let first = mul-lt-mul_of_pos_right short (pow_pos i) in
    let powers : 2 ^ suc i ≤ 2 ^ j = pow-le-pow_right {n = 2} (omega arith) less in
    let second = mul-le-mul_left (2 ^ 52) powers in
    let least : 2 ^ 52 ≤ 2 ^ 52 + t = omega arith in
    let third = mul-le-mul_right (2 ^ j) least in
    omega (arith, first, second, third, pow-suc 2 i)

units_ordered : (x t y u : ℕ) → t < 2 ^ 52 → u < 2 ^ 52 → x * 2 ^ 52 + t < y * 2 ^ 52 + u → field_units binary64 x t < field_units binary64 y u
units_ordered zero t zero u t-short u-short less = omega arith
units_ordered zero t (suc j) u t-short u-short less = (let more = le-mul_of_pos_right (2 ^ 52 + u) (pow_pos j) in omega (arith, more))
units_ordered (suc i) t zero u t-short u-short less = absurd (omega (arith, less))
units_ordered (suc i) t (suc j) u t-short u-short less = elim (eq-zero-or-pos (j - i)) [
  | inr later ↦ later_field t u i j t-short (omega arith)
  | inl same ↦
      let field : i ≡ j = omega arith in
      let digits : 2 ^ 52 + t < 2 ^ 52 + u = omega (arith, less, field) in
      rw (← field) (mul-lt-mul_of_pos_right digits (pow_pos i))
]

-- the bits of infinity
abbrev infinite_bits : ℕ
infinite_bits = 2047 * 2 ^ 52

value : (b : ℕ) → b < infinite_bits → HasValue (from_bits binary64 b) false (field_units binary64 (b / 2 ^ 52) (b % 2 ^ 52)) (2 ^ 1074)
value b short =
    let whole : b / 2 ^ 52 * 2 ^ 52 + b % 2 ^ 52 ≡ b = div-add-mod' b (2 ^ 52) in
    subst (λ a. HasValue (from_bits binary64 a) false (field_units binary64 (b / 2 ^ 52) (b % 2 ^ 52)) (2 ^ 1074)) whole (of_bits_value binary64 (b / 2 ^ 52) (b % 2 ^ 52) (omega arith) (omega arith))

below_infinity : (x : Float) (a c : ℕ) → HasValue x false a c → x <ᶠ inf false
unfolding lt
below_infinity nan a c is = absurd is
below_infinity (inf s) a c is = absurd is
below_infinity (fin s m e) a c is = tt

-- greater bits are those of a greater float
floats_ordered : (b c : ℕ) → c ≤ infinite_bits → b < c → from_bits binary64 b <ᶠ from_bits binary64 c
floats_ordered b c most less = elim (eq-zero-or-pos (infinite_bits - c)) [
  | inl last ↦
      let same : infinite_bits ≡ c = omega arith in
      subst (λ x. from_bits binary64 b <ᶠ x) (sym (infinite binary64) ∙ ap (from_bits binary64) same) (below_infinity _ _ _ (value b (omega arith)))
  | inr before ↦
      let units = units_ordered (b / 2 ^ 52) (b % 2 ^ 52) (c / 2 ^ 52) (c % 2 ^ 52) (omega arith) (omega arith) (omega (arith, less, div-add-mod' b (2 ^ 52), div-add-mod' c (2 ^ 52))) in
      let power : 0 < 2 ^ 1074 = pow_pos 1074 in
      rw (lt_at _ _ _ _ _ _ power power (value b (omega arith)) (value c (omega arith)), lt-ltb _ _ (mul-lt-mul_of_pos_right units power)) tt
]

-- ---- the float nearest to a fraction that is not below 0

plain_sign : (x : Float) → is_sign_negative (float_with_sign false x) ≡ false
unfolding is_sign_negative float_with_sign
plain_sign nan = refl
plain_sign (inf s) = refl
plain_sign (fin s n d) = refl

module _ (n d : ℕ) (positive : 0 < d) where
  abbrev nearest : Float
  nearest = round binary64 false n d

  sign : is_sign_negative nearest ≡ false
  sign = ap is_sign_negative (sym (signed_round binary64 false n d)) ∙ plain_sign nearest

  pub number : NotNan nearest
  number = le_left nearest nearest (monotone binary64 (pos n) (pos d) (pos n) (pos d) (omega (arith, ints, positive)) (omega (arith, ints, positive)) (omega (arith, ints)))

  back : from_bits binary64 (to_bits binary64 nearest) ≡ nearest
  back = of_bits-to_bits binary64 nearest (round-fits binary64 false n d)

  pub short : to_bits binary64 nearest ≤ infinite_bits
  short =
      let bits = to_bits binary64 nearest in
      let fits = round-fits binary64 false n d in
      let unlike = eqb-false (bits / 2 ^ 63) 1 (sign_bit binary64 nearest fits number ∙ sign) in
      let finite = sym (nan_bits_above binary64 bits) ∙ nan_bits_is binary64 bits ∙ ap is_nan back ∙ is_false _ number in
      omega (arith, unlike, to_bits-lt binary64 nearest fits, ltb-false infinite_bits (bits % 2 ^ 63) finite)

sizes_ordered : (n d m e : ℕ) → 0 < d → 0 < e → n * e ≤ m * d → nearest_bits n (pos d) ≤ nearest_bits m (pos e)
sizes_ordered n d m e D E ordered = elim (eq-zero-or-pos (nearest_bits n (pos d) - nearest_bits m (pos e))) [
  | inl most ↦ omega arith
  | inr more ↦
      let floats = monotone binary64 (pos n) (pos d) (pos m) (pos e) (omega (arith, ints, D)) (omega (arith, ints, E)) (omega (arith, ints, ordered)) in
      let turned = rw (back m e E, back n d D) at (floats_ordered (nearest_bits m (pos e)) (nearest_bits n (pos d)) (short n d D) (omega arith)) in
      absurd (lt_irrefl _ (lt_of_le_of_lt _ _ _ floats turned))
]

same_bits : (n d m e : ℕ) → 0 < d → 0 < e → nearest_bits n (pos d) ≡ nearest_bits m (pos e) → round binary64 false n d ≡ round binary64 false m e
same_bits n d m e D E same = sym (back n d D) ∙ ap (from_bits binary64) same ∙ back m e E

-- ---- keys

some : (d : ℕ) → pos 0 <ℤ pos d → 0 < d
some d above = omega (arith, ints, above)

ordered_keys : (n d m e : ℤ) → pos 0 <ℤ d → pos 0 <ℤ e → (n *ℤ e) ≤ℤ (m *ℤ d) → key_of (n, d) ≤ℤ key_of (m, e)
ordered_keys (pos n) (pos d) (pos m) (pos e) D E ordered =
    let sizes = sizes_ordered n d m e (some d D) (some e E) (omega (arith, ints, ordered)) in
    omega (arith, ints, sizes)
ordered_keys (negsuc n) (pos d) (pos m) (pos e) D E ordered = omega (arith, ints)
ordered_keys (pos n) (pos (suc d)) (negsuc m) (pos e) D E ordered = absurd (omega (arith, ints, ordered))
ordered_keys (negsuc n) (pos (suc d)) (negsuc m) (pos (suc e)) D E ordered =
    let sizes = sizes_ordered (suc m) (suc e) (suc n) (suc d) (omega arith) (omega arith) (omega (arith, ints, ordered)) in
    omega (arith, ints, sizes)
ordered_keys n (pos zero) m e D E ordered = absurd (omega (arith, ints, D))
ordered_keys n (negsuc d) m e D E ordered = absurd (omega (arith, ints, D))
ordered_keys n d m (pos zero) D E ordered = absurd (omega (arith, ints, E))
ordered_keys n d m (negsuc e) D E ordered = absurd (omega (arith, ints, E))

pub keys_keep_order : KeysKeepOrder
keys_keep_order x y D E ordered = ordered_keys x.0 x.1 y.0 y.1 D E ordered

-- neither of -0.0 and 0.0 is below the other
zeros_level : (¬ (neg (from_bits binary64 0) <ᶠ from_bits binary64 0)) × (¬ (from_bits binary64 0 <ᶠ neg (from_bits binary64 0)))
unfolding neg lt
zeros_level = rw (zero_is binary64) ((λ less. less), (λ less. less))

plain_zero : (n d : ℕ) → 0 < d → nearest_bits n (pos d) ≡ 0 → round binary64 false n d ≡ from_bits binary64 0
plain_zero n d D none = sym (back n d D) ∙ ap (from_bits binary64) none

turned_zero : (n d : ℕ) → 0 < d → nearest_bits n (pos d) ≡ 0 → round binary64 true n d ≡ neg (from_bits binary64 0)
turned_zero n d D none = sym (neg-round binary64 n d) ∙ ap neg (plain_zero n d D none)

same_key : (n d m e : ℤ) → pos 0 <ℤ d → pos 0 <ℤ e → key_of (n, d) ≡ key_of (m, e) → ¬ (nearest_float binary64 n d <ᶠ nearest_float binary64 m e)
same_key (pos n) (pos d) (pos m) (pos e) D E same less =
    let float = same_bits n d m e (some d D) (some e E) (omega (arith, ints, same)) in
    lt_irrefl _ (subst (λ x. x <ᶠ round binary64 false m e) float less)
same_key (negsuc n) (pos d) (negsuc m) (pos e) D E same less =
    let float = sym (neg-round binary64 (suc n) d) ∙ ap neg (same_bits (suc n) d (suc m) e (some d D) (some e E) (omega (arith, ints, same))) ∙ neg-round binary64 (suc m) e in
    lt_irrefl _ (subst (λ x. x <ᶠ round binary64 true (suc m) e) float less)
same_key (negsuc n) (pos d) (pos m) (pos e) D E same less =
    let left = turned_zero (suc n) d (some d D) (omega (arith, ints, same)) in
    let right = plain_zero m e (some e E) (omega (arith, ints, same)) in
    zeros_level.0 (rw (left, right) at less)
same_key (pos n) (pos d) (negsuc m) (pos e) D E same less =
    let left = plain_zero n d (some d D) (omega (arith, ints, same)) in
    let right = turned_zero (suc m) e (some e E) (omega (arith, ints, same)) in
    zeros_level.1 (rw (left, right) at less)
same_key n (negsuc d) m e D E same less = absurd (omega (arith, ints, D))
same_key n (pos d) m (negsuc e) D E same less = absurd (omega (arith, ints, E))

unlike_below : (a b : ℤ) → a ≤ℤ b → a ≢ b → a <ℤ b
unlike_below a b most unlike = omega (arith, ints, most, unlike)

pub keys_tell_floats : KeysTellFloats
keys_tell_floats x y D E less =
    let ordered : (x.0 *ℤ y.1) ≤ℤ (y.0 *ℤ x.1) = elim (at_most_or_above (x.0 *ℤ y.1) (y.0 *ℤ x.1)) [
      | inl most ↦ most
      | inr turned ↦ absurd (lt_irrefl _ (lt_of_lt_of_le _ _ _ less (monotone binary64 y.0 y.1 x.0 x.1 E D (omega (arith, ints, turned)))))
    ] in
    unlike_below (key_of x) (key_of y) (keys_keep_order x y D E ordered) (λ same. same_key x.0 x.1 y.0 y.1 D E same less)
