-- The gap of fractions that round to a float, from the bits of the float.
use Rattle.std.specs.Prelude.{◌≡◌, ◌≢◌, ◌⊎◌, ◌+◌, ◌-◌, ◌*◌, ◌/◌, ◌%◌, ◌^◌, ◌<◌, ◌≤◌, ◌<ℤ◌, ℕ, ℤ, zero, suc, pos, negsuc, neg_ℤ, Bool, true, false, cond, T, Option, Some, None, eqb, ltb, leb, ◌&&◌, from_bits, to_bits}
use Rattle.std.specs.Float.{Float, Format, nan, inf, fin, binary32, binary64}
use Rattle.std.specs.Float.Ieee.{down, emax, fits, hid, is_nan, low, of_fields, ones, prec, top, up}
use Rattle.std.proofs.Common.{refl, sym, ap, arith, inl, inr, subst, ◌∙◌}
use Rattle.std.proofs.lemmas.Bool.{cases_lt}
use Rattle.std.proofs.lemmas.Int.{ints}
use Rattle.std.proofs.lemmas.Nat.{pow-add, pow_pos}
use Rattle.std.proofs.Math.Nat.{div-add-mod', dvd-mul_right, eq_of_mul-eq-mul_right, div-mul-le_self, le-div_iff_mul-le, lt_of_mul-lt-mul_right, mod-lt, mod-mod_of_dvd, mul-le-mul_right, mul-mod_left}
use borrow.Author.Tests.{eq-eqb}
use lib.Arith.{digits_div, digits_mod}
use lib.Dec.{eqb→eq}
use lib.Ieee.Exact.{HasValue, units_val}
use lib.Ieee.Fits.{and_l, down_pos}
use lib.Pow.{pow_mono}
use Rattle.core.proofs.dec2flt.Patterns.{of_bits-scaled_bits}
use Rattle.core.specs.Dec2flt.Rounding.{IsSignificand, scaled_bits}
use Rattle.ratio_integer.specs.Fraction.{ChecksLowest, SameValue}
use Rattle.ratio_integer.proofs.Whole.{neg-mul}
use Rattle.ratio_decimal.specs.Floats.{fraction_of_float}
use Rattle.ratio_decimal.specs.Rationalize.{ChecksRationalized, halfway, middle}
use Rattle.ratio_decimal.specs.Rationalizing.{ChecksInside, IsGap}
use Rattle.ratio_approximation.specs.Simplest.{ChecksSimplest}
use Rattle.ratio_decimal.proofs.FloatFields.{kept, leading_there, low_there}
use Rattle.ratio_approximation.proofs.SimplestLawLemmas.{between_same, simplest_same}

-- ---- a float without a value

pub nan_checks : {R : Type 0} (value : R → ℤ) (lo hi : ℤ) (f : Format) (x : Float) → is_nan x ≡ true → ChecksRationalized value lo hi f x None
unfolding is_nan
nan_checks value lo hi f nan is = refl
nan_checks value lo hi f (inf s) is = refl
nan_checks value lo hi f (fin s m e) is = absurd (let e : false ≡ true = is in cc)

none_fields : {R : Type 0} (value : R → ℤ) (lo hi : ℤ) (f : Format) (s : Bool) (e t : ℕ) → e ≡ ones f → 0 < e → ChecksRationalized value lo hi f (of_fields f s e t) None
unfolding of_fields
none_fields value lo hi f s zero t top above = absurd (omega (arith, above))
none_fields value lo hi f s (suc e) t top above = rw (eq-eqb (suc e) (ones f) top) (either (eqb t 0))
  where
    either : (b : Bool) → ChecksRationalized value lo hi f (cond b (inf s) nan) None
    either true = refl
    either false = refl

pub hid_pos : (f : Format) → 0 < hid f
hid_pos f = pow_pos (prec f - 1)

pub two_hid : (f : Format) → 2 ^ prec f ≡ 2 * hid f
two_hid binary32 = refl
two_hid binary64 = refl

pub ones_pos : (f : Format) → 0 < ones f
ones_pos f = omega arith

pub infinite_checks : {R : Type 0} (value : R → ℤ) (lo hi : ℤ) (f : Format) (x : Float) → T (fits f x) → ones f * hid f ≤ to_bits f x % top f → ChecksRationalized value lo hi f x None
infinite_checks value lo hi f x fit far =
    let b = to_bits f x % top f in
    let e = b / hid f in
    let least : ones f ≤ e = (le-div_iff_mul-le (hid_pos f)).1 far in
    let less : b < top f = mod-lt (to_bits f x) (top_pos f) in
    let split : e * hid f + b % hid f ≡ b = div-add-mod' b (hid f) in
    let most : e < suc (ones f) = lt_of_mul-lt-mul_right (hid f) (omega (arith, less, split)) in
    let P : Float → Type 0 = λ y. ChecksRationalized value lo hi f y None in
    subst P (sym (kept f x fit)) (none_fields value lo hi f _ e _ (omega (arith, least, most)) (omega (arith, least, ones_pos f)))
  where
    top_pos : (f : Format) → 0 < top f
    top_pos f = (let h = hid_pos f in omega (arith, h))

-- ---- the value of a float, from its digits and their place

fields_of : (f : Format) (b m k : ℕ) → b ≡ k * hid f + m → IsSignificand f m k
    → ((k ≡ 0) × (b / hid f ≡ 0) × (b % hid f ≡ m)) ⊎ ((b / hid f ≡ suc k) × (hid f + b % hid f ≡ m))
fields_of f b m k b-is is = elim (cases_lt m (hid f)) [
  | inl less ↦ inl (low_case (elim (cases_lt 0 k) [ inl some ↦ absurd (let h = is.normal some in omega (arith, h, less)) | inr none ↦ omega (arith, none) ]) less)
  | inr more ↦
      let fit = is.fits in
      let t : ℕ = m - hid f in
      let t_less : t < hid f = omega (arith, fit, two_hid f, more) in
      let e : b ≡ suc k * hid f + t = b-is ∙ omega (arith, more) in
      inr (rw e (digits_div (suc k) t_less), rw (e, digits_mod (suc k) t_less) (omega (arith, more)))
]
  where
    low_case : k ≡ 0 → m < hid f → (k ≡ 0) × (b / hid f ≡ 0) × (b % hid f ≡ m)
    low_case none less =
        let e : b ≡ 0 * hid f + m = b-is ∙ rw none refl in
        (none, rw e (digits_div 0 less), rw e (digits_mod 0 less))

module _ (f : Format) (x : Float) (fit : T (fits f x)) (m k : ℕ) (b-is : to_bits f x % top f ≡ k * hid f + m) (is : IsSignificand f m k) (under : to_bits f x % top f < ones f * hid f) where
  same_digits : to_bits f x % top f % hid f ≡ to_bits f x % hid f
  same_digits = mod-mod_of_dvd (hid f) (to_bits f x) (dvd-mul_right (hid f) (suc (ones f)))

  pub value_is : HasValue x (leb (top f) (to_bits f x)) (m * 2 ^ k) (2 ^ low f)
  value_is = elim (fields_of f (to_bits f x % top f) m k b-is is) [
    | inl h ↦
        let P : Float → Type 0 = λ y. HasValue y (leb (top f) (to_bits f x)) (to_bits f x % hid f * 2 ^ 0) (2 ^ low f) in
        let v : P x = subst P (sym (kept f x fit)) (low_there f _ _ _ h.1) in
        let t : to_bits f x % hid f ≡ m = sym same_digits ∙ h.2 in
        let e : to_bits f x % hid f * 2 ^ 0 ≡ m * 2 ^ k = rw (t, h.0) refl in
        subst (λ a. HasValue x (leb (top f) (to_bits f x)) a (2 ^ low f)) e v
    | inr h ↦
        let q = to_bits f x % top f / hid f in
        let P : Float → Type 0 = λ y. HasValue y (leb (top f) (to_bits f x)) ((hid f + to_bits f x % hid f) * 2 ^ (q - 1)) (2 ^ low f) in
        let some : q ≢ 0 = λ z. (let e = h.0 in omega (arith, e, z)) in
        let other : q ≢ ones f = λ z. (
        let all : q * hid f ≤ to_bits f x % top f = div-mul-le_self (to_bits f x % top f) (hid f) in
        let most : ones f * hid f ≤ to_bits f x % top f = rw z at all in
        omega (arith, most, under)) in
        let v : P x = subst P (sym (kept f x fit)) (leading_there f _ _ _ some other) in
        let t : hid f + to_bits f x % hid f ≡ m = ap (λ y. hid f + y) (sym same_digits) ∙ h.1 in
        let place : q - 1 ≡ k = (let e = h.0 in omega (arith, e)) in
        let e : (hid f + to_bits f x % hid f) * 2 ^ (q - 1) ≡ m * 2 ^ k = rw (t, place) refl in
        subst (λ a. HasValue x (leb (top f) (to_bits f x)) a (2 ^ low f)) e v
  ]

-- ---- whole or not

pub odd_of : (f : Format) (s : Bool) (m e : ℕ) → T (fits f (fin s m (negsuc e))) → m % 2 ≡ 1
unfolding fits
odd_of f s zero e fit = absurd (
    let h : 1 * 2 ^ suc e ≡ 1 = eqb→eq _ _ fit in
    let p : 2 ^ suc e ≡ 2 ^ e * 2 ^ 1 = (let q : suc e ≡ e + 1 = omega arith in ap (λ x. 2 ^ x) q ∙ pow-add 2 e 1) in
    omega (arith, h, p))
odd_of f s (suc m) e fit =
    let odd = eqb (suc m % 2) 1 in
    let short = ltb (suc m) (2 ^ prec f) in
    let high = leb (down (negsuc e)) (2 ^ low f) in
    let below = ltb (suc m * up (negsuc e)) (2 ^ suc (emax f) * down (negsuc e)) in
    eqb→eq _ _ (and_l odd short (and_l (odd && short) high (and_l (odd && short && high) below fit)))

pub not_whole : (m e a l : ℕ) → m % 2 ≡ 1 → m * 1 * 2 ^ l ≡ a * 2 ^ suc e → a % 2 ^ l ≡ 0 → ⊥
not_whole m e a l odd is whole =
    let split : a / 2 ^ l * 2 ^ l + a % 2 ^ l ≡ a = div-add-mod' a (2 ^ l) in
    let w : ℕ = a / 2 ^ l in
    let a-is : a ≡ w * 2 ^ l = omega (arith, split, whole) in
    let p : 2 ^ suc e ≡ 2 ^ e * 2 ^ 1 = (let q : suc e ≡ e + 1 = omega arith in ap (λ x. 2 ^ x) q ∙ pow-add 2 e 1) in
    let both : m * 2 ^ l ≡ 2 * (w * 2 ^ e) * 2 ^ l = omega arith ∙ is ∙ ap (λ x. x * 2 ^ suc e) a-is ∙ ap (λ x. w * 2 ^ l * x) p ∙ omega arith in
    let even : m ≡ 2 * (w * 2 ^ e) = eq_of_mul-eq-mul_right (2 ^ l) (pow_pos l) _ _ both in
    omega (arith, odd, even)

pub whole_checks : {R : Type 0} (value : R → ℤ) (lo hi : ℤ) (f : Format) (x : Float) (s : Bool) (a l : ℕ) (r : Option (R × R)) → T (fits f x) → HasValue x s a (2 ^ l) → a % 2 ^ l ≡ 0
    → ChecksLowest (λ p. value p.0) (λ p. value p.1) lo hi (fraction_of_float x) r → ChecksRationalized value lo hi f x r
whole_checks value lo hi f nan s a l r fit is whole checked = absurd is
whole_checks value lo hi f (inf t) s a l r fit is whole checked = absurd is
whole_checks value lo hi f (fin t m (pos e)) s a l r fit is whole checked = checked
whole_checks value lo hi f (fin false m (negsuc e)) s a l r fit is whole checked = absurd (not_whole m e a l (odd_of f false m e fit) is.1 whole)
whole_checks value lo hi f (fin true m (negsuc e)) s a l r fit is whole checked = absurd (not_whole m e a l (odd_of f true m e fit) is.1 whole)

-- the simplest fraction in the gap around the float of these bits
abbrev pub ChecksGap : {R : Type 0} → (R → ℤ) → ℤ → ℤ → Format → Bool → ℕ → Option (R × R) → Type 0
ChecksGap value lo hi f false b r = ChecksSimplest value lo hi (halfway f (b - 1)).0 (halfway f (b - 1)).1 (halfway f b).0 (halfway f b).1 r
ChecksGap value lo hi f true b r = ChecksSimplest value lo hi (neg_ℤ (halfway f b).0) (halfway f b).1 (neg_ℤ (halfway f (b - 1)).0) (halfway f (b - 1)).1 r

whole_there : (m e a l : ℕ) → m * 2 ^ e * 2 ^ l ≡ a * 1 → a % 2 ^ l ≡ 0
whole_there m e a l is = (let e' : a ≡ m * 2 ^ e * 2 ^ l = omega (arith, is) in rw e' (mul-mod_left (m * 2 ^ e) (2 ^ l)))

pub part_checks : {R : Type 0} (value : R → ℤ) (lo hi : ℤ) (f : Format) (x : Float) (s : Bool) (a l : ℕ) (r : Option (R × R)) → HasValue x s a (2 ^ l) → (a % 2 ^ l ≡ 0 → ⊥)
    → ChecksGap value lo hi f s (to_bits f x % top f) r → ChecksRationalized value lo hi f x r
part_checks value lo hi f nan s a l r is part checked = absurd is
part_checks value lo hi f (inf t) s a l r is part checked = absurd is
part_checks value lo hi f (fin t m (pos e)) s a l r is part checked = absurd (part (whole_there m e a l is.1))
part_checks value lo hi f (fin false m (negsuc e)) false a l r is part checked = checked
part_checks value lo hi f (fin true m (negsuc e)) true a l r is part checked = checked
part_checks value lo hi f (fin false m (negsuc e)) true a l r is part checked = absurd (let e : false ≡ true = is.0 in cc)
part_checks value lo hi f (fin true m (negsuc e)) false a l r is part checked = absurd (let e : true ≡ false = is.0 in cc)

-- ---- halfway between two floats

pub record IsEnd (l d : ℕ) (h : ℤ × ℤ) : Type 0 where
  pub positive : pos 0 <ℤ h.1
  pub same : SameValue (pos l) (pos d) h.0 h.1

middle_is : (x y : Float) (a b c l d : ℕ) → 0 < c → l * (2 * c) ≡ (a + b) * d → HasValue x false a c → HasValue y false b c → IsEnd l d (middle (fraction_of_float x) (fraction_of_float y))
middle_is nan y a b c l d c_up is x-is y-is = absurd x-is
middle_is (inf t) y a b c l d c_up is x-is y-is = absurd x-is
middle_is (fin true m e) y a b c l d c_up is x-is y-is = absurd (let e : true ≡ false = x-is.0 in cc)
middle_is (fin false m e) nan a b c l d c_up is x-is y-is = absurd y-is
middle_is (fin false m e) (inf t) a b c l d c_up is x-is y-is = absurd y-is
middle_is (fin false m e) (fin true n g) a b c l d c_up is x-is y-is = absurd (let e : true ≡ false = y-is.0 in cc)
middle_is (fin false m e) (fin false n g) a b c l d c_up is x-is y-is = record { positive = above (down e) (down g) (down_pos e) (down_pos g); same = ap pos (sizes (m * up e) (down e) (n * up g) (down g) x-is.1 y-is.1) }
  where
    above : (u v : ℕ) → 0 < u → 0 < v → pos 0 <ℤ pos (2 * (u * v))
    above (suc u) (suc v) u_up v_up = omega (arith, ints)
    above zero v u_up v_up = absurd (omega (arith, u_up))
    above (suc u) zero u_up v_up = absurd (omega (arith, v_up))

    sizes : (x u y v : ℕ) → x * c ≡ a * u → y * c ≡ b * v → l * (2 * (u * v)) ≡ (x * v + y * u) * d
    sizes x u y v x-is y-is =
        let first : l * (2 * c) * (2 * (u * v)) ≡ (a + b) * d * (2 * (u * v)) = ap (λ z. z * (2 * (u * v))) is in
        let left : l * (2 * (u * v)) * c ≡ l * (2 * c) * (u * v) = grind arith in
        let right : (x * v + y * u) * d * c ≡ (x * c * v + y * c * u) * d = grind arith in
        let moved : (x * c * v + y * c * u) * d ≡ (a * u * v + b * v * u) * d = rw (x-is, y-is) refl in
        let whole : (a * u * v + b * v * u) * d ≡ (a + b) * d * (u * v) = grind arith in
        eq_of_mul-eq-mul_right c c_up _ _ (left ∙ ap (λ z. z * (u * v)) is ∙ sym (right ∙ moved ∙ whole))

-- ---- the neighbours of a float that is not whole

format_room : (f : Format) → (low f + 1 ≤ ones f) × (prec f ≤ suc (emax f))
format_room binary32 = (omega arith, omega arith)
format_room binary64 = (omega arith, omega arith)

near_value : (f : Format) (b m k : ℕ) → b ≡ k * hid f + m → m ≤ 2 ^ prec f → (0 < k → hid f ≤ m) → k < low f → HasValue (from_bits f b) false (m * 2 ^ k) (2 ^ low f)
near_value f b m k b-is m_fits normal part =
    let room = format_room f in
    let most : (k + 2) * hid f ≤ ones f * hid f = mul-le-mul_right (hid f) (let r = room.0 in omega (arith, r, part)) in
    let bits : scaled_bits f m k ≡ b = omega (arith, most, m_fits, two_hid f, b-is) in
    let product : m * 2 ^ k ≤ 2 ^ prec f * 2 ^ k = mul-le-mul_right (2 ^ k) m_fits in
    let sum : 2 ^ (prec f + k) ≡ 2 ^ prec f * 2 ^ k = pow-add 2 (prec f) k in
    let next : 2 ^ (prec f + k + 1) ≡ 2 ^ (prec f + k) * 2 ^ 1 = pow-add 2 (prec f + k) 1 in
    let reach : 2 ^ (prec f + k + 1) ≤ 2 ^ (low f + suc (emax f)) = pow_mono (let r = room.1 in omega (arith, r, part)) in
    let some = pow_pos (prec f + k) in
    let v : HasValue _ false (m * 2 ^ k) (2 ^ low f) = units_val f false m k (omega (arith, product, sum, next, reach, some)) in
    subst (λ z. HasValue (from_bits f z) false (m * 2 ^ k) (2 ^ low f)) bits (subst (λ y. HasValue y false (m * 2 ^ k) (2 ^ low f)) (sym (of_bits-scaled_bits f m k m_fits normal)) v)

module _ (f : Format) (b m k : ℕ) (b-is : b ≡ k * hid f + m) (is : IsSignificand f m k) (m_up : 0 < m) (part : k < low f) where
  d : ℕ
  d = 2 ^ (low f - k + 2)

  power : 2 ^ k * 2 ^ (low f - k + 2) ≡ 4 * 2 ^ low f
  power =
      let sum : k + (low f - k + 2) ≡ low f + 2 = omega (arith, part) in
      sym (pow-add 2 k (low f - k + 2)) ∙ ap (λ x. 2 ^ x) sum ∙ pow-add 2 (low f) 2 ∙ omega arith

  m_less : m < 2 ^ prec f
  m_less = is.fits

  own : HasValue (from_bits f b) false (m * 2 ^ k) (2 ^ low f)
  own = near_value f b m k b-is (omega (arith, m_less)) is.normal part

  pub next_end : IsEnd (4 * m + 2) (2 ^ (low f - k + 2)) (halfway f b)
  next_end =
      let next : HasValue (from_bits f (b + 1)) false ((m + 1) * 2 ^ k) (2 ^ low f) =
      near_value f (b + 1) (m + 1) k (omega (arith, b-is)) (omega (arith, m_less)) (λ some. (let h = is.normal some in omega (arith, h))) part in
      middle_is _ _ _ _ _ _ _ (pow_pos (low f)) (omega (arith, ap (λ x. (2 * m + 1) * x) power)) own next

  bits_up : 0 < b
  bits_up = omega (arith, b-is, m_up)

  same_bits : b - 1 + 1 ≡ b
  same_bits = omega (arith, bits_up)

  own' : HasValue (from_bits f (b - 1 + 1)) false (m * 2 ^ k) (2 ^ low f)
  own' = rw same_bits own

  pub last_end : (l : ℕ) → l + 2 ≡ 4 * m → (m ≢ hid f) ⊎ (k ≡ 0) → IsEnd l (2 ^ (low f - k + 2)) (halfway f (b - 1))
  last_end l l-is even =
      let last : HasValue (from_bits f (b - 1)) false ((m - 1) * 2 ^ k) (2 ^ low f) =
      near_value f (b - 1) (m - 1) k (omega (arith, b-is, m_up)) (omega (arith, m_less)) (λ some. elim even [
        | inl other ↦ (let h = is.normal some in above h other)
        | inr none ↦ absurd (omega (arith, none, some))
      ]) part in
      let sum : m - 1 + m ≡ 2 * m - 1 = omega (arith, m_up) in
      let l-is' : l ≡ 2 * (m - 1 + m) = omega (arith, l-is, m_up) in
      middle_is _ _ _ _ _ _ _ (pow_pos (low f)) (rw l-is' (omega (arith, ap (λ x. (m - 1 + m) * x) power))) last own'
    where
      above : hid f ≤ m → m ≢ hid f → hid f ≤ m - 1
      above h other = elim (cases_lt (hid f) m) [
        | inl less ↦ omega (arith, less)
        | inr more ↦ absurd (other (omega (arith, more, h)))
      ]

  pub finer_end : (l : ℕ) → l + 1 ≡ 4 * m → m ≡ hid f → 0 < k → IsEnd l (2 ^ (low f - k + 2)) (halfway f (b - 1))
  finer_end l l-is least some =
      let back : k ≡ k - 1 + 1 = omega (arith, some) in
      let rows : k * hid f ≡ (k - 1) * hid f + hid f = ap (λ x. x * hid f) back ∙ omega arith in
      let h_up = hid_pos f in
      let last : HasValue (from_bits f (b - 1)) false ((2 * m - 1) * 2 ^ (k - 1)) (2 ^ low f) =
      near_value f (b - 1) (2 * m - 1) (k - 1) (omega (arith, b-is, rows, least, h_up)) (omega (arith, two_hid f, least)) (λ _. omega (arith, least, h_up)) (omega (arith, part)) in
      let half : 2 ^ k ≡ 2 ^ (k - 1) * 2 = ap (λ x. 2 ^ x) back ∙ pow-add 2 (k - 1) 1 in
      let fine : 2 ^ (k - 1) * 2 ^ (low f - k + 2) ≡ 2 * 2 ^ low f = (let p : 2 ^ (k - 1) * 2 * 2 ^ (low f - k + 2) ≡ 4 * 2 ^ low f = rw half at power in omega (arith, p)) in
      let sum : (2 * m - 1) * 2 ^ (k - 1) + m * 2 ^ k ≡ l * 2 ^ (k - 1) = (
      let l-is' : l ≡ (2 * m - 1) + 2 * m = omega (arith, l-is, m_up) in
      rw (l-is', half) (omega arith)) in
      let whole : l * (2 * 2 ^ low f) ≡ ((2 * m - 1) * 2 ^ (k - 1) + m * 2 ^ k) * 2 ^ (low f - k + 2) = sym (ap (λ x. x * 2 ^ (low f - k + 2)) sum ∙ omega (arith, ap (λ x. l * x) fine)) in
      middle_is _ _ _ _ _ _ _ (pow_pos (low f)) whole last own'

  pub low_end : (l h : ℕ) → IsGap f m k l h → IsEnd l (2 ^ (low f - k + 2)) (halfway f (b - 1))
  low_end l h gap = elim gap.down [
    | inl finer ↦ finer_end l finer.0 finer.1 finer.2
    | inr even ↦ last_end l even.0 even.1
  ]

  pub high_end : (l h : ℕ) → IsGap f m k l h → IsEnd h (2 ^ (low f - k + 2)) (halfway f b)
  high_end l h gap = rw gap.up next_end

-- ---- the same ends

same_checks : {R : Type 0} (value : R → ℤ) (lo hi n d m e n' d' m' e' : ℤ) (r : Option (R × R)) → pos 0 <ℤ d → pos 0 <ℤ e → pos 0 <ℤ d' → pos 0 <ℤ e' → SameValue n d n' d' → SameValue m e m' e'
    → ChecksSimplest value lo hi n d m e r → ChecksSimplest value lo hi n' d' m' e' r
same_checks value lo hi n d m e n' d' m' e' None d_up e_up d'_up e'_up low high none = record {
  each = λ a b a_held b_held between. none.each a b a_held b_held (between_same n' d' m' e' n d m e a b d'_up e'_up d_up e_up (sym low) (sym high) between);
}
same_checks value lo hi n d m e n' d' m' e' (Some r) d_up e_up d'_up e'_up low high is = simplest_same n d m e n' d' m' e' _ _ d_up e_up d'_up e'_up low high is

turned_same : (a b c d : ℤ) → SameValue a b c d → SameValue (neg_ℤ a) b (neg_ℤ c) d
turned_same a b c d same = neg-mul a d ∙ ap neg_ℤ same ∙ sym (neg-mul c b)

pub gap_checks : {R : Type 0} (value : R → ℤ) (lo hi : ℤ) (f : Format) (s : Bool) (b l h d : ℕ) (r : Option (R × R)) → 0 < d → IsEnd l d (halfway f (b - 1)) → IsEnd h d (halfway f b)
    → ChecksInside value lo hi s l h d r → ChecksGap value lo hi f s b r
gap_checks value lo hi f false b l h d r d_up below above checked =
    same_checks value lo hi _ _ _ _ _ _ _ _ r (some d d_up) (some d d_up) below.positive above.positive below.same above.same checked
  where
    some : (d : ℕ) → 0 < d → pos 0 <ℤ pos d
    some d up = omega (arith, ints, up)
gap_checks value lo hi f true b l h d r d_up below above checked =
    same_checks value lo hi _ _ _ _ _ _ _ _ r (some d d_up) (some d d_up) above.positive below.positive (turned_same (pos h) (pos d) (halfway f b).0 (halfway f b).1 above.same) (turned_same (pos l) (pos d) (halfway f (b - 1)).0 (halfway f (b - 1)).1 below.same) checked
  where
    some : (d : ℕ) → 0 < d → pos 0 <ℤ pos d
    some d up = omega (arith, ints, up)

-- ---- what the code tests

pub whole_or_not : (digits place least zeros odd : ℕ) → digits ≡ odd * 2 ^ zeros → odd % 2 ≡ 1 → ((least ≤ place + zeros → digits * 2 ^ place % 2 ^ least ≡ 0) × (digits * 2 ^ place % 2 ^ least ≡ 0 → least ≤ place + zeros))
whole_or_not digits place least zeros odd is o = (there, back)
  where
    all : digits * 2 ^ place ≡ odd * 2 ^ (place + zeros)
    all = ap (λ x. x * 2 ^ place) is ∙ omega (arith, ap (λ x. odd * x) (pow-add 2 place zeros))

    there : least ≤ place + zeros → digits * 2 ^ place % 2 ^ least ≡ 0
    there more =
        let split : place + zeros ≡ place + zeros - least + least = omega (arith, more) in
        let e : digits * 2 ^ place ≡ odd * 2 ^ (place + zeros - least) * 2 ^ least = all ∙ ap (λ x. odd * 2 ^ x) split ∙ ap (λ x. odd * x) (pow-add 2 (place + zeros - least) least) ∙ omega arith in
        rw e (mul-mod_left (odd * 2 ^ (place + zeros - least)) (2 ^ least))

    back : digits * 2 ^ place % 2 ^ least ≡ 0 → least ≤ place + zeros
    back whole = elim (cases_lt (place + zeros) least) [
      | inr more ↦ more
      | inl less ↦
          let z : ℕ = place + zeros in
          let e : ℕ = least - z - 1 in
          let split : least ≡ z + suc e = omega (arith, less) in
          let power : 2 ^ least ≡ 2 ^ z * 2 ^ suc e = ap (λ x. 2 ^ x) split ∙ pow-add 2 z (suc e) in
          let m : odd * 1 * 2 ^ least ≡ digits * 2 ^ place * 2 ^ suc e = ap (λ x. odd * 1 * x) power ∙ omega arith ∙ sym (ap (λ x. x * 2 ^ suc e) all) in
          absurd (not_whole odd e (digits * 2 ^ place) least o m whole)
    ]

pub part_place : (digits place least : ℕ) → (digits * 2 ^ place % 2 ^ least ≡ 0 → ⊥) → place < least
part_place digits place least part = elim (cases_lt place least) [
  | inl less ↦ less
  | inr more ↦
      let split : place ≡ place - least + least = omega (arith, more) in
      let e : digits * 2 ^ place ≡ digits * 2 ^ (place - least) * 2 ^ least = ap (λ x. digits * 2 ^ x) split ∙ ap (λ x. digits * x) (pow-add 2 (place - least) least) ∙ omega arith in
      absurd (part (rw e (mul-mod_left (digits * 2 ^ (place - least)) (2 ^ least))))
]

pub part_some : (digits place least : ℕ) → (digits * 2 ^ place % 2 ^ least ≡ 0 → ⊥) → 0 < digits
part_some zero place least part = absurd (part (let e : 0 * 2 ^ place ≡ 0 * 2 ^ least = omega arith in rw e (mul-mod_left 0 (2 ^ least))))
part_some (suc n) place least part = omega arith
