-- All digits of n/d, whole and behind the point, and when they end.
use Rattle.std.specs.Prelude.{◌≡◌, ◌≢◌, ◌*◌, ◌+◌, ◌-◌, ◌/◌, ◌%◌, ◌^◌, ◌<◌, ◌≤◌, ◌∷◌, ◌++◌, ◌<ℤ◌, ◌*ℤ◌, ◌↔◌, [], ℕ, zero, suc, ℤ, pos, negsuc, neg_ℤ, List, Bool, true, false, drop, length, slice_set, unsigned_abs, decimal, IsTrue}
use Rattle.std.specs.Int.{◌∣◌}
use Rattle.std.proofs.Common.{refl, sym, ap, arith, ◌∙◌, append-nil, pow-suc, subst, eq-zero-or-pos, inl, inr}
use Rattle.std.proofs.Math.Nat.{div-add-mod', div-le_self, div-lt_iff_lt-mul, dvd-mul_left, mod-lt, mul-add-div_right, mul-div_cancel, mul_assoc, mul_comm}
use Rattle.std.proofs.lemmas.Fmt.{length-decimal-le_wide}
use Rattle.std.proofs.lemmas.Int.{ints, unsigned_abs-mul}
use Rattle.std.proofs.lemmas.List.{drop_all, drop-set}
use Rattle.std.proofs.lemmas.Nat.{mul-le, pow-add}
use Rattle.ratio_integer.specs.Fraction.{IsLowestTerms}
use Rattle.ratio_integer.proofs.CommonDivisors.{coprime_gcd}
use Rattle.ratio_integer.proofs.GcdLemmas.{coprime-dvd}
use Rattle.ratio_integer.proofs.Whole.{neg-mul}
use Rattle.ratio_decimal.specs.Decimal.{IsExactDecimal, IsPlacesOf, places_text, point, unsigned_places}
use Rattle.ratio_integer.specs.LastDigits.{last_digits}
use Rattle.ratio_core.specs.Parts.{IsDivided}
use Rattle.ratio_decimal.specs.RoundingRules.{signed}
use Rattle.ratio_decimal.proofs.DecimalLemmas.{power_positive, whole_digits, whole_of}
use Rattle.ratio_decimal.proofs.PlacesLemmas.{few_places}
use Rattle.ratio_natural.specs.Decimal.{decimal_text}
use Rattle.ratio_natural.proofs.PrintingLemmas.{decimal_same}

-- ---- the digits behind the point

-- a digit, and the digits of what follows it
pub front_digit : (k digit more : ℕ) → digit < 10 → more < 10 ^ k → last_digits (suc k) (digit * 10 ^ k + more) ≡ (48 + digit) ∷ last_digits k more
front_digit zero digit more small less =
    let e : (digit * 10 ^ 0 + more) % 10 ≡ digit = omega arith in
    ap (λ x. (48 + x) ∷ []) e
front_digit (suc k) digit more small less =
    let power : 10 ^ suc k ≡ 10 ^ k * 10 = pow-suc 10 k in
    let product : digit * 10 ^ suc k ≡ digit * 10 ^ k * 10 = ap (λ x. digit * x) power ∙ sym (mul_assoc digit (10 ^ k) 10) in
    let tenth : (digit * 10 ^ suc k + more) / 10 ≡ digit * 10 ^ k + more / 10 = omega (arith, product) in
    let last : (digit * 10 ^ suc k + more) % 10 ≡ more % 10 = omega (arith, product) in
    ap (λ x. last_digits (suc k) x ++ (48 + (digit * 10 ^ suc k + more) % 10) ∷ []) tenth
    ∙ ap (λ x. last_digits (suc k) (digit * 10 ^ k + more / 10) ++ (48 + x) ∷ []) last
    ∙ ap (λ xs. xs ++ (48 + more % 10) ∷ []) (front_digit k digit (more / 10) small (omega (arith, power)))

part_small : (rest d k : ℕ) → rest < d → rest * 10 ^ k / d < 10 ^ k
part_small rest d k less = (div-lt_iff_lt-mul {k = d} {x = rest * 10 ^ k} {y = 10 ^ k} (omega arith)).1 (strict (10 ^ k) (power_positive k))
  where
    strict : (p : ℕ) → 0 < p → rest * p < p * d
    strict zero h = absurd (omega arith)
    strict (suc p) h = let up : rest * suc p ≤ rest * suc p = omega arith in let more : suc rest * suc p ≤ d * suc p = mul-le (suc rest) (suc p) d (suc p) less (omega arith) in omega arith

-- in ten times a number below d, d is fewer than ten times
pub digit_small : (rest d q next : ℕ) → rest < d → rest * 10 ≡ q * d + next → q < 10
digit_small rest d q next less e = elim (eq-zero-or-pos (q - 9)) [
  | inl z ↦ omega arith
  | inr more ↦ let up : 10 * d ≤ q * d = mul-le 10 d q d (omega arith) (omega arith) in absurd (omega arith)
]

rest_digits : (rest d digit next k : ℕ) → rest < d → rest * 10 ≡ digit * d + next → next < d → last_digits (suc k) (rest * 10 ^ suc k / d) ≡ (48 + digit) ∷ last_digits k (next * 10 ^ k / d)
rest_digits rest d digit next k less sum below =
    let power : 10 ^ suc k ≡ 10 ^ k * 10 = pow-suc 10 k in
    let all : rest * 10 ^ suc k ≡ digit * 10 ^ k * d + next * 10 ^ k = ap (λ x. rest * x) power ∙ turn (10 ^ k) ∙ ap (λ x. x * 10 ^ k) sum ∙ spread (10 ^ k) in
    let cut : rest * 10 ^ suc k / d ≡ digit * 10 ^ k + next * 10 ^ k / d = ap (λ x. x / d) all ∙ mul-add-div_right {m = d} (omega arith) (digit * 10 ^ k) (next * 10 ^ k) in
    ap (last_digits (suc k)) cut ∙ front_digit k digit (next * 10 ^ k / d) (digit_small rest d digit next less sum) (part_small next d k below)
  where
    turn : (p : ℕ) → rest * (p * 10) ≡ rest * 10 * p
    turn p = omega arith

    spread : (p : ℕ) → (digit * d + next) * p ≡ digit * p * d + next * p
    spread p = omega arith

pub tenfold : (rest d digit next : ℕ) → IsDivided (pos rest *ℤ pos 10) (pos d) (pos digit) (pos next) → rest * 10 ≡ digit * d + next
tenfold rest d digit next is = let e = is.sum in omega (arith, ints)

pub put_rest_digit : (rest d digit next places : ℕ) (old buf : List ℕ) → places ≢ 0 → rest < d → IsDivided (pos rest *ℤ pos 10) (pos d) (pos digit) (pos next) → places ≤ length old → length buf ≡ length old
    → drop (length old - (places - 1)) buf ≡ last_digits (places - 1) (next * 10 ^ (places - 1) / d)
    → drop (length old - places) (slice_set buf (length buf - places) (48 + digit)) ≡ last_digits places (rest * 10 ^ places / d)
put_rest_digit rest d digit next zero old buf some less is room same later = absurd (some refl)
put_rest_digit rest d digit next (suc k) old buf some less is room same later =
    let sum : rest * 10 ≡ digit * d + next = tenfold rest d digit next is in
    let below : next < d = let b = is.rest.below in omega (arith, ints) in
    let at : length buf - suc k ≡ length old - suc k = omega arith in
    let after : length old - suc k + 1 ≡ length old - k = omega arith in
    let back : suc k - 1 ≡ k = omega arith in
    ap (λ j. drop (length old - suc k) (slice_set buf j (48 + digit))) at
    ∙ drop-set buf (length old - suc k) (48 + digit) (omega arith)
    ∙ ap (λ j. (48 + digit) ∷ drop j buf) after
    ∙ ap (λ xs. (48 + digit) ∷ xs) (rw back at later)
    ∙ sym (rest_digits rest d digit next k less sum below)

-- ---- the whole number before the point

two_ten : (k : ℕ) → 2 ^ k ≤ 10 ^ k
two_ten zero = omega arith
two_ten (suc k) = let h = two_ten k in rw (pow-suc 2 k, pow-suc 10 k) (omega arith)

pub short_whole : (n end : ℕ) → 2 ≤ end → n < 2 ^ (end - 1) → n < 2 ^ 128 → length (decimal n) ≤ end - 1
short_whole n end some small fits = let up = two_ten (end - 1) in length-decimal-le_wide (end - 1) n (omega arith) (omega arith) (omega arith)

pub whole_small : (n d places : ℕ) → 0 < d → 2 ^ places ≤ d → d < 2 ^ 128 → n < 2 ^ 128 → n / d < 2 ^ (129 - places - 1)
whole_small n d places some few d_fits fits =
    let less = few_places d places few d_fits in
    let sum : 128 ≡ (129 - places - 1) + places = omega arith in
    let power : 2 ^ 128 ≡ 2 ^ (129 - places - 1) * 2 ^ places = ap (λ j. 2 ^ j) sum ∙ pow-add 2 (129 - places - 1) places in
    let up : 2 ^ (129 - places - 1) * 2 ^ places ≤ 2 ^ (129 - places - 1) * d = mul-le (2 ^ (129 - places - 1)) (2 ^ places) (2 ^ (129 - places - 1)) d (omega arith) few in
    (div-lt_iff_lt-mul {k = d} {x = n} {y = 2 ^ (129 - places - 1)} some).1 (less_than power up)
  where
    less_than : {a b : ℕ} → 2 ^ 128 ≡ a → a ≤ b → n < b
    less_than e h = omega arith

-- ---- whole and part

cut_parts : (n d k : ℕ) → 0 < d → n * 10 ^ k / d ≡ n / d * 10 ^ k + n % d * 10 ^ k / d
cut_parts n d k some =
    let parts : n ≡ n / d * d + n % d = sym (div-add-mod' n d) in
    ap (λ x. x * 10 ^ k / d) parts ∙ ap (λ x. x / d) (spread (n / d) (n % d) (10 ^ k)) ∙ mul-add-div_right {m = d} some (n / d * 10 ^ k) (n % d * 10 ^ k)
  where
    spread : (q r p : ℕ) → (q * d + r) * p ≡ q * p * d + r * p
    spread q r p = omega arith

pub cut_whole : (n d k : ℕ) → 0 < d → n * 10 ^ k / d / 10 ^ k ≡ n / d
cut_whole n d k some = ap (λ x. x / 10 ^ k) (cut_parts n d k some) ∙ whole_of (n / d) (n % d * 10 ^ k / d) k (part_small (n % d) d k (mod-lt n some))

cut_digits : (n d k : ℕ) → 0 < d → last_digits k (n * 10 ^ k / d) ≡ last_digits k (n % d * 10 ^ k / d)
cut_digits n d k some = ap (last_digits k) (cut_parts n d k some) ∙ whole_digits (n / d) (n % d * 10 ^ k / d) k

-- std prints the whole number with the same digits
pub whole_same : (n d : ℕ) → n < 2 ^ 128 → decimal (n / d) ≡ decimal_text (n / d)
whole_same n d fits = decimal_same (n / d) (let h = div-le_self n d in omega arith)

pub cut_no_places : (n d places : ℕ) (buf written : List ℕ) → n < 2 ^ 128 → places ≡ 0 → length buf ≡ 130 → written ≡ decimal (n / d) ++ drop 130 buf → written ≡ unsigned_places places (n * 10 ^ places / d)
cut_no_places n d zero buf written fits none long is =
    let same : n ≡ n * 10 ^ 0 = omega arith in
    is ∙ ap (λ xs. decimal (n / d) ++ xs) (drop_all 130 buf (omega arith)) ∙ append-nil (decimal (n / d)) ∙ whole_same n d fits ∙ ap (λ x. decimal_text (x / d)) same
cut_no_places n d (suc places) buf written fits none long is = absurd (omega arith)

pub cut_written : (n d places : ℕ) (old buf written : List ℕ) → n < 2 ^ 128 → places ≢ 0 → 0 < d → 2 ^ places ≤ d → d < 2 ^ 128 → length old ≡ 130 → length buf ≡ length old
    → drop (length old - places) buf ≡ last_digits places (n % d * 10 ^ places / d) → written ≡ decimal (n / d) ++ drop (129 - places) (slice_set buf (129 - places) point) → written ≡ unsigned_places places (n * 10 ^ places / d)
cut_written n d zero old buf written short some positive few fits long same digits is = absurd (some refl)
cut_written n d (suc k) old buf written short some positive few fits long same digits is =
    let less = few_places d (suc k) few fits in
    let after : 129 - suc k + 1 ≡ length old - suc k = omega arith in
    is
    ∙ ap (λ xs. decimal (n / d) ++ xs)
    (drop-set buf (129 - suc k) point (omega arith) ∙ ap (λ j. point ∷ drop j buf) after ∙ ap (λ xs. point ∷ xs) (digits ∙ sym (cut_digits n d (suc k) positive)))
    ∙ ap (λ xs. xs ++ point ∷ last_digits (suc k) (n * 10 ^ suc k / d)) (whole_same n d short)
    ∙ ap (λ x. decimal_text x ++ point ∷ last_digits (suc k) (n * 10 ^ suc k / d)) (sym (cut_whole n d (suc k) positive))

-- ---- when the digits end

-- d divides the power of ten that makes n/d a whole number
pub divides_power : (n d z : ℤ) (k : ℕ) → IsLowestTerms n d → n *ℤ pos (10 ^ k) ≡ z *ℤ d → unsigned_abs d ∣ 10 ^ k
divides_power n d z k lowest e =
    let size : unsigned_abs n * 10 ^ k ≡ unsigned_abs z * unsigned_abs d = sym (unsigned_abs-mul n (pos (10 ^ k))) ∙ ap unsigned_abs e ∙ unsigned_abs-mul z d in
    let divides : unsigned_abs d ∣ 10 ^ k * unsigned_abs n = subst (λ x. unsigned_abs d ∣ x) (sym size ∙ mul_comm (unsigned_abs n) (10 ^ k)) (dvd-mul_left (unsigned_abs d) (unsigned_abs z)) in
    coprime-dvd (unsigned_abs d) (unsigned_abs n) (10 ^ k) (coprime_gcd (unsigned_abs d) (unsigned_abs n) (λ j p q. lowest.only_one j q p)) divides

pub no_decimal : (n d : ℤ) (dm : ℕ) → dm ≡ unsigned_abs d → IsLowestTerms n d → ((k : ℕ) → ¬ (dm ∣ 10 ^ k)) → (k : ℕ) (z : ℤ) → ¬ (n *ℤ pos (10 ^ k) ≡ z *ℤ d)
no_decimal n d dm d-is lowest never k z e = never k (rw d-is (divides_power n d z k lowest e))

module _ (nm dm places : ℕ) (positive : 0 < dm) (is : IsPlacesOf dm places) where
  -- n times 10^places is a multiple of d
  pub exact_quotient : nm * 10 ^ places / dm ≡ nm * is.multiple
  exact_quotient =
      let all : nm * 10 ^ places ≡ nm * is.multiple * dm = ap (λ x. nm * x) (sym is.product) ∙ sym (mul_assoc nm is.multiple dm) in
      ap (λ x. x / dm) all ∙ mul-div_cancel (nm * is.multiple) positive

  exact_product : (nm * 10 ^ places / dm) * dm ≡ nm * 10 ^ places
  exact_product = ap (λ x. x * dm) exact_quotient ∙ mul_assoc nm is.multiple dm ∙ ap (λ x. nm * x) is.product

  multiple_positive : 0 < is.multiple
  multiple_positive = go is.multiple is.product (power_positive places)
    where
      go : (m : ℕ) → m * dm ≡ 10 ^ places → 0 < 10 ^ places → 0 < m
      go zero e h = absurd (omega arith)
      go (suc m) e h = omega arith

  pub exact_some : 0 < nm → 0 < nm * 10 ^ places / dm
  exact_some some = rw exact_quotient (product nm is.multiple some multiple_positive)
    where
      product : (a b : ℕ) → 0 < a → 0 < b → 0 < a * b
      product zero b h k = absurd (omega arith)
      product (suc a) zero h k = absurd (omega arith)
      product (suc a) (suc b) h k = omega arith

  exact_same : (n d : ℤ) (below : Bool) → nm ≡ unsigned_abs n → dm ≡ unsigned_abs d → pos 0 <ℤ d → IsTrue below ↔ (n <ℤ pos 0) → n *ℤ pos (10 ^ places) ≡ signed below (nm * 10 ^ places / dm) *ℤ d
  exact_same n d below n-is d-is above tells = go n below n-is tells
    where
      over : pos dm ≡ d
      over = ap pos d-is ∙ absolute d above
        where
          absolute : (z : ℤ) → pos 0 <ℤ z → pos (unsigned_abs z) ≡ z
          absolute z h = omega (arith, ints)

      size : pos nm *ℤ pos (10 ^ places) ≡ pos (nm * 10 ^ places / dm) *ℤ d
      size = ap pos (sym exact_product) ∙ ap (λ (z : ℤ). pos (nm * 10 ^ places / dm) *ℤ z) over

      go : (z : ℤ) (b : Bool) → nm ≡ unsigned_abs z → IsTrue b ↔ (z <ℤ pos 0) → z *ℤ pos (10 ^ places) ≡ signed b (nm * 10 ^ places / dm) *ℤ d
      go (pos a) true e t = absurd (let h = t.0 refl in omega (arith, ints))
      go (pos a) false e t = ap (λ x. pos x *ℤ pos (10 ^ places)) (sym e) ∙ size
      go (negsuc a) true e t =
          let back : negsuc a ≡ neg_ℤ (pos nm) = ap (λ x. neg_ℤ (pos x)) (sym e) in
          ap (λ (z : ℤ). z *ℤ pos (10 ^ places)) back ∙ neg-mul (pos nm) (pos (10 ^ places)) ∙ ap neg_ℤ size ∙ sym (neg-mul (pos (nm * 10 ^ places / dm)) d)
      go (negsuc a) false e t = absurd (let no : false ≡ true = t.1 (omega (arith, ints)) in cc)

  pub exact_text : (n d : ℤ) (below : Bool) (text : List ℕ) → nm ≡ unsigned_abs n → dm ≡ unsigned_abs d → IsLowestTerms n d → IsTrue below ↔ (n <ℤ pos 0) → text ≡ places_text places (signed below (nm * 10 ^ places / dm)) → IsExactDecimal n d text
  exact_text n d below text n-is d-is lowest tells written = record {
    places = places;
    multiple = signed below (nm * 10 ^ places / dm);
    same = exact_same n d below n-is d-is lowest.positive tells;
    fewest = λ k z e. is.least k (rw d-is (divides_power n d z k lowest e));
    written = written;
  }

-- a number below 0 is not 0
pub below_some : (n : ℤ) (nm : ℕ) (below : Bool) → nm ≡ unsigned_abs n → IsTrue below ↔ (n <ℤ pos 0) → below ≡ true → 0 < nm
below_some (pos a) nm below e t under = absurd (let h = t.0 under in omega (arith, ints))
below_some (negsuc a) nm below e t under = omega arith
