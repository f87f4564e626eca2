-- A number with a given number of places, written from its whole part and its part.
use Rattle.std.specs.Prelude.{◌≡◌, ◌≢◌, ◌*◌, ◌+◌, ◌-◌, ◌/◌, ◌%◌, ◌^◌, ◌<◌, ◌≤◌, ◌∷◌, ◌++◌, ◌<ℤ◌, ◌*ℤ◌, ◌+ℤ◌, [], ℕ, zero, suc, ℤ, pos, negsuc, neg_ℤ, List, Bool, true, false, drop, length, slice_set, unsigned_abs, decimal, if◌then◌else◌, IsAscii, IsTrue, ◌↔◌}
use Rattle.std.proofs.Common.{refl, sym, ap, arith, ◌∙◌, append-nil, length-append, length-drop, lit<, pow-suc, subst}
use Rattle.std.proofs.Math.Nat.{mod-lt, mul_assoc, pow-le-pow_right}
use Rattle.std.proofs.lemmas.Fmt.{decimal_digit}
use Rattle.std.proofs.lemmas.Int.{ints}
use Rattle.std.proofs.lemmas.List.{drop_all, drop-drop, drop-set}
use Rattle.std.proofs.lemmas.Nat.{div-mul-add}
use Rattle.std.proofs.lemmas.Str.{IsAscii-append}
use Rattle.std.proofs.lemmas.Str.Ascii.{IsAscii-cons, IsAscii-nil}
use Rattle.ratio_integer.proofs.Whole.{neg-mul}
use Rattle.ratio_decimal.specs.Decimal.{places_text, point, unsigned_places}
use Rattle.ratio_integer.specs.LastDigits.{last_digits}
use Rattle.ratio_core.specs.Reading.{minus}
use Rattle.ratio_decimal.specs.RoundingRules.{IsRoundedBy, mirrored, signed}
use Rattle.ratio_decimal.specs.declared.rounding_rule.Rounding.{Rounding}
use Rattle.ratio_core.proofs.DigitGroups.{grouped}
use Rattle.ratio_decimal.proofs.RoundingRuleLemmas.{mirror}
use Rattle.ratio_natural.specs.Decimal.{decimal_text}
use Rattle.ratio_natural.proofs.PrintingLemmas.{decimal_ascii, decimal_same}

-- ---- powers of ten

pub power_positive : (k : ℕ) → 0 < 10 ^ k
power_positive zero = omega arith
power_positive (suc k) = let h = power_positive k in rw (pow-suc 10 k) (omega arith)

pub power_small : (places : ℕ) → places ≤ 38 → 10 ^ places ≤ 10 ^ 38
power_small places h = pow-le-pow_right {n = 10} (omega arith) {i = places} {j = 38} h

-- ---- the last digits

-- those of the part are those of the whole number
pub whole_digits : (w p k : ℕ) → last_digits k (w * 10 ^ k + p) ≡ last_digits k p
whole_digits w p zero = refl
whole_digits w p (suc k) =
    let power : 10 ^ suc k ≡ 10 ^ k * 10 = pow-suc 10 k in
    let product : w * 10 ^ suc k ≡ w * 10 ^ k * 10 = ap (λ x. w * x) power ∙ sym (mul_assoc w (10 ^ k) 10) in
    let tenth : (w * 10 ^ suc k + p) / 10 ≡ w * 10 ^ k + p / 10 = omega (arith, product) in
    let last : (w * 10 ^ suc k + p) % 10 ≡ p % 10 = omega (arith, product) in
    ap (λ x. last_digits k x ++ (48 + (w * 10 ^ suc k + p) % 10) ∷ []) tenth
    ∙ ap (λ x. last_digits k (w * 10 ^ k + p / 10) ++ (48 + x) ∷ []) last
    ∙ ap (λ xs. xs ++ (48 + p % 10) ∷ []) (whole_digits w (p / 10) k)

pub whole_of : (w p k : ℕ) → p < 10 ^ k → (w * 10 ^ k + p) / 10 ^ k ≡ w
whole_of w p k h = div-mul-add w (10 ^ k) p h

-- after a 1 that keeps the leading zeros
pub after_one : (k p : ℕ) → k ≤ 38 → p < 10 ^ k → decimal (10 ^ k + p) ≡ 49 ∷ last_digits k p
after_one k p few small =
    let one : 1 * 10 ^ k + p ≡ 10 ^ k + p = omega arith in
    let most = power_small k few in
    ap decimal (sym one) ∙ grouped k 1 p (omega arith) small (omega arith) ∙ ap (λ xs. xs ++ last_digits k p) (decimal_digit 1 (omega arith))

pub digits_ascii : (k n : ℕ) → IsAscii (last_digits k n)
digits_ascii zero n = IsAscii-nil
digits_ascii (suc k) n = IsAscii-append _ _ (digits_ascii k (n / 10)) (IsAscii-cons (48 + n % 10) [] (let h : n % 10 < 10 = mod-lt n (lit< tt) in omega arith) IsAscii-nil)

pub unsigned_ascii : (places n : ℕ) → IsAscii (unsigned_places places n)
unsigned_ascii zero n = decimal_ascii n
unsigned_ascii (suc places) n = IsAscii-append _ _ (decimal_ascii (n / 10 ^ suc places)) (IsAscii-cons point (last_digits (suc places) n) (lit< tt) (digits_ascii (suc places) n))

pub places_ascii : (places : ℕ) (z : ℤ) → IsAscii (places_text places z)
places_ascii places (pos n) = unsigned_ascii places n
places_ascii places (negsuc n) = IsAscii-cons minus (unsigned_places places (suc n)) (lit< tt) (unsigned_ascii places (suc n))

-- ---- the text without a sign

pub no_places : (w p power places end : ℕ) (buf written : List ℕ) → w < 2 ^ 128 → places ≡ 0 → power ≡ 10 ^ places → p < power → length buf ≡ end → written ≡ decimal w ++ drop end buf → written ≡ unsigned_places places (w * 10 ^ places + p)
no_places w p power zero end buf written fits none power-is small long is =
    let all : w ≡ w * 1 + p = omega arith in
    is ∙ ap (λ xs. decimal w ++ xs) (drop_all end buf (omega arith)) ∙ append-nil (decimal w) ∙ decimal_same w (omega arith) ∙ ap decimal_text all
no_places w p power (suc places) end buf written fits none power-is small long is = absurd (omega arith)

-- the 1 before the places lies inside the buffer
pub one_inside : (p power places end at : ℕ) (buf back : List ℕ) → places ≤ 38 → power ≡ 10 ^ places → p < power → length buf ≡ end → length back ≡ length buf → drop at back ≡ decimal (power + p) ++ drop end buf → at < length back
one_inside p power places end at buf back few power-is small long same is = go (length-drop at back)
  where
    some : 1 ≤ length (drop at back)
    some = let text : decimal (power + p) ≡ 49 ∷ last_digits places p = rw power-is (after_one places p few (rw power-is at small)) in
        omega (arith, ap length is, ap length text, length-append (decimal (power + p)) (drop end buf))

    go : length (drop at back) ≡ length back - at → at < length back
    go e = let s = some in omega arith

-- the point overwrites the 1
pub point_written : (w p power places end at : ℕ) (buf back written : List ℕ) → w < 2 ^ 128 → places ≢ 0 → places ≤ 38 → power ≡ 10 ^ places → p < power → length buf ≡ end → length back ≡ length buf
    → drop at back ≡ decimal (power + p) ++ drop end buf → written ≡ decimal w ++ drop at (slice_set back at point) → written ≡ unsigned_places places (w * 10 ^ places + p)
point_written w p power zero end at buf back written fits some few power-is small long same part is = absurd (some refl)
point_written w p power (suc places) end at buf back written fits some few power-is small long same part is =
    let n = w * 10 ^ suc places + p in
    let less : p < 10 ^ suc places = rw power-is at small in
    let text : decimal (power + p) ≡ 49 ∷ last_digits (suc places) p = ap (λ x. decimal (x + p)) power-is ∙ after_one (suc places) p few less in
    let inside : at < length back = one_inside p power (suc places) end at buf back few power-is small long same part in
    let all : drop at back ≡ 49 ∷ last_digits (suc places) p = part ∙ ap (λ xs. decimal (power + p) ++ xs) (drop_all end buf (omega arith)) ∙ append-nil (decimal (power + p)) ∙ text in
    let digits : drop (at + 1) back ≡ last_digits (suc places) p = sym (drop-drop 1 at back) ∙ ap (λ xs. drop 1 xs) all in
    is ∙ ap (λ xs. decimal w ++ xs) (drop-set back at point inside ∙ ap (λ xs. point ∷ xs) (digits ∙ sym (whole_digits w p (suc places))))
    ∙ ap (λ xs. xs ++ point ∷ last_digits (suc places) n) (decimal_same w (omega arith))
    ∙ ap (λ x. decimal_text x ++ point ∷ last_digits (suc places) n) (sym (whole_of w p (suc places) less))

-- ---- the sign

minus_text : (places n : ℕ) → 0 < n → minus ∷ unsigned_places places n ≡ places_text places (signed true n)
minus_text places zero h = absurd (omega arith)
minus_text places (suc n) h = refl

pub no_minus : (places n : ℕ) (below : Bool) → (below ≡ true → n ≡ 0) → unsigned_places places n ≡ places_text places (signed below n)
no_minus places n false h = refl
no_minus places n true h =
    let none : n ≡ 0 = h refl in
    ap (unsigned_places places) none ∙ ap (λ k. places_text places (signed true k)) (sym none)

pub put_minus : (start places n : ℕ) (buf : List ℕ) (below : Bool) → 1 ≤ start → start ≤ length buf → drop start buf ≡ unsigned_places places n → 0 < n → below ≡ true
    → drop (start - 1) (slice_set buf (start - 1) minus) ≡ places_text places (signed below n)
put_minus start places n buf below low inside is some under =
    let next : start - 1 + 1 ≡ start = omega arith in
    drop-set buf (start - 1) minus (omega arith) ∙ ap (λ j. minus ∷ drop j buf) next ∙ ap (λ xs. minus ∷ xs) is
    ∙ minus_text places n some ∙ ap (λ b. places_text places (signed b n)) (sym under)

-- a number is above 0 exactly if its whole part or its part is
pub some_number : (w p places : ℕ) → 0 < w + p → 0 < w * 10 ^ places + p
some_number zero p places some = omega arith
some_number (suc w) p places some = let h = power_positive places in omega arith

pub no_number : (w p places : ℕ) → ¬ (0 < w + p) → w * 10 ^ places + p ≡ 0
no_number zero p places none = omega arith
no_number (suc w) p places none = absurd (none (omega arith))

-- ---- the magnitude is rounded by the rule or by the mirrored one

pub rounded_magnitude : (rule other : Rounding) (below : Bool) (n d : ℤ) (mn md power places w p : ℕ) → IsTrue below ↔ (n <ℤ pos 0) → pos 0 <ℤ d → mn ≡ unsigned_abs n → md ≡ unsigned_abs d → power ≡ 10 ^ places
    → other ≡ (if below then mirrored rule else rule) → IsRoundedBy other (pos mn *ℤ pos power) (pos md) (pos w *ℤ pos power +ℤ pos p) → IsRoundedBy rule (n *ℤ pos (10 ^ places)) d (signed below (w * 10 ^ places + p))
rounded_magnitude rule other below n d mn md power places w p tells positive n-is d-is power-is other-is is = go below tells other-is
  where
    over : pos md ≡ d
    over = ap pos d-is ∙ absolute d positive
      where
        absolute : (z : ℤ) → pos 0 <ℤ z → pos (unsigned_abs z) ≡ z
        absolute z h = omega (arith, ints)

    plain : IsRoundedBy other (pos (unsigned_abs n) *ℤ pos (10 ^ places)) d (pos (w * 10 ^ places + p))
    plain =
        subst (λ x. IsRoundedBy other (pos x *ℤ pos (10 ^ places)) d (pos (w * 10 ^ places + p))) n-is
        (subst (λ x. IsRoundedBy other (pos mn *ℤ pos x) d (pos (w * x + p))) power-is
        (subst (λ (z : ℤ). IsRoundedBy other (pos mn *ℤ pos power) z (pos (w * power + p))) over is))

    from_zero : (z : ℤ) → ¬ (z <ℤ pos 0) → pos (unsigned_abs z) ≡ z
    from_zero (pos k) h = refl
    from_zero (negsuc k) h = absurd (h (omega (arith, ints)))

    below_zero : (z : ℤ) → z <ℤ pos 0 → neg_ℤ (pos (unsigned_abs z)) ≡ z
    below_zero (pos k) h = absurd (omega (arith, ints))
    below_zero (negsuc k) h = refl

    go : (b : Bool) → IsTrue b ↔ (n <ℤ pos 0) → other ≡ (if b then mirrored rule else rule) → IsRoundedBy rule (n *ℤ pos (10 ^ places)) d (signed b (w * 10 ^ places + p))
    go true t e =
        subst (λ (z : ℤ). IsRoundedBy rule z d (neg_ℤ (pos (w * 10 ^ places + p))))
        (sym (neg-mul (pos (unsigned_abs n)) (pos (10 ^ places))) ∙ ap (λ (z : ℤ). z *ℤ pos (10 ^ places)) (below_zero n (t.0 refl)))
        (mirror rule (pos (unsigned_abs n) *ℤ pos (10 ^ places)) d (pos (w * 10 ^ places + p)) (rw (sym e) plain))
    go false t e =
        subst (λ (z : ℤ). IsRoundedBy rule (z *ℤ pos (10 ^ places)) d (pos (w * 10 ^ places + p))) (from_zero n (λ h. let no : false ≡ true = t.1 h in cc))
        (rw (sym e) plain)
