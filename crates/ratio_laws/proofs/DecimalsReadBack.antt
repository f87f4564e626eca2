-- A printed decimal reads as the multiple that it shows, so all of a fraction reads back as the fraction.
use Rattle.std.specs.Prelude.{◌≡◌, ◌+◌, ◌*◌, ◌/◌, ◌%◌, ◌^◌, ◌<◌, ◌≤◌, ◌<ℤ◌, ◌*ℤ◌, ℕ, ℤ, zero, suc, pos, negsuc, neg_ℤ, unsigned_abs, true, false, List, [], ◌∷◌, ◌++◌, length, Result, Ok, Err}
use Rattle.std.specs.Char.{digit_value}
use Rattle.std.specs.Str.Parse.{AllDigits, IsNumeral}
use Rattle.std.proofs.Common.{refl, sym, ap, subst, arith, inl, inr, ◌∙◌, append-nil, length-append, pow-suc}
use Rattle.std.proofs.lemmas.Grind.{common_steps}
use Rattle.std.proofs.lemmas.Int.{ints}
use Rattle.std.proofs.lemmas.Nat.{div-add-mod', mod-mul-add}
use Rattle.std.proofs.Math.Nat.{div-le_of_le-mul, div-one, mod-lt, mod-one, mul-le-mul_left}
use Rattle.ratio_integer.specs.Fraction.{Fits, IsHeldLowest, IsLowestTerms}
use Rattle.ratio_integer.specs.Range.{IsHeld}
use Rattle.ratio_integer.proofs.LowestTerms.{held_lowest_moved, lowest_equal, lowest_own}
use Rattle.ratio_integer.proofs.Whole.{unsigned_abs-products}
use Rattle.ratio_decimal.specs.Decimal.{IsExactDecimal, unsigned_places}
use Rattle.ratio_integer.specs.LastDigits.{last_digits}
use Rattle.ratio_decimal.specs.DecimalReading.{AnswersDecimal, IsDecimalText, IsExponent, IsPointed, IsReadDecimal, PrintedDecimalsRead}
use Rattle.ratio_core.specs.Reading.{digits_sum, minus}
use Rattle.ratio_decimal.specs.declared.reading.DecimalRefusal.{DecimalRefusal}
use Rattle.ratio_decimal.specs.declared.reading.DecimalRefusal.TheVariants.{NotDecimal, NotHeld}
use Rattle.ratio_decimal.proofs.DecimalDigits.{power_some, sum_split}
use Rattle.ratio_decimal.proofs.DecimalTerms.{some_not_zero}
use Rattle.ratio_decimal.proofs.DecimalTexts.{one_reading}
use Rattle.ratio_core.proofs.LeadingDigits.{append_digits}
use Rattle.ratio_core.proofs.ReadingBack.{decimal_numeral}
use Rattle.ratio_natural.specs.Decimal.{decimal_text}
use Rattle.ratio_natural.proofs.PrintingLemmas.{decimal_same}

-- ---- the last digits of a number

record AreLastDigits (digits : List ℕ) (k n : ℕ) : Type 0 where
  all : AllDigits 10 digits
  count : length digits ≡ k
  sum : digits_sum 10 digits ≡ n % 10 ^ k

digit_back : (d : ℕ) → d < 10 → digit_value (48 + d) ≡ d
digit_back d small = grind (arith, common_steps)

-- a number without its last digit, and that digit
last_rest : (n p : ℕ) → 0 < p → n / 10 % p * 10 + n % 10 ≡ n % (p * 10)
last_rest n p some =
    let r = n / 10 % p in
    let q = n / 10 / p in
    let small : r < p = mod-lt (n / 10) some in
    let last : n % 10 < 10 = mod-lt n (omega arith) in
    let first : n / 10 * 10 + n % 10 ≡ n = div-add-mod' n 10 in
    let second : q * p + r ≡ n / 10 = div-add-mod' (n / 10) p in
    let whole : q * (p * 10) + (r * 10 + n % 10) ≡ n = spread q p r (n % 10) ∙ ap (λ x. x * 10 + n % 10) second ∙ first in
    sym (ap (λ x. x % (p * 10)) (sym whole) ∙ mod-mul-add q (p * 10) (r * 10 + n % 10) (omega arith))
  where
    spread : (q p r d : ℕ) → q * (p * 10) + (r * 10 + d) ≡ (q * p + r) * 10 + d
    spread q p r d = omega arith

last_are : (k n : ℕ) → AreLastDigits (last_digits k n) k n
last_are zero n = record { all = tt; count = refl; sum = sym (mod-one n) }
last_are (suc k) n =
    let front = last_digits k (n / 10) in
    let rest = last_are k (n / 10) in
    let d = n % 10 in
    let small : d < 10 = mod-lt n (omega arith) in
    let worth = digit_back d small in
    let total : digits_sum 10 (front ++ (48 + d) ∷ []) ≡ digits_sum 10 front * 10 ^ 1 + (digit_value (48 + d) * 10 ^ 0 + 0) = sum_split front ((48 + d) ∷ []) in
    let shown : digits_sum 10 (front ++ (48 + d) ∷ []) ≡ digits_sum 10 front * 10 + d = total ∙ (let h : digits_sum 10 front * 10 + (digit_value (48 + d) * 1 + 0) ≡ digits_sum 10 front * 10 + d = omega (arith, worth) in h) in
    record {
      all = append_digits 10 front ((48 + d) ∷ []) rest.all (subst (λ x. x < 10) (sym worth) small, tt);
      count = length-append front ((48 + d) ∷ []) ∙ ap (λ x. x + 1) rest.count ∙ (omega arith);
      sum = shown ∙ ap (λ x. x * 10 + d) rest.sum ∙ last_rest n (10 ^ k) (power_some k) ∙ ap (λ x. n % x) (sym (pow-suc 10 k));
    }

-- ---- the text

record IsUnsignedRead (text : List ℕ) (places n : ℕ) : Type 0 where
  whole : List ℕ
  part : List ℕ
  pointed : IsPointed text whole part
  count : length part ≡ places
  sum : digits_sum 10 (whole ++ part) ≡ n

text_numeral : (n : ℕ) → n < 2 ^ 128 → IsNumeral 10 (decimal_text n) × (digits_sum 10 (decimal_text n) ≡ n)
text_numeral n small = subst (λ xs. IsNumeral 10 xs × (digits_sum 10 xs ≡ n)) (decimal_same n (omega (arith, small))) (decimal_numeral n small)

unsigned_read : (places n : ℕ) → n / 10 ^ places < 2 ^ 128 → IsUnsignedRead (unsigned_places places n) places n
unsigned_read zero n small =
    let back = text_numeral n (subst (λ x. x < 2 ^ 128) (div-one n) small) in
    let bare : decimal_text n ≡ decimal_text n ++ [] = sym (append-nil (decimal_text n)) in
    record {
      whole = decimal_text n;
      part = [];
      pointed = record { cut = inr (refl, refl); digits = subst (IsNumeral 10) bare back.0 };
      count = refl;
      sum = ap (digits_sum 10) (sym bare) ∙ back.1;
    }
unsigned_read (suc k) n small =
    let w = n / 10 ^ suc k in
    let last = last_are (suc k) n in
    let part = last_digits (suc k) n in
    let back = text_numeral w small in
    record {
      whole = decimal_text w;
      part = part;
      pointed = record { cut = inl refl; digits = (omega (arith, back.0.0, length-append (decimal_text w) part), append_digits 10 (decimal_text w) part back.0.1 last.all) };
      count = last.count;
      sum = sum_split (decimal_text w) part ∙ ap (λ x. x * 10 ^ length part + digits_sum 10 part) back.1 ∙ ap (λ x. w * 10 ^ x + digits_sum 10 part) last.count ∙ ap (λ x. w * 10 ^ suc k + x) last.sum ∙ div-add-mod' n (10 ^ suc k);
    }

no_exponent : IsExponent [] false []
no_exponent = inr (refl, refl, refl)

value_of : (m n : ℕ) → m ≡ n → m * 1 ≡ n
value_of m n e = omega arith

pub places_read : PrintedDecimalsRead
places_read places (pos n) small =
    let u = unsigned_read places n small in
    record {
      below = false;
      whole = u.whole;
      part = u.part;
      down = false;
      exponent = [];
      parts = record { sign = []; pointed = unsigned_places places n; scale = []; cut = sym (append-nil (unsigned_places places n)); signed = inl refl; number = u.pointed; scaled = no_exponent };
      numer = ap pos (sym (value_of _ n u.sum));
      denom = ap pos (sym (value_of _ (10 ^ places) (ap (λ x. 10 ^ x) u.count)));
    }
places_read places (negsuc n) small =
    let u = unsigned_read places (suc n) small in
    record {
      below = true;
      whole = u.whole;
      part = u.part;
      down = false;
      exponent = [];
      parts = record { sign = minus ∷ []; pointed = unsigned_places places (suc n); scale = []; cut = ap (λ xs. minus ∷ xs) (sym (append-nil (unsigned_places places (suc n)))); signed = refl; number = u.pointed; scaled = no_exponent };
      numer = ap (λ x. neg_ℤ (pos x)) (sym (value_of _ (suc n) u.sum));
      denom = ap pos (sym (value_of _ (10 ^ places) (ap (λ x. 10 ^ x) u.count)));
    }

-- ---- all of a fraction

multiple_small : (n d z : ℤ) (places : ℕ) → pos 0 <ℤ d → unsigned_abs n < 2 ^ 128 → n *ℤ pos (10 ^ places) ≡ z *ℤ d → unsigned_abs z / 10 ^ places < 2 ^ 128
multiple_small n d z places positive small same =
    let sizes : unsigned_abs n * 10 ^ places ≡ unsigned_abs z * unsigned_abs d = unsigned_abs-products n (pos (10 ^ places)) z d same in
    let more : unsigned_abs z * 1 ≤ unsigned_abs z * unsigned_abs d = mul-le-mul_left (unsigned_abs z) (size_some d positive) in
    let least : unsigned_abs z / 10 ^ places ≤ unsigned_abs n = div-le_of_le-mul (10 ^ places) (turned (10 ^ places) (unsigned_abs n) (unsigned_abs z) (omega arith)) in
    omega arith
  where
    size_some : (z : ℤ) → pos 0 <ℤ z → 1 ≤ unsigned_abs z
    size_some (pos n) h = omega (arith, ints)
    size_some (negsuc n) h = absurd (omega (arith, ints))

    turned : (p n z : ℕ) → z ≤ n * p → z ≤ p * n
    turned p n z h = omega arith

pub exact_read : {R : Type 0} (numer denom : R → ℤ) (lo hi n d : ℤ) (text : List ℕ) (r : Result R DecimalRefusal) → IsLowestTerms n d → IsHeld lo hi n → IsHeld lo hi d → unsigned_abs n < 2 ^ 128 → IsExactDecimal n d text
    → AnswersDecimal numer denom lo hi text r → IsReadDecimal numer denom n d r
exact_read {R} numer denom lo hi n d text r lowest n_held d_held small exact answers = by r answers
  where
    z : ℤ
    z = exact.multiple

    e : ℤ
    e = pos (10 ^ exact.places)

    reads : IsDecimalText text z e
    reads = subst (λ xs. IsDecimalText xs z e) (sym exact.written) (places_read exact.places z (multiple_small n d z exact.places lowest.positive small exact.same))

    own : IsHeldLowest lo hi n d n d
    own = record { terms = lowest_own n d lowest; numer_held = n_held; denom_held = d_held }

    by : (r : Result R DecimalRefusal) → AnswersDecimal numer denom lo hi text r → IsReadDecimal numer denom n d r
    by (Ok y) is =
        let same = one_reading text is.n is.d z e is.reads reads in
        let low : IsHeldLowest lo hi z e (numer y) (denom y) = subst (λ k. IsHeldLowest lo hi z k (numer y) (denom y)) same.1 (subst (λ m. IsHeldLowest lo hi m is.d (numer y) (denom y)) same.0 is.low) in
        lowest_equal z e n d (numer y) (denom y) n d (sym exact.same) low.terms (lowest_own n d lowest)
    by (Err NotDecimal) none = none z e reads
    by (Err NotHeld) is =
        let same = one_reading text is.n is.d z e is.reads reads in
        let out : ¬ (Fits lo hi z e) = subst (λ k. ¬ (Fits lo hi z k)) same.1 (subst (λ m. ¬ (Fits lo hi m is.d)) same.0 is.out) in
        out (record { numer = n; denom = d; low = held_lowest_moved lo hi n d z e n d (some_not_zero (10 ^ exact.places) (power_some exact.places)) (sym exact.same) own })
