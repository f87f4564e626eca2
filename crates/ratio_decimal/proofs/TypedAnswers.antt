-- What reading a typed text returns, from the lowest terms of its parts in 128 bits.
use Rattle.std.specs.Prelude.{◌≡◌, ◌≢◌, ◌+◌, ◌*◌, ◌^◌, ◌<◌, ◌<ℤ◌, ◌*ℤ◌, ℕ, ℤ, zero, suc, pos, negsuc, unsigned_abs, Bool, true, false, List, [], ◌∷◌, ◌++◌, length, Result, Ok, Err}
use Rattle.std.proofs.Common.{refl, sym, ap, subst, arith, inl, inr, ◌∙◌}
use Rattle.std.proofs.lemmas.Int.{ints}
use Rattle.ratio_integer.specs.Fraction.{Fits, IsLowestTermsOf}
use Rattle.ratio_integer.specs.Range.{IsHeld, IsRange}
use Rattle.ratio_integer.proofs.LowestTerms.{lowest_moved}
use Rattle.ratio_integer.proofs.Whole.{unsigned_abs-products}
use Rattle.ratio_decimal.specs.DecimalCuts.{IsWide}
use Rattle.ratio_decimal.specs.DecimalReading.{HasDecimalParts, IsDecimalText, tens_above, tens_below}
use Rattle.ratio_core.specs.Signs.{with_sign}
use Rattle.ratio_core.specs.Reading.{digits_sum}
use Rattle.ratio_decimal.specs.TypedTerms.{AnswersTerms, ChecksTyped, ReadsTerms, ReadsWide, differ}
use Rattle.ratio_decimal.specs.TypedText.{AnswersTyped, AreSmall, HasMixedParts, HasQuotientParts, IsMixedText, IsPlainText, IsShareText, IsTypedText, TypedNotHeld, percent_sign, share}
use Rattle.ratio_decimal.specs.declared.typed.TextRefusal.{TextRefusal}
use Rattle.ratio_decimal.specs.declared.typed.TextRefusal.TheVariants.{NotNumber, ZeroDenominator, NotHeld}
use Rattle.ratio_decimal.specs.declared.typed.signed.SignedTerms.{SignedTerms}
use Rattle.ratio_decimal.proofs.DecimalAnswers.{HasWidth, reading, signed_terms}
use Rattle.ratio_decimal.proofs.DecimalDigits.{power_some}
use Rattle.ratio_decimal.proofs.DecimalTerms.{some_not_zero}
use Rattle.ratio_decimal.proofs.DecimalValues.{product_power_some}
use Rattle.ratio_core.proofs.SignedNumbers.{lowest_out, size_is, with_sign-mul}
use Rattle.ratio_core.proofs.PrintingLemmas.{small_magnitude}
use Rattle.ratio_decimal.proofs.TypedFree.{no_mixed_percent, no_plain_percent}

-- ---- two signs

signs_mul : (s t : Bool) (x y : ℕ) → with_sign s x *ℤ with_sign t y ≡ with_sign (differ s t) (x * y)
signs_mul s false x y = rw (same s) (with_sign-mul s x y)
  where
    same : (s : Bool) → differ s false ≡ s
    same false = refl
    same true = refl
signs_mul false true zero y = omega (arith, ints)
signs_mul false true (suc x) zero = omega (arith, ints)
signs_mul false true (suc x) (suc y) = omega (arith, ints)
signs_mul true true zero y = omega (arith, ints)
signs_mul true true (suc x) zero = omega (arith, ints)
signs_mul true true (suc x) (suc y) = omega (arith, ints)

sign_none : (t : Bool) (n : ℕ) → n ≡ 0 → with_sign t n ≡ pos 0
sign_none false n e = rw e refl
sign_none true n e = rw e refl

sign_some : (t : Bool) (n : ℕ) → 0 < n → with_sign t n ≢ pos 0
sign_some t n some e = let none : n ≡ 0 = sym (size_is t n) ∙ ap unsigned_abs e in omega arith

-- ---- fractions

-- the denominator, times 100 or as it is
base_is : (h : ℕ) (t : Bool) (c : ℕ) → pos h *ℤ with_sign t c ≡ with_sign t (h * c)
base_is h t c = signs_mul false t h c

quotient_moved : (s t : Bool) (b c h p q : ℕ) → IsLowestTermsOf (pos b) (pos (h * c)) (pos p) (pos q) → 0 < h * c → IsLowestTermsOf (with_sign s b) (pos h *ℤ with_sign t c) (with_sign (differ s t) p) (pos q)
quotient_moved s t b c h p q is some =
    lowest_moved (with_sign (differ s t) b) (pos (h * c)) (with_sign s b) (pos h *ℤ with_sign t c) (with_sign (differ s t) p) (pos q) (λ e. sign_some t (h * c) some (sym (base_is h t c) ∙ e))
    (rw (base_is h t c) (with_sign-mul s b (h * c) ∙ sym (signs_mul (differ s t) t b (h * c) ∙ ap (λ x. with_sign x (b * (h * c))) (twice s t))))
    (signed_terms (differ s t) b (h * c) p q is)
  where
    twice : (s t : Bool) → differ (differ s t) t ≡ s
    twice false false = refl
    twice false true = refl
    twice true false = refl
    twice true true = refl

fraction_some : (n d : ℕ) (a b : ℤ) → IsLowestTermsOf (pos n) (pos d) a b → 0 < d
fraction_some n zero a b is = absurd (is.fraction refl)
fraction_some n (suc d) a b is = omega arith

quotient_read : (text : List ℕ) (s : Bool) (ns : List ℕ) (t : Bool) (ds : List ℕ) (percent : Bool) → HasQuotientParts text s ns t ds
    → IsShareText percent text (with_sign s (digits_sum 10 ns)) (pos (share percent) *ℤ with_sign t (digits_sum 10 ds)) (digits_sum 10 ns ∷ digits_sum 10 ds ∷ [])
quotient_read text s ns t ds percent parts = record {
  base = with_sign t (digits_sum 10 ds);
  plain = inr (record { below = s; over = ns; under = t; base = ds; parts = parts; numer = refl; denom = refl; written = refl });
  denom = refl;
}

pub quotient_terms_read : (text : List ℕ) (s : Bool) (ns : List ℕ) (t : Bool) (ds : List ℕ) (percent : Bool) (p q : ℕ) → HasQuotientParts text s ns t ds → AreSmall (digits_sum 10 ns ∷ digits_sum 10 ds ∷ [])
    → IsLowestTermsOf (pos (digits_sum 10 ns)) (pos (share percent * digits_sum 10 ds)) (pos p) (pos q) → ReadsTerms (IsShareText percent text) (with_sign (differ s t) p) (pos q)
quotient_terms_read text s ns t ds percent p q parts small is = record {
  n = with_sign s (digits_sum 10 ns);
  d = pos (share percent) *ℤ with_sign t (digits_sum 10 ds);
  numbers = digits_sum 10 ns ∷ digits_sum 10 ds ∷ [];
  reads = quotient_read text s ns t ds percent parts;
  small = small;
  terms = quotient_moved s t (digits_sum 10 ns) (digits_sum 10 ds) (share percent) p q is (fraction_some (digits_sum 10 ns) (share percent * digits_sum 10 ds) (pos p) (pos q) is);
}

pub quotient_refused : (text : List ℕ) (s : Bool) (ns : List ℕ) (t : Bool) (ds : List ℕ) (percent : Bool) (refusal : TextRefusal) → HasQuotientParts text s ns t ds
    → ChecksTyped (digits_sum 10 ns ∷ digits_sum 10 ds ∷ []) (digits_sum 10 ns) (share percent * digits_sum 10 ds) (Err refusal) → AnswersTerms (IsShareText percent text) (Err refusal)
quotient_refused text s ns t ds percent NotNumber parts h = absurd h
quotient_refused text s ns t ds percent ZeroDenominator parts none =
    let zero_is : pos (share percent) *ℤ with_sign t (digits_sum 10 ds) ≡ pos 0 = base_is (share percent) t (digits_sum 10 ds) ∙ sign_none t (share percent * digits_sum 10 ds) none in (
      with_sign s (digits_sum 10 ns),
      digits_sum 10 ns ∷ digits_sum 10 ds ∷ [],
      subst (λ d. IsShareText percent text (with_sign s (digits_sum 10 ns)) d (digits_sum 10 ns ∷ digits_sum 10 ds ∷ [])) zero_is (quotient_read text s ns t ds percent parts),
    )
quotient_refused text s ns t ds percent NotHeld parts h =
    let c = share percent * digits_sum 10 ds in
    let size : unsigned_abs (pos (share percent) *ℤ with_sign t (digits_sum 10 ds)) ≡ c = ap unsigned_abs (base_is (share percent) t (digits_sum 10 ds)) ∙ size_is t c in
    record {
      n = with_sign s (digits_sum 10 ns);
      d = pos (share percent) *ℤ with_sign t (digits_sum 10 ds);
      numbers = digits_sum 10 ns ∷ digits_sum 10 ds ∷ [];
      reads = quotient_read text s ns t ds percent parts;
      some = λ e. sign_some t c h.0 (sym (base_is (share percent) t (digits_sum 10 ds)) ∙ e);
      out = λ small. rw (size_is s (digits_sum 10 ns), size) (h.1 small);
    }

-- ---- decimals

share_read : (text : List ℕ) (percent : Bool) (n : ℤ) (k : ℕ) → IsDecimalText text n (pos k) → IsShareText percent text n (pos (share percent * k)) []
share_read text percent n k is = record { base = pos k; plain = inl (is, refl); denom = refl }

scale_some : (k : ℕ) (percent down : Bool) (e : ℕ) → 0 < share percent * (10 ^ k * tens_below down e)
scale_some k false false e = let h = power_some k in omega arith
scale_some k false true e = let h = product_power_some k e in omega arith
scale_some k true false e = let h = power_some k in omega arith
scale_some k true true e = let h = product_power_some k e in omega arith

pub decimal_some : (text : List ℕ) (n d : ℤ) → IsDecimalText text n d → d ≢ pos 0
decimal_some text n d is e =
    some_not_zero (10 ^ length is.part * tens_below is.down (digits_sum 10 is.exponent)) (let h = scale_some (length is.part) false is.down (digits_sum 10 is.exponent) in omega arith) (sym is.denom ∙ e)

pub decimal_terms_read : (text : List ℕ) (below : Bool) (whole part : List ℕ) (down : Bool) (exponent : List ℕ) (percent : Bool) (p q : ℕ) → HasDecimalParts text below whole part down exponent
    → IsLowestTermsOf (pos (digits_sum 10 (whole ++ part) * tens_above down (digits_sum 10 exponent))) (pos (share percent * (10 ^ length part * tens_below down (digits_sum 10 exponent)))) (pos p) (pos q)
    → ReadsTerms (IsShareText percent text) (with_sign below p) (pos q)
decimal_terms_read text below whole part down exponent percent p q parts is =
    let n = digits_sum 10 (whole ++ part) * tens_above down (digits_sum 10 exponent) in
    let k = 10 ^ length part * tens_below down (digits_sum 10 exponent) in
    record {
      n = with_sign below n;
      d = pos (share percent * k);
      numbers = [];
      reads = share_read text percent (with_sign below n) k (reading text below whole part down exponent parts);
      small = tt;
      terms = signed_terms below n (share percent * k) p q is;
    }

pub decimal_wide_read : (text : List ℕ) (below : Bool) (whole part : List ℕ) (down : Bool) (exponent : List ℕ) (percent : Bool) → HasDecimalParts text below whole part down exponent
    → IsWide (digits_sum 10 (whole ++ part) * tens_above down (digits_sum 10 exponent)) (share percent * (10 ^ length part * tens_below down (digits_sum 10 exponent)))
    → ReadsWide (IsShareText percent text)
decimal_wide_read text below whole part down exponent percent parts wide =
    let n = digits_sum 10 (whole ++ part) * tens_above down (digits_sum 10 exponent) in
    let k = 10 ^ length part * tens_below down (digits_sum 10 exponent) in
    record {
      n = with_sign below n;
      d = pos (share percent * k);
      numbers = [];
      reads = share_read text percent (with_sign below n) k (reading text below whole part down exponent parts);
      some = some_not_zero (share percent * k) (scale_some (length part) percent down (digits_sum 10 exponent));
      out = λ small. rw (size_is below n) wide;
    }

pub no_share : (text : List ℕ) (percent : Bool) → ((s : Bool) (ns : List ℕ) (t : Bool) (ds : List ℕ) → ¬ (HasQuotientParts text s ns t ds))
    → ((below : Bool) (whole part : List ℕ) (down : Bool) (exponent : List ℕ) → ¬ (HasDecimalParts text below whole part down exponent)) → (n d : ℤ) (numbers : List ℕ) → ¬ (IsShareText percent text n d numbers)
no_share text percent no_quotient no_decimal n d numbers is = by is.plain
  where
    by : IsPlainText text n is.base numbers → ⊥
    by (inl (plain, none)) = no_decimal plain.below plain.whole plain.part plain.down plain.exponent plain.parts
    by (inr plain) = no_quotient plain.below plain.over plain.under plain.base plain.parts

-- ---- mixed numbers

mixed_read : (text : List ℕ) (s : Bool) (ws ns ds : List ℕ) → HasMixedParts text s ws ns ds
    → IsMixedText text (with_sign s (digits_sum 10 ws * digits_sum 10 ds + digits_sum 10 ns)) (pos (digits_sum 10 ds)) (digits_sum 10 ws ∷ digits_sum 10 ns ∷ digits_sum 10 ds ∷ [])
mixed_read text s ws ns ds parts = record { below = s; whole = ws; over = ns; base = ds; parts = parts; numer = refl; denom = refl; written = refl }

pub mixed_terms_read : (text : List ℕ) (s : Bool) (ws ns ds : List ℕ) (p q : ℕ) → HasMixedParts text s ws ns ds → AreSmall (digits_sum 10 ws ∷ digits_sum 10 ns ∷ digits_sum 10 ds ∷ [])
    → IsLowestTermsOf (pos (digits_sum 10 ws * digits_sum 10 ds + digits_sum 10 ns)) (pos (digits_sum 10 ds)) (pos p) (pos q) → ReadsTerms (IsTypedText text) (with_sign s p) (pos q)
mixed_terms_read text s ws ns ds p q parts small is = record {
  n = with_sign s (digits_sum 10 ws * digits_sum 10 ds + digits_sum 10 ns);
  d = pos (digits_sum 10 ds);
  numbers = digits_sum 10 ws ∷ digits_sum 10 ns ∷ digits_sum 10 ds ∷ [];
  reads = inr (inl (mixed_read text s ws ns ds parts));
  small = small;
  terms = signed_terms s (digits_sum 10 ws * digits_sum 10 ds + digits_sum 10 ns) (digits_sum 10 ds) p q is;
}

pub mixed_refused : (text : List ℕ) (s : Bool) (ws ns ds : List ℕ) (refusal : TextRefusal) → HasMixedParts text s ws ns ds
    → ChecksTyped (digits_sum 10 ws ∷ digits_sum 10 ns ∷ digits_sum 10 ds ∷ []) (digits_sum 10 ws * digits_sum 10 ds + digits_sum 10 ns) (digits_sum 10 ds) (Err refusal) → AnswersTerms (IsTypedText text) (Err refusal)
mixed_refused text s ws ns ds NotNumber parts h = absurd h
mixed_refused text s ws ns ds ZeroDenominator parts none = (
  with_sign s (digits_sum 10 ws * digits_sum 10 ds + digits_sum 10 ns),
  digits_sum 10 ws ∷ digits_sum 10 ns ∷ digits_sum 10 ds ∷ [],
  inr (inl (subst (λ d. IsMixedText text (with_sign s (digits_sum 10 ws * digits_sum 10 ds + digits_sum 10 ns)) d (digits_sum 10 ws ∷ digits_sum 10 ns ∷ digits_sum 10 ds ∷ [])) (ap pos none) (mixed_read text s ws ns ds parts))),
)
mixed_refused text s ws ns ds NotHeld parts h = record {
  n = with_sign s (digits_sum 10 ws * digits_sum 10 ds + digits_sum 10 ns);
  d = pos (digits_sum 10 ds);
  numbers = digits_sum 10 ws ∷ digits_sum 10 ns ∷ digits_sum 10 ds ∷ [];
  reads = inr (inl (mixed_read text s ws ns ds parts));
  some = some_not_zero (digits_sum 10 ds) h.0;
  out = λ small. rw (size_is s (digits_sum 10 ws * digits_sum 10 ds + digits_sum 10 ns)) (h.1 small);
}

-- ---- the whole text

into : (Reads Other : ℤ → ℤ → List ℕ → Type 0) → ((n d : ℤ) (numbers : List ℕ) → Reads n d numbers → Other n d numbers)
    → (((n d : ℤ) (numbers : List ℕ) → ¬ (Reads n d numbers)) → (n d : ℤ) (numbers : List ℕ) → ¬ (Other n d numbers)) → (r : Result SignedTerms TextRefusal) → AnswersTerms Reads r → AnswersTerms Other r
into Reads Other more less (Ok r) is = record { n = is.n; d = is.d; numbers = is.numbers; reads = more is.n is.d is.numbers is.reads; small = is.small; terms = is.terms }
into Reads Other more less (Err NotNumber) none = less none
into Reads Other more less (Err ZeroDenominator) is = (is.0, is.1, more is.0 (pos 0) is.1 is.2)
into Reads Other more less (Err NotHeld) is = record { n = is.n; d = is.d; numbers = is.numbers; reads = more is.n is.d is.numbers is.reads; some = is.some; out = is.out }

pub last_same : (xs ys : List ℕ) (c : ℕ) → xs ++ c ∷ [] ≡ ys ++ c ∷ [] → xs ≡ ys
last_same [] [] c e = refl
last_same [] (y ∷ []) c e = absurd (let h = ap length e in omega arith)
last_same [] (y ∷ z ∷ ys) c e = absurd (let h = ap length e in omega arith)
last_same (x ∷ []) [] c e = absurd (let h = ap length e in omega arith)
last_same (x ∷ z ∷ xs) [] c e = absurd (let h = ap length e in omega arith)
last_same (x ∷ xs) (y ∷ ys) c e =
    let first : x ≡ y = cc in
    let later : xs ++ c ∷ [] ≡ ys ++ c ∷ [] = cc in
    let rest : xs ≡ ys = last_same xs ys c later in
    cc

pub percent_answers : (text front : List ℕ) (r : Result SignedTerms TextRefusal) → text ≡ front ++ percent_sign ∷ [] → AnswersTerms (IsShareText true front) r → AnswersTerms (IsTypedText text) r
percent_answers text front r cut is = into (IsShareText true front) (IsTypedText text) (λ n d numbers reads. inr (inr (record { front = front; cut = cut; value = reads }))) none r is
  where
    none : ((n d : ℤ) (numbers : List ℕ) → ¬ (IsShareText true front n d numbers)) → (n d : ℤ) (numbers : List ℕ) → ¬ (IsTypedText text n d numbers)
    none no_share n d numbers (inl share) = no_plain_percent text front n share.base numbers share.plain cut
    none no_share n d numbers (inr (inl mixed)) = no_mixed_percent text front n d numbers mixed cut
    none no_share n d numbers (inr (inr percent)) =
        no_share n d numbers (subst (λ xs. IsShareText true xs n d numbers) (last_same percent.front front percent_sign (sym percent.cut ∙ cut)) percent.value)

pub plain_answers : (text : List ℕ) (r : Result SignedTerms TextRefusal) → ((front : List ℕ) → ¬ (text ≡ front ++ percent_sign ∷ [])) → ((s : Bool) (ws ns ds : List ℕ) → ¬ (HasMixedParts text s ws ns ds))
    → AnswersTerms (IsShareText false text) r → AnswersTerms (IsTypedText text) r
plain_answers text r no_percent no_mixed is = into (IsShareText false text) (IsTypedText text) (λ n d numbers reads. inl reads) none r is
  where
    none : ((n d : ℤ) (numbers : List ℕ) → ¬ (IsShareText false text n d numbers)) → (n d : ℤ) (numbers : List ℕ) → ¬ (IsTypedText text n d numbers)
    none no_share n d numbers (inl share) = no_share n d numbers share
    none no_share n d numbers (inr (inl mixed)) = no_mixed mixed.below mixed.whole mixed.over mixed.base mixed.parts
    none no_share n d numbers (inr (inr percent)) = no_percent percent.front percent.cut

-- ---- in the type

-- terms that need more than 128 bits are not in range
wide_out : (lo hi : ℤ) (bits : ℕ) (n d : ℤ) → IsRange lo hi → HasWidth lo hi bits → IsWide (unsigned_abs n) (unsigned_abs d) → ¬ (Fits lo hi n d)
wide_out lo hi bits n d range width wide fits =
    let a = fits.numer in
    let b = fits.denom in
    let low = fits.low in
    let positive = low.terms.lowest.positive in
    let sizes : unsigned_abs n * unsigned_abs b ≡ unsigned_abs a * unsigned_abs d = unsigned_abs-products n b a d low.terms.same in
    let first = small_magnitude lo hi bits a range width low.numer_held in
    let second = small_magnitude lo hi bits b range width low.denom_held in
    elim (wide.each (unsigned_abs a) (unsigned_abs b) (size_some b positive) (sym sizes)) [
      | inl large ↦ omega arith
      | inr large ↦ omega arith
    ]
  where
    size_some : (z : ℤ) → pos 0 <ℤ z → 0 < unsigned_abs z
    size_some (pos n) h = omega (arith, ints)
    size_some (negsuc n) h = absurd (omega (arith, ints))

pub refused : {R : Type 0} (numer denom : R → ℤ) (lo hi : ℤ) (bits : ℕ) (text : List ℕ) (refusal : TextRefusal) → IsRange lo hi → HasWidth lo hi bits → AnswersTerms (IsTypedText text) (Err refusal)
    → AnswersTyped {R = R} numer denom lo hi text (Err refusal)
refused numer denom lo hi bits text NotNumber range width none = none
refused numer denom lo hi bits text ZeroDenominator range width is = is
refused numer denom lo hi bits text NotHeld range width is = record {
  n = is.n;
  d = is.d;
  numbers = is.numbers;
  reads = is.reads;
  some = is.some;
  out = λ h. wide_out lo hi bits is.n is.d range width (is.out h.0) h.1;
}

pub not_held : {R : Type 0} (numer denom : R → ℤ) (lo hi : ℤ) (text : List ℕ) (a b : ℤ) → ReadsTerms (IsTypedText text) a b → ¬ (IsHeld lo hi a × IsHeld lo hi b) → TypedNotHeld lo hi text
not_held {R} numer denom lo hi text a b is out = record {
  n = is.n;
  d = is.d;
  numbers = is.numbers;
  reads = is.reads;
  some = is.terms.fraction;
  out = λ h. lowest_out {R = R} numer denom lo hi is.n is.d a b is.terms out h.1;
}
