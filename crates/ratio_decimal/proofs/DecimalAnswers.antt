-- What reading a decimal returns, from the lowest terms of its digits in 128 bits.
use Rattle.std.specs.Prelude.{◌≡◌, ◌*◌, ◌^◌, ◌<◌, ◌≤◌, ◌<ℤ◌, ◌+ℤ◌, ◌-ℤ◌, ℕ, ℤ, zero, suc, pos, negsuc, neg_ℤ, unsigned_abs, Bool, true, List, ◌++◌, length}
use Rattle.std.specs.Int.{◌∣◌, w128}
use Rattle.std.specs.Int.RustNames.{FitsSigned}
use Rattle.std.proofs.Common.{refl, sym, ap, subst, arith, inl, inr, ◌∙◌}
use Rattle.std.proofs.lemmas.Int.{ints}
use Rattle.ratio_integer.specs.Fraction.{Fits, IsLowestTermsOf}
use Rattle.ratio_integer.specs.Range.{IsHeld, IsRange}
use Rattle.ratio_integer.proofs.Whole.{unsigned_abs-products}
use Rattle.ratio_decimal.specs.DecimalCuts.{IsWide}
use Rattle.ratio_decimal.specs.DecimalReading.{HasDecimalParts, IsDecimalText, tens_above, tens_below}
use Rattle.ratio_core.specs.Signs.{with_sign}
use Rattle.ratio_core.specs.Reading.{ReadsLowest, digits_sum}
use Rattle.ratio_decimal.proofs.DecimalTerms.{same_products}
use Rattle.ratio_core.proofs.SignedNumbers.{size_is, with_sign-mul}
use Rattle.ratio_core.proofs.PrintingLemmas.{small_magnitude}
use Rattle.ratio_decimal.proofs.RoundingRuleLemmas.{sides}
use Rattle.ratio_core.proofs.WidthLemmas.{wide_signed}

-- ---- what a type of at most 128 bits has

abbrev pub HasWidth : ℤ → ℤ → ℕ → Type 0
HasWidth lo hi bits = (bits ≤ 128) × (hi +ℤ pos 1 ≡ lo +ℤ pos (2 ^ bits))

-- a number that is not above 0, and is in range, fits `i128`
negative_fits : (lo hi : ℤ) (bits size : ℕ) → IsRange lo hi → HasWidth lo hi bits → IsHeld lo hi (neg_ℤ (pos size)) → FitsSigned w128 (neg_ℤ (pos size))
negative_fits lo hi bits zero range width held = record { sfits = omega (arith, ints) }
negative_fits lo hi bits (suc n) range width held =
    elim (sides lo) [
      | inl below ↦ wide_signed lo hi bits range below width (negsuc n) held
      | inr above ↦ absurd (let low = held.above in omega (arith, ints))
    ]

pub signed_out : (lo hi : ℤ) (bits : ℕ) (below : Bool) (size : ℕ) → IsRange lo hi → HasWidth lo hi bits → below ≡ true → ¬ (FitsSigned w128 (pos 0 -ℤ pos size)) → ¬ (IsHeld lo hi (with_sign below size))
signed_out lo hi bits below size range width is out held =
    let same : neg_ℤ (pos size) ≡ pos 0 -ℤ pos size = omega (arith, ints) in
    out (subst (FitsSigned w128) same (negative_fits lo hi bits size range width (subst (λ b. IsHeld lo hi (with_sign b size)) is held)))

-- ---- the lowest terms, with a sign

pub signed_terms : (s : Bool) (n d p q : ℕ) → IsLowestTermsOf (pos n) (pos d) (pos p) (pos q) → IsLowestTermsOf (with_sign s n) (pos d) (with_sign s p) (pos q)
signed_terms s n d p q is = record {
  fraction = is.fraction;
  same = with_sign-mul s n q ∙ ap (with_sign s) (same_products n d p q is) ∙ sym (with_sign-mul s p d);
  lowest = record { positive = is.lowest.positive; only_one = λ k left right. is.lowest.only_one k (subst (λ x. k ∣ x) (size_is s p) left) right };
}

-- terms that need more than 128 bits are not in range
pub wide_out : (lo hi : ℤ) (bits : ℕ) (s : Bool) (n d : ℕ) → IsRange lo hi → HasWidth lo hi bits → IsWide n d → ¬ (Fits lo hi (with_sign s n) (pos d))
wide_out lo hi bits s n d range width wide fits =
    let a = fits.numer in
    let b = fits.denom in
    let low = fits.low in
    let positive = low.terms.lowest.positive in
    let sizes : unsigned_abs (with_sign s n) * unsigned_abs b ≡ unsigned_abs a * d = unsigned_abs-products (with_sign s n) b a (pos d) low.terms.same in
    let same : unsigned_abs a * d ≡ n * unsigned_abs b = sym sizes ∙ ap (λ x. x * unsigned_abs b) (size_is s n) in
    let first = small_magnitude lo hi bits a range width low.numer_held in
    let second = small_magnitude lo hi bits b range width low.denom_held in
    elim (wide.each (unsigned_abs a) (unsigned_abs b) (size_some b positive) same) [
      | inl large ↦ omega arith
      | inr large ↦ omega arith
    ]
  where
    size_some : (z : ℤ) → pos 0 <ℤ z → 0 < unsigned_abs z
    size_some (pos n) h = omega (arith, ints)
    size_some (negsuc n) h = absurd (omega (arith, ints))

-- ---- the text

pub no_reading : (text : List ℕ) → ((below : Bool) (whole part : List ℕ) (down : Bool) (exponent : List ℕ) → ¬ (HasDecimalParts text below whole part down exponent)) → (n d : ℤ) → ¬ (IsDecimalText text n d)
no_reading text none n d is = none is.below is.whole is.part is.down is.exponent is.parts

pub reading : (text : List ℕ) (below : Bool) (whole part : List ℕ) (down : Bool) (exponent : List ℕ) → HasDecimalParts text below whole part down exponent
    → IsDecimalText text (with_sign below (digits_sum 10 (whole ++ part) * tens_above down (digits_sum 10 exponent))) (pos (10 ^ length part * tens_below down (digits_sum 10 exponent)))
reading text below whole part down exponent parts =
    record { below = below; whole = whole; part = part; down = down; exponent = exponent; parts = parts; numer = refl; denom = refl }

pub held_reading : {T : Type 0} (value : T → ℤ) (lo hi : ℤ) (text : List ℕ) (s : Bool) (n d p q : ℕ) (a b : T) → IsDecimalText text (with_sign s n) (pos d) → IsLowestTermsOf (pos n) (pos d) (pos p) (pos q)
    → IsHeld lo hi (with_sign s p) × (value a ≡ with_sign s p) → IsHeld lo hi (pos q) × (value b ≡ pos q) → ReadsLowest lo hi (IsDecimalText text) (value a) (value b)
held_reading value lo hi text s n d p q a b reads terms first second = rw (first.1, second.1) (record {
  n = with_sign s n;
  d = pos d;
  reads = reads;
  low = record { terms = signed_terms s n d p q terms; numer_held = first.0; denom_held = second.0 };
})
