-- The laws of typed texts: what the calls for decimals and for printed fractions read, is read alike.
use Rattle.std.specs.Prelude.{◌≡◌, ◌*◌, ◌^◌, ◌<◌, ◌<ℤ◌, ◌*ℤ◌, ℕ, ℤ, pos, negsuc, neg_ℤ, unsigned_abs, Bool, true, false, List, [], ◌∷◌, ◌++◌}
use Rattle.std.specs.Str.Parse.{IsNumeral}
use Rattle.std.proofs.Common.{refl, sym, ap, subst, arith, inl, inr, ◌∙◌, append-nil}
use Rattle.std.proofs.lemmas.Int.{ints}
use Rattle.ratio_integer.specs.Range.{IsHeld}
use Rattle.ratio_decimal.specs.DecimalReading.{IsDecimalText}
use Rattle.ratio_core.specs.Signs.{with_sign}
use Rattle.ratio_core.specs.Reading.{IsFractionText, IsNumberText, IsSlashedText, digits_sum, plus, minus}
use Rattle.ratio_laws.specs.TypedLaws.{DecimalsAreTyped, FractionsAreTyped, IsBelowPower, WideDecimalsAreTyped}
use Rattle.ratio_decimal.specs.TypedText.{AreSmall, IsPlainText, IsTypedText, IsWholeText, ReadsTyped}
use Rattle.ratio_core.proofs.SignedNumbers.{size_is}
use Rattle.ratio_decimal.proofs.TypedAnswers.{decimal_some}

-- ---- decimals

one_times : (z : ℤ) → z ≡ pos 1 *ℤ z
one_times (pos n) = omega (arith, ints)
one_times (negsuc n) = omega (arith, ints)

plain_typed : (text : List ℕ) (n d : ℤ) (numbers : List ℕ) → IsPlainText text n d numbers → IsTypedText text n d numbers
plain_typed text n d numbers is = inl (record { base = d; plain = is; denom = one_times d })

pub decimals_typed : DecimalsAreTyped
decimals_typed lo hi text a b is = record { n = is.n; d = is.d; numbers = []; reads = plain_typed text is.n is.d [] (inl (is.reads, refl)); small = tt; low = is.low }

pub wide_decimals_typed : WideDecimalsAreTyped
wide_decimals_typed lo hi text is = record { n = is.n; d = is.d; numbers = []; reads = plain_typed text is.n is.d [] (inl (is.reads, refl)); some = decimal_some text is.n is.d is.reads; out = λ h. is.out h.1 }

-- ---- fractions

-- a number text is a whole number
record IsWholeOf (text : List ℕ) (z : ℤ) : Type 0 where
  below : Bool
  digits : List ℕ
  whole : IsWholeText text below digits
  value : z ≡ with_sign below (digits_sum 10 digits)

whole_of : (lo : ℤ) (text : List ℕ) (z : ℤ) → IsNumberText lo 10 text z → IsWholeOf text z
whole_of lo text z (inl (numeral, e)) = record { below = false; digits = text; whole = record { sign = []; cut = refl; signed = inl refl; numeral = numeral }; value = e }
whole_of lo text z (inr (inl (digits, cut, numeral, e))) = record { below = false; digits = digits; whole = record { sign = plus ∷ []; cut = cut; signed = inr refl; numeral = numeral }; value = e }
whole_of lo text z (inr (inr (digits, less, cut, numeral, e))) = record { below = true; digits = digits; whole = record { sign = minus ∷ []; cut = cut; signed = refl; numeral = numeral }; value = e }

small_of : (lo hi z : ℤ) (below : Bool) (n : ℕ) → IsBelowPower lo hi → IsHeld lo hi z → z ≡ with_sign below n → n < 2 ^ 128
small_of lo hi z below n range held e =
    let size : unsigned_abs z ≡ n = ap unsigned_abs e ∙ size_is below n in
    let above = range.above in
    let least = range.below in
    let first = held.above in
    let last = held.below in
    subst (λ x. x < 2 ^ 128) size (by z (omega (arith, ints)) (omega (arith, ints)))
  where
    by : (z : ℤ) → neg_ℤ (pos (2 ^ 128)) <ℤ z → z <ℤ pos (2 ^ 128) → unsigned_abs z < 2 ^ 128
    by (pos n) a b = omega (arith, ints)
    by (negsuc n) a b = omega (arith, ints)

slashed_typed : (lo hi : ℤ) (text : List ℕ) (n d : ℤ) → IsBelowPower lo hi → IsSlashedText lo hi 10 text n d → (numbers : List ℕ) × IsTypedText text n d numbers × AreSmall numbers
slashed_typed lo hi text n d range is =
    let over = whole_of lo is.front n is.sides.numer.number in
    let under = whole_of lo is.back d is.sides.denom.number in
    let numbers = digits_sum 10 over.digits ∷ digits_sum 10 under.digits ∷ [] in (
      numbers,
      plain_typed text n d numbers (inr (record {
        below = over.below;
        over = over.digits;
        under = under.below;
        base = under.digits;
        parts = record { front = is.front; back = is.back; cut = is.cut; first = over.whole; second = under.whole };
        numer = over.value;
        denom = under.value;
        written = refl;
      })),
      (small_of lo hi n over.below (digits_sum 10 over.digits) range is.sides.numer.held over.value, (small_of lo hi d under.below (digits_sum 10 under.digits) range is.sides.denom.held under.value, tt)),
    )

whole_decimal : (text : List ℕ) (z d : ℤ) → IsWholeOf text z → d ≡ pos 1 → IsDecimalText text z d
whole_decimal text z d is one =
    let bare : is.digits ≡ is.digits ++ [] = sym (append-nil is.digits) in
    record {
      below = is.below;
      whole = is.digits;
      part = [];
      down = false;
      exponent = [];
      parts = record {
        sign = is.whole.sign;
        pointed = is.digits;
        scale = [];
        cut = is.whole.cut ∙ ap (λ xs. is.whole.sign ++ xs) bare;
        signed = is.whole.signed;
        number = record { cut = inr (refl, refl); digits = subst (IsNumeral 10) bare is.whole.numeral };
        scaled = inr (refl, refl, refl);
      };
      numer = is.value ∙ ap (with_sign is.below) (times_one _ _ (ap (digits_sum 10) bare));
      denom = one;
    }
  where
    times_one : (x y : ℕ) → x ≡ y → x ≡ y * 1
    times_one x y e = omega arith

pub fractions_typed : FractionsAreTyped
fractions_typed lo hi text a b range is = by is.reads
  where
    by : IsFractionText lo hi text is.n is.d → ReadsTyped lo hi text a b
    by (inl slashed) =
        let typed = slashed_typed lo hi text is.n is.d range slashed in
        record { n = is.n; d = is.d; numbers = typed.0; reads = typed.1; small = typed.2; low = is.low }
    by (inr (whole, one)) =
        record { n = is.n; d = is.d; numbers = []; reads = plain_typed text is.n is.d [] (inl (whole_decimal text is.n is.d (whole_of lo text is.n whole.number) one, refl)); small = tt; low = is.low }
