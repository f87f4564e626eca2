-- The text of a fraction reads as its two numbers, so reading it returns their lowest terms.
use Rattle.std.proofs.Common.{◌≡◌, ◌≢◌, refl, sym, ◌∙◌, ap, subst, inl, inr, arith, ℕ, suc, ◌^◌, ◌<◌, ◌≤◌, Bool, true, false, cond, List, [], ◌∷◌, ◌++◌, ℤ, pos, negsuc, ◌≤ℤ◌, ◌<ℤ◌, neg_ℤ, unsigned_abs, append-nil, lit≤}
use Rattle.std.specs.Prelude.{decimal}
use Rattle.std.specs.Fmt.{signed_decimal}
use Rattle.std.specs.Ordering.{int_eq}
use Rattle.std.specs.Str.Parse.{IsNumeral}
use Rattle.std.proofs.lemmas.Bool.Decides.{Decides-int_eq}
use Rattle.std.proofs.lemmas.Fmt.{decimal_is_IsNumeral_wide}
use Rattle.std.proofs.lemmas.Int.{ints}
use Rattle.ratio_integer.specs.Fraction.{Fits, IsLowestTermsOf}
use Rattle.ratio_integer.specs.Range.{IsHeld, IsRange}
use Rattle.ratio_core.specs.declared.parse_error.RatioErrorKind.{RatioErrorKind}
use Rattle.ratio_core.specs.declared.parse_error.RatioErrorKind.TheVariants.{ParseError, ZeroDenominator}
use Rattle.ratio_core.specs.declared.text.Form.{Form}
use Rattle.ratio_core.specs.declared.text.Form.TheVariants.{Binary, Decimal, LowerHex, Octal, UpperHex}
use Rattle.ratio_core.specs.Printing.{ReadsBack, base_of, number_text, shown_prefix, text_of}
use Rattle.ratio_core.specs.Reading.{digits_sum, IsFractionText, IsNumberText, IsSlashedText, ReadsAs, Refuses, slash}
use Rattle.ratio_core.proofs.CutLemmas.{only_fraction, only_slashed}
use Rattle.ratio_core.proofs.NumberLemmas.{digits_value_sum}
use Rattle.ratio_core.proofs.Numerals.{numeral_back}
use Rattle.ratio_core.proofs.NumbersExist.{positive_fits}

-- the digits that std prints of n read as n
pub decimal_numeral : (n : ℕ) → n < 2 ^ 128 → IsNumeral 10 (decimal n) × (digits_sum 10 (decimal n) ≡ n)
decimal_numeral n small =
    let std = decimal_is_IsNumeral_wide n (omega (arith, small)) in
    (std.0, sym (digits_value_sum 10 (decimal n)) ∙ std.1)

number_back : (lo z : ℤ) → lo ≤ℤ z → unsigned_abs z < 2 ^ 128 → IsNumberText lo 10 (signed_decimal z) z
number_back lo (pos n) above small = let back = decimal_numeral n small in inl (back.0, ap pos (sym back.1))
number_back lo (negsuc n) above small =
    let back = decimal_numeral (suc n) small in
    inr (inr (decimal (suc n), omega (arith, ints, above), refl, back.0, ap (λ k. neg_ℤ (pos k)) (sym back.1)))

reads_number : (lo hi z : ℤ) → IsHeld lo hi z → unsigned_abs z < 2 ^ 128 → ReadsAs lo hi 10 (signed_decimal z) z
reads_number lo hi z held small = record { number = number_back lo z held.above small; held = held }

reads_fields : (lo hi n d : ℤ) (whole : Bool) → int_eq d (pos 1) ≡ whole → IsHeld lo hi n → IsHeld lo hi d → unsigned_abs n < 2 ^ 128 → unsigned_abs d < 2 ^ 128
    → IsFractionText lo hi (signed_decimal n ++ cond whole [] (slash ∷ signed_decimal d)) n d
reads_fields lo hi n d true e n_held d_held n_small d_small =
    inr (subst (λ xs. ReadsAs lo hi 10 xs n) (sym (append-nil (signed_decimal n))) (reads_number lo hi n n_held n_small), (Decides-int_eq d (pos 1)).0 e)
reads_fields lo hi n d false e n_held d_held n_small d_small = inl (record {
  front = signed_decimal n;
  back = signed_decimal d;
  cut = refl;
  sides = record { numer = reads_number lo hi n n_held n_small; denom = reads_number lo hi d d_held d_small };
})

-- ---- the result of a text that reads as n and d alone

module _ (lo hi n d : ℤ) (Reads : ℤ → ℤ → Type 0) (reads : Reads n d) (only : (m e : ℤ) → Reads m e → (m ≡ n) × (e ≡ d)) (fits : Fits lo hi n d) (positive : pos 0 <ℤ d) where
  none_refused : (kind : RatioErrorKind) → ¬ (Refuses lo hi Reads kind)
  none_refused ParseError none = (none.each n d reads).1 fits
  none_refused ZeroDenominator zero =
      let no_denominator : pos 0 ≡ d = (only zero.0 (pos 0) zero.1).1 in
      omega (arith, ints, no_denominator, positive)

  pub only_reading_back : ReadsBack lo hi Reads n d
  only_reading_back = record {
    lowest = λ a b low.
        let same = only low.n low.d low.reads in
        subst (λ x. IsLowestTermsOf x d a b) same.0 (subst (λ y. IsLowestTermsOf low.n y a b) same.1 low.low.terms);
    accepted = none_refused;
  }

-- ---- in decimal

no_prefix : (alternate : Bool) → shown_prefix Decimal alternate ≡ []
no_prefix true = refl
no_prefix false = refl

pub decimal_back : (bits : ℕ) (alternate : Bool) (lo hi n d : ℤ) → IsRange lo hi → IsHeld lo hi n → IsHeld lo hi d → unsigned_abs n < 2 ^ 128 → unsigned_abs d < 2 ^ 128 → pos 0 <ℤ d
    → ReadsBack lo hi (IsFractionText lo hi (text_of bits Decimal alternate n d)) n d
decimal_back bits alternate lo hi n d range n_held d_held n_small d_small positive =
    let bare : List ℕ = signed_decimal n ++ cond (int_eq d (pos 1)) [] (slash ∷ signed_decimal d) in
    let reads : IsFractionText lo hi bare n d = reads_fields lo hi n d (int_eq d (pos 1)) refl n_held d_held n_small d_small in
    let back : ReadsBack lo hi (IsFractionText lo hi bare) n d =
    only_reading_back lo hi n d (IsFractionText lo hi bare) reads (λ m e other. only_fraction lo hi bare m e n d other reads) (positive_fits lo hi n d range n_held d_held positive) positive in
    let shown : (prefix : List ℕ) → prefix ≡ [] → prefix ++ (signed_decimal n ++ cond (int_eq d (pos 1)) [] (slash ∷ (prefix ++ signed_decimal d))) ≡ bare =
    λ prefix none. ap (λ xs. xs ++ (signed_decimal n ++ cond (int_eq d (pos 1)) [] (slash ∷ (xs ++ signed_decimal d)))) none in
    subst (λ text. ReadsBack lo hi (IsFractionText lo hi text) n d) (sym (shown (shown_prefix Decimal alternate) (no_prefix alternate))) back

-- ---- in the base of a form

-- a number that is not below 0 reads in the base as it is printed
number_back_in : (bits : ℕ) (form : Form) (lo hi : ℤ) (n : ℕ) → IsHeld lo hi (pos n) → n < 2 ^ 128 → ReadsAs lo hi (base_of form) (number_text bits form (pos n)) (pos n)
number_back_in bits Decimal lo hi n held small = reads_number lo hi (pos n) held small
number_back_in bits Binary lo hi n held small = let back = numeral_back 2 false n (lit≤ tt) (lit≤ tt) in record { number = inl (back.0, ap pos (sym back.1)); held = held }
number_back_in bits Octal lo hi n held small = let back = numeral_back 8 false n (lit≤ tt) (lit≤ tt) in record { number = inl (back.0, ap pos (sym back.1)); held = held }
number_back_in bits LowerHex lo hi n held small = let back = numeral_back 16 false n (lit≤ tt) (lit≤ tt) in record { number = inl (back.0, ap pos (sym back.1)); held = held }
number_back_in bits UpperHex lo hi n held small = let back = numeral_back 16 true n (lit≤ tt) (lit≤ tt) in record { number = inl (back.0, ap pos (sym back.1)); held = held }

not_below : (bits : ℕ) (form : Form) (lo hi z : ℤ) → pos 0 ≤ℤ z → IsHeld lo hi z → unsigned_abs z < 2 ^ 128 → ReadsAs lo hi (base_of form) (number_text bits form z) z
not_below bits form lo hi (pos n) above held small = number_back_in bits form lo hi n held small
not_below bits form lo hi (negsuc n) above held small = absurd (omega (arith, ints, above))

base_small : (form : Form) → base_of form ≤ 36
base_small Decimal = lit≤ tt
base_small Binary = lit≤ tt
base_small Octal = lit≤ tt
base_small LowerHex = lit≤ tt
base_small UpperHex = lit≤ tt

other_one : (d : ℤ) (b : Bool) → int_eq d (pos 1) ≡ b → d ≢ pos 1 → b ≡ false
other_one d true e other = absurd (other ((Decides-int_eq d (pos 1)).0 e))
other_one d false e other = refl

pub base_back : (bits : ℕ) (form : Form) (lo hi n d : ℤ) → IsRange lo hi → IsHeld lo hi n → IsHeld lo hi d → unsigned_abs n < 2 ^ 128 → unsigned_abs d < 2 ^ 128
    → pos 0 ≤ℤ n → pos 0 <ℤ d → d ≢ pos 1 → ReadsBack lo hi (IsSlashedText lo hi (base_of form) (text_of bits form false n d)) n d
base_back bits form lo hi n d range n_held d_held n_small d_small above positive other =
    let text : List ℕ = text_of bits form false n d in
    let reads : IsSlashedText lo hi (base_of form) text n d = record {
      front = number_text bits form n;
      back = number_text bits form d;
      cut = ap (λ b. number_text bits form n ++ cond b [] (slash ∷ number_text bits form d)) (other_one d (int_eq d (pos 1)) refl other);
      sides = record {
        numer = not_below bits form lo hi n above n_held n_small;
        denom = not_below bits form lo hi d (omega (arith, ints, positive)) d_held d_small;
      };
    } in
    only_reading_back lo hi n d (IsSlashedText lo hi (base_of form) text) reads (λ m e found. only_slashed lo hi (base_of form) text m e n d (base_small form) found reads)
    (positive_fits lo hi n d range n_held d_held positive) positive
