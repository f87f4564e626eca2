-- What is written reads back as the same fraction.
use Rattle.std.proofs.Common.{◌≡◌, refl, sym, ◌∙◌, ap, subst, inl, inr, arith, lit<, lit≤, ℕ, zero, suc, ◌^◌, ◌<◌, ℤ, pos, negsuc, neg_ℤ, Bool, true, false, List, [], ◌∷◌, length, Some, None, Result, Ok, Err}
use Rattle.std.specs.Prelude.{unsigned_abs, nat_lt, option_and_then, if◌then◌else◌}
use Rattle.std.specs.Str.Parse.{IsNumeral, digits_value}
use Rattle.std.proofs.lemmas.Int.{ints}
use Rattle.serde_json.specs.Data.{Data, number, string}
use Rattle.serde_json.specs.Find.{as_integer, as_number, of_integer}
use Rattle.ratio_integer.specs.Fraction.{IsLowestTerms}
use Rattle.ratio_integer.proofs.LowestTerms.{lowest_own, lowest_unique}
use Rattle.ratio_natural.specs.Decimal.{decimal_text}
use Rattle.ratio_natural.proofs.PrintingLemmas.{decimal_digits, decimal_value}
use Rattle.ratio_core.specs.Reading.{digits_sum}
use Rattle.ratio_core.proofs.CutLemmas.{only_number}
use Rattle.ratio_core.proofs.NumberLemmas.{digits_value_sum}
use Rattle.ratio_decimal.specs.Decimal.{places_text}
use Rattle.num_rational.specs.Json.{list_of_two}
use Rattle.num_rational.specs.declared.json.JsonRatioError.{JsonRatioError}
use Rattle.num_rational.specs.declared.json.JsonRatioError.TheVariants.{NotAPair, NotAnInteger, ZeroDenominator}
use Rattle.ratio_big.specs.Fractions.{big_numbers}
use Rattle.ratio_big.specs.Values.{HasTerms}
use Rattle.ratio_big.specs.declared.fraction.BigFraction.{BigFraction}
use Rattle.ratio_json.specs.BigJson.{AnswersBigJson, IsJsonText, IsJsonWhole, ReadsWhole, ratio_json, json_whole}
use Rattle.ratio_json.proofs.WholeLemmas.{pair_same}

-- ---- a number that is written is read

some_digit : (ds : List ℕ) (n : ℕ) → digits_value 10 ds ≡ suc n → 0 < length ds
some_digit [] n value = absurd (let h : 0 ≡ suc n = value in omega (arith, h))
some_digit (d ∷ ds) n value = omega arith

numeral : (n : ℕ) → IsNumeral 10 (decimal_text n)
numeral zero = (lit< tt, decimal_digits 0)
numeral (suc n) = (some_digit (decimal_text (suc n)) n (decimal_value (suc n)), decimal_digits (suc n))

sum_is : (n : ℕ) → n ≡ digits_sum 10 (decimal_text n)
sum_is n = sym (decimal_value n) ∙ digits_value_sum 10 (decimal_text n)

text_back : (z : ℤ) → ReadsWhole (places_text 0 z) z
text_back (pos n) = inl (numeral n, ap pos (sum_is n))
text_back (negsuc n) = inr (inr (decimal_text (suc n), omega (arith, ints), refl, numeral (suc n), ap (λ k. neg_ℤ (pos k)) (sum_is (suc n))))

number_back : (z : ℤ) → option_and_then as_integer (as_number (number (of_integer z))) ≡ Some z
number_back (pos n) = refl
number_back (negsuc n) = refl

pub written_read : (z : ℤ) → IsJsonWhole (json_whole z) z
written_read z = by (nat_lt (2 ^ 53) (unsigned_abs z))
  where
    by : (b : Bool) → IsJsonWhole (if b then string (places_text 0 z) else number (of_integer z)) z
    by true = inr (record { text = places_text 0 z; kept = refl; reads = text_back z })
    by false = inl (number_back z)

-- ---- a value is one number at most

not_both : (v : Data) (z y : ℤ) → option_and_then as_integer (as_number v) ≡ Some z → IsJsonText v y → ⊥
not_both v z y whole text = let h : Some z ≡ None = sym whole ∙ ap (λ x. option_and_then as_integer (as_number x)) text.kept in cc

pub only_whole : (v : Data) (z y : ℤ) → IsJsonWhole v z → IsJsonWhole v y → z ≡ y
only_whole v z y (inl a) (inl b) = let h : Some z ≡ Some y = sym a ∙ b in cc
only_whole v z y (inl a) (inr b) = absurd (not_both v z y a b)
only_whole v z y (inr a) (inl b) = absurd (not_both v y z b a)
only_whole v z y (inr a) (inr b) =
    let h : string a.text ≡ string b.text = sym a.kept ∙ b.kept in
    let same : a.text ≡ b.text = cc in
    only_number (negsuc 0) 10 b.text z y (lit≤ tt) (subst (λ xs. ReadsWhole xs z) same a.reads) b.reads

-- ---- fractions

first_of : (a b x y : Data) → list_of_two a b ≡ list_of_two x y → a ≡ x
first_of a b x y e = cc

second_of : (a b x y : Data) → list_of_two a b ≡ list_of_two x y → b ≡ y
second_of a b x y e = cc

only_written : (z y : ℤ) (v : Data) → json_whole z ≡ v → IsJsonWhole v y → y ≡ z
only_written z y v same whole = only_whole v y z whole (subst (λ x. IsJsonWhole x z) same (written_read z))

pub fraction_back : (x : ℤ × ℤ) (answer : Result BigFraction JsonRatioError) → IsLowestTerms x.0 x.1 → AnswersBigJson (ratio_json x) answer → (r : BigFraction) × (answer ≡ Ok r) × (big_numbers r ≡ x)
fraction_back x (Ok r) low h =
    let numer = only_written x.0 h.n h.reads.first (first_of _ _ _ _ h.reads.list) h.reads.numer in
    let denom = only_written x.1 h.d h.reads.second (second_of _ _ _ _ h.reads.list) h.reads.denom in
    let terms = subst (λ (d : ℤ). HasTerms (x.0, d) (big_numbers r)) denom (subst (λ (n : ℤ). HasTerms (n, h.d) (big_numbers r)) numer h.terms) in
    let same = lowest_unique x.0 x.1 (big_numbers r).0 (big_numbers r).1 x.0 x.1 terms (lowest_own x.0 x.1 low) in
    (r, refl, pair_same (big_numbers r) x.0 x.1 same.0 same.1)
fraction_back x (Err NotAPair) low h = absurd (h (json_whole x.0) (json_whole x.1) refl)
fraction_back x (Err NotAnInteger) low h =
    absurd (elim h.other [
      | inl other ↦ other x.0 (subst (λ v. IsJsonWhole v x.0) (first_of _ _ _ _ h.list) (written_read x.0))
      | inr other ↦ other x.1 (subst (λ v. IsJsonWhole v x.1) (second_of _ _ _ _ h.list) (written_read x.1))
    ])
fraction_back x (Err ZeroDenominator) low h =
    let zero : pos 0 ≡ x.1 = only_written x.1 (pos 0) h.1.second (second_of _ _ _ _ h.1.list) h.1.denom in
    absurd (omega (arith, ints, low.positive, zero))
