-- Whole numbers in JSON values and in texts, over 1, and the quotient of two.
use Rattle.std.proofs.Common.{◌≡◌, ◌≢◌, refl, sym, ◌∙◌, ap, subst, inl, inr, arith, lit≤, ℕ, suc, ◌<◌, ◌≤◌, ◌*ℤ◌, ◌<ℤ◌, ℤ, pos, negsuc, List, [], ◌∷◌, Option, Some, None, Err}
use Rattle.std.specs.Prelude.{◌↔◌, All, Bool, false, is_some, option_and_then, true, IsTrue}
use Rattle.std.specs.Char.{digit_value}
use Rattle.std.specs.Str.Parse.{AllDigits, without_leading_sign, IsNumeral, signed_digits_value}
use Rattle.std.proofs.lemmas.Int.{ints}
use Rattle.std.proofs.lemmas.List.Elements.{All-cons}
use Rattle.serde_json.specs.Data.{Data, array, boolean, null, number, object, string}
use Rattle.serde_json.specs.Find.{as_integer, as_number, as_str}
use Rattle.ratio_integer.specs.Arithmetic.{quotient_of}
use Rattle.ratio_integer.specs.Range.{IsHeld}
use Rattle.ratio_integer.proofs.LowestTerms.{held_lowest_over_one, lowest_own, lowest_unique, over_one}
use Rattle.ratio_core.specs.Reading.{IsFractionText, IsNumberText, IsSlashedText, NoneFits}
use Rattle.ratio_core.specs.declared.parse_error.RatioErrorKind.{RatioErrorKind}
use Rattle.ratio_core.specs.declared.parse_error.RatioErrorKind.TheVariants.{ParseError, ZeroDenominator}
use Rattle.ratio_core.proofs.CutLemmas.{no_slash, no_slashed}
use Rattle.ratio_core.proofs.NumberLemmas.{from_signed, to_signed}
use Rattle.num_rational.specs.Json.{list_of_two}
use Rattle.ratio_big.specs.Fractions.{GivesBigQuotient, big_numbers}
use Rattle.ratio_big.specs.Texts.{AnswersBigText, IsBigText, ReadsBig}
use Rattle.ratio_big.specs.Values.{HasTerms}
use Rattle.ratio_big.specs.declared.fraction.BigFraction.{BigFraction}
use Rattle.ratio_big.proofs.TextLemmas.{big_text_of, number_whole}
use Rattle.ratio_json.specs.BigJson.{AreJsonWholes, DividesJsonWholes, GivesWhole, HasWhole, IsJsonFraction, IsJsonWhole, ReadsSome, ReadsWhole}

-- ---- digits

pub each_digit : (ds : List ℕ) → AllDigits 10 ds → All (λ d. digit_value d < 10) ds
each_digit [] all = λ k e h. absurd (omega (arith, h))
each_digit (d ∷ ds) all = All-cons (λ (d : ℕ). digit_value d < 10) d ds all.0 (each_digit ds all.1)

pub all_digits : (ds : List ℕ) → All (λ d. digit_value d < 10) ds → AllDigits 10 ds
all_digits [] each = tt
all_digits (d ∷ ds) each = (each 0 d (omega arith), all_digits ds (λ k e h. each (suc k) e (omega (arith, h))))

-- ---- texts

pub whole_text : (text : List ℕ) → IsNumeral 10 (without_leading_sign text) → HasWhole (ReadsWhole text)
whole_text text digits = (signed_digits_value 10 text, from_signed (negsuc 0) 10 text (omega (arith, ints)) digits)

pub text_whole : (text : List ℕ) → HasWhole (ReadsWhole text) → IsNumeral 10 (without_leading_sign text)
text_whole text has = (to_signed (negsuc 0) 10 text has.0 (lit≤ tt) has.1).0

-- over any range with numbers below 0 a text reads as the same number
pub in_range : (lo mo : ℤ) (text : List ℕ) (z : ℤ) → mo <ℤ pos 0 → IsNumberText lo 10 text z → IsNumberText mo 10 text z
in_range lo mo text z signed (inl h) = inl h
in_range lo mo text z signed (inr (inl h)) = inr (inl h)
in_range lo mo text z signed (inr (inr h)) = inr (inr (h.0, signed, h.2, h.3, h.4))

not_slashed : (lo hi : ℤ) (text : List ℕ) (z n d : ℤ) → ReadsWhole text z → ¬ (IsSlashedText lo hi 10 text n d)
not_slashed lo hi text z n d whole = no_slashed lo hi 10 text (no_slash (negsuc 0) 10 text z (lit≤ tt) whole) n d

-- a text of a whole number is not refused
pub not_refused : (text : List ℕ) → HasWhole (ReadsWhole text) → (kind : RatioErrorKind) → AnswersBigText text (Err kind) → ⊥
not_refused text has ParseError none =
    let parts = number_whole (negsuc 0) text has.0 has.1 in
    none _ _ (big_text_of text parts.0 parts.1 false (49 ∷ []) (inr (parts.2, refl, refl)))
not_refused text has ZeroDenominator over =
    elim over.1.reads [
      | inl slashed ↦ not_slashed over.1.lo over.1.hi text has.0 over.0 (pos 0) has.1 slashed
      | inr alone ↦ (let no : pos 0 ≡ pos 1 = alone.1 in cc)
    ]

-- ---- over 1

pub pair_same : (x : ℤ × ℤ) (n d : ℤ) → x.0 ≡ n → x.1 ≡ d → x ≡ (n, d)
pair_same x n d first second = ap (λ y. (y, x.1)) first ∙ ap (λ y. (n, y)) second

pub over_one_only : (n : ℤ) (x : ℤ × ℤ) → HasTerms (n, pos 1) x → x ≡ (n, pos 1)
over_one_only n x terms =
    let same = lowest_unique n (pos 1) x.0 x.1 n (pos 1) terms (lowest_own n (pos 1) (over_one n (pos 1) refl)) in
    pair_same x n (pos 1) same.0 same.1

pub text_read : (text : List ℕ) (r : BigFraction) → HasWhole (ReadsWhole text) → ReadsBig (IsBigText text) r → GivesWhole (ReadsWhole text) r
text_read text r has read =
    elim read.reads.reads [
      | inl slashed ↦ absurd (not_slashed read.reads.lo read.reads.hi text has.0 read.n read.d has.1 slashed)
      | inr alone ↦ (
        read.n,
        in_range read.reads.lo (negsuc 0) text read.n (omega (arith, ints)) alone.0.number,
        over_one_only read.n (big_numbers r) (subst (λ (d : ℤ). HasTerms (read.n, d) (big_numbers r)) alone.1 read.terms),
      )
    ]

-- 0 fits, so a text of it takes no memory
pub not_zero : (m : ℕ) (text : List ℕ) (z : ℤ) → 1 ≤ m → ReadsWhole text z → NoneFits (negsuc m) (pos m) (IsFractionText (negsuc m) (pos m) text) → z ≢ pos 0
not_zero m text z some whole none zero = (none.each z (pos 1) (inr (record { number = in_range (negsuc 0) (negsuc m) text z (omega (arith, ints)) whole; held = held }, refl))).1 (
    record { numer = z; denom = pos 1; low = held_lowest_over_one (negsuc m) (pos m) z (pos 1) held one_held refl })
  where
    held : IsHeld (negsuc m) (pos m) z
    held = subst (IsHeld (negsuc m) (pos m)) (sym zero) (record { above = omega (arith, ints); below = omega (arith, ints) })

    one_held : IsHeld (negsuc m) (pos m) (pos 1)
    one_held = record { above = omega (arith, ints); below = omega (arith, ints, some) }

-- ---- JSON values

is_string : (v : Data) (s : List ℕ) → Some s ≡ as_str v → v ≡ string s
is_string null s e = absurd (let h : Some s ≡ None = e in cc)
is_string (boolean b) s e = absurd (let h : Some s ≡ None = e in cc)
is_string (number n) s e = absurd (let h : Some s ≡ None = e in cc)
is_string (string t) s e = let h : Some s ≡ Some t = e in let same : s ≡ t = cc in ap string (sym same)
is_string (array ds) s e = absurd (let h : Some s ≡ None = e in cc)
is_string (object ms) s e = absurd (let h : Some s ≡ None = e in cc)

pub text_kept : (v : Data) (s : List ℕ) (z : ℤ) → Some s ≡ as_str v → ReadsWhole s z → IsJsonWhole v z
text_kept v s z is whole = inr (record { text = s; kept = is_string v s is; reads = whole })

pub text_of_whole : (v : Data) (s : List ℕ) (z : ℤ) → Some s ≡ as_str v → IsJsonWhole v z → ReadsWhole s z
text_of_whole v s z is (inl whole) =
    let h : None ≡ Some z = sym (ap (λ x. option_and_then as_integer (as_number x)) (is_string v s is)) ∙ whole in absurd (cc)
text_of_whole v s z is (inr text) =
    let h : Some s ≡ Some text.text = is ∙ ap as_str text.kept in
    let same : text.text ≡ s = cc in
    subst (λ xs. ReadsWhole xs z) same text.reads

pub number_of_whole : (v : Data) (z : ℤ) → None ≡ as_str v → IsJsonWhole v z → option_and_then as_integer (as_number v) ≡ Some z
number_of_whole v z none (inl whole) = whole
number_of_whole v z none (inr text) = let h : None ≡ Some text.text = none ∙ ap as_str text.kept in absurd (cc)

-- which values are whole numbers: those with a text of one, and those with a number that is not kept as a float
pub text_found : (v : Data) (text bytes : List ℕ) (found : Bool) → Some text ≡ as_str v → bytes ≡ text → (IsTrue found ↔ HasWhole (ReadsWhole bytes)) → IsTrue found ↔ HasWhole (IsJsonWhole v)
text_found v text bytes found is same tells = (
  λ yes. let has = tells.0 yes in (has.0, text_kept v text has.0 is (subst (λ xs. ReadsWhole xs has.0) same has.1)),
  λ has. tells.1 (has.0, subst (λ xs. ReadsWhole xs has.0) (sym same) (text_of_whole v text has.0 is has.1)),
)

pub integer_found : (v : Data) (r : Option ℤ) (found : Bool) → None ≡ as_str v → r ≡ option_and_then as_integer (as_number v) → found ≡ is_some r → IsTrue found ↔ HasWhole (IsJsonWhole v)
integer_found v (Some z) found none is tells = (λ yes. (z, inl (sym is)), λ has. tells)
integer_found v None found none is tells = (
  λ yes. absurd (let h : true ≡ false = sym yes ∙ tells in cc),
  λ has. absurd (let h : None ≡ Some has.0 = is ∙ number_of_whole v has.0 none has.1 in cc),
)

-- ---- quotients

quotient_terms : (n d : ℤ) (x : ℤ × ℤ) → HasTerms (n *ℤ pos 1, pos 1 *ℤ d) x → HasTerms (n, d) x
quotient_terms n d x terms =
    let numer : n *ℤ pos 1 ≡ n = omega (arith, ints) in
    let denom : pos 1 *ℤ d ≡ d = omega (arith, ints) in
    subst (λ (k : ℤ). HasTerms (n, k) x) denom (subst (λ (k : ℤ). HasTerms (k, pos 1 *ℤ d) x) numer terms)

pub divides : (a b : Data) (x y : BigFraction) → GivesWhole (IsJsonWhole a) x → GivesWhole (IsJsonWhole b) y → (q : Option BigFraction) → GivesBigQuotient (big_numbers x) (big_numbers y) q → DividesJsonWholes a b q
divides a b x y n d None zero = (n.0, (n.1, subst (IsJsonWhole b) (ap (λ (p : ℤ × ℤ). p.0) (sym d.2) ∙ zero) d.1))
divides a b x y n d (Some r) terms = record {
  n = n.0;
  d = d.0;
  reads = (n.1, d.1);
  terms = quotient_terms n.0 d.0 (big_numbers r)
      (subst (λ (q : ℤ × ℤ). HasTerms (quotient_of n.0 (pos 1) q.0 q.1) (big_numbers r)) d.2
      (subst (λ (p : ℤ × ℤ). HasTerms (quotient_of p.0 p.1 (big_numbers y).0 (big_numbers y).1) (big_numbers r)) n.2 terms));
}

-- a list of two of these
pub reads_list : (v a b : Data) → v ≡ list_of_two a b → ReadsSome (AreJsonWholes a b) → ReadsSome (IsJsonFraction v)
reads_list v a b list reads = record {
  n = reads.n;
  d = reads.d;
  reads = record { first = a; second = b; list = list; numer = reads.reads.0; denom = reads.reads.1 };
  some = reads.some;
}
