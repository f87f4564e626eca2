-- A text of one or two whole numbers says their fraction.
use Rattle.std.proofs.Common.{◌≡◌, ◌∙◌, ◌*◌, ◌-◌, ◌<◌, ◌≤ℤ◌, FitsSigned, of_z, to_z, w64, ℕ, ℤ, pos, negsuc, Bool, true, false, List, [], ◌∷◌, ◌++◌, Option, Some, None, cond, drop, take, length, refl, sym, ap, subst, inl, inr, arith, append-nil}
use Rattle.std.specs.Prelude.{◌&&◌, ◌==◌, count_by, if◌then◌else◌, slice_index}
use Rattle.std.specs.Char.{is_ascii, is_ascii_digit}
use Rattle.std.specs.List.{list_any, take_while}
use Rattle.std.specs.Str.Parse.{AllDigits, IsNumeral}
use Rattle.std.proofs.lemmas.Bool.Decides.{nat_tests}
use Rattle.std.proofs.lemmas.Int.{ints, to_z-of_z}
use Rattle.std.proofs.lemmas.List.{drop_all}
use Rattle.std.proofs.lemmas.List.Sums.{take_while-cons}
use Rattle.std.proofs.lemmas.Str.Parse.{digit_from_value}
use Rattle.ratio_integer.specs.Range.{IsHeld}
use Rattle.ratio_core.specs.Reading.{IsFractionText, IsNumberText, IsSlashedText, digits_sum, minus, plus, slash}
use Rattle.ratio_core.specs.Signs.{with_sign}
use Rattle.ratio_decimal.specs.DecimalReading.{IsDecimalText}
use Rattle.ratio_decimal.specs.TypedText.{IsPlainText, IsTypedText, IsWholeText, percent_sign}
use Rattle.ratio_big.specs.Values.{HasTerms}
use Rattle.ratio_expressions.specs.Numbers.{IsSaid, SaysNumber, SaysPlainNumber, exponent_digits, is_no_e, mixed_front}
use Rattle.ratio_expressions.specs.Vulgar.{ascii_length, vulgar, with_fraction, with_slash}

-- ---- its numbers are values of an `i64`

held_fits : (z : ℤ) → IsHeld (negsuc 9223372036854775807) (pos 9223372036854775807) z → FitsSigned w64 z
held_fits (pos n) h = let below : pos n ≤ℤ pos 9223372036854775807 = h.below in record { sfits = omega (arith, ints, below) }
held_fits (negsuc n) h = let above : negsuc 9223372036854775807 ≤ℤ negsuc n = h.above in record { sfits = omega (arith, ints, above) }

held_same : (z : ℤ) → IsHeld (negsuc 9223372036854775807) (pos 9223372036854775807) z → to_z w64 (of_z w64 z) ≡ z
held_same z h = to_z-of_z w64 z (held_fits z h)

pub fraction_same : (n d : ℤ) (text : List ℕ) → IsFractionText (negsuc 9223372036854775807) (pos 9223372036854775807) text n d → (to_z w64 (of_z w64 n) ≡ n) × (to_z w64 (of_z w64 d) ≡ d)
fraction_same n d text (inl h) = (held_same n h.sides.numer.held, held_same d h.sides.denom.held)
fraction_same n d text (inr h) = (held_same n h.0.held, ap (λ z. to_z w64 (of_z w64 z)) h.1 ∙ sym h.1)

-- ---- the text is one that a person types

signed_whole : (lo z : ℤ) (text : List ℕ) → IsNumberText lo 10 text z → (below : Bool) × (ds : List ℕ) × IsWholeText text below ds × (z ≡ with_sign below (digits_sum 10 ds))
signed_whole lo z text (inl h) = (false, text, record { sign = []; cut = refl; signed = inl refl; numeral = h.0 }, h.1)
signed_whole lo z text (inr (inl h)) = (false, h.0, record { sign = plus ∷ []; cut = h.1; signed = inr refl; numeral = h.2 }, h.3)
signed_whole lo z text (inr (inr h)) = (true, h.0, record { sign = minus ∷ []; cut = h.2; signed = refl; numeral = h.3 }, h.4)

plain_typed : (text : List ℕ) (n d : ℤ) (numbers : List ℕ) → IsPlainText text n d numbers → IsTypedText text n d numbers
plain_typed text n d numbers h = inl (record { base = d; plain = h; denom = omega (arith, ints) })

slashed_plain : (lo hi : ℤ) (text : List ℕ) (n d : ℤ) → IsSlashedText lo hi 10 text n d → (numbers : List ℕ) × IsPlainText text n d numbers
slashed_plain lo hi text n d h =
    let a = signed_whole lo n h.front h.sides.numer.number in
    let b = signed_whole lo d h.back h.sides.denom.number in (
      digits_sum 10 a.1 ∷ digits_sum 10 b.1 ∷ [],
      inr (record {
        below = a.0;
        over = a.1;
        under = b.0;
        base = b.1;
        parts = record { front = h.front; back = h.back; cut = h.cut; first = a.2; second = b.2 };
        numer = a.3;
        denom = b.3;
        written = refl;
      }),
    )

whole_decimal : (text : List ℕ) (n d : ℤ) (below : Bool) (ds : List ℕ) → IsWholeText text below ds → n ≡ with_sign below (digits_sum 10 ds) → d ≡ pos 1 → IsDecimalText text n d
whole_decimal text n d below ds is value one =
    let same : digits_sum 10 ds ≡ digits_sum 10 (ds ++ []) * 1 = rw (append-nil ds) (omega arith) in
    record {
      below = below;
      whole = ds;
      part = [];
      down = false;
      exponent = [];
      parts = record {
        sign = is.sign;
        pointed = ds;
        scale = [];
        cut = is.cut ∙ ap (λ xs. is.sign ++ xs) (sym (append-nil ds));
        signed = is.signed;
        number = record { cut = inr (refl, refl); digits = subst (IsNumeral 10) (sym (append-nil ds)) is.numeral };
        scaled = inr (refl, refl, refl);
      };
      numer = value ∙ ap (with_sign below) same;
      denom = one;
    }

fraction_typed : (lo hi : ℤ) (text : List ℕ) (n d : ℤ) → IsFractionText lo hi text n d → (numbers : List ℕ) × IsTypedText text n d numbers
fraction_typed lo hi text n d (inl h) = let p = slashed_plain lo hi text n d h in (p.0, plain_typed text n d p.0 p.1)
fraction_typed lo hi text n d (inr h) =
    let a = signed_whole lo n text h.0.number in
    ([], plain_typed text n d [] (inl (whole_decimal text n d a.0 a.1 a.2 a.3 h.1, refl)))

-- ---- its bytes

-- the bytes are signs, slashes and digits, and some others from `+` to `9`
abbrev ArePlain : List ℕ → Type 0
ArePlain [] = Unit {0}
ArePlain (c ∷ cs) = ((42 < c) × (c < 58)) × ArePlain cs

plain_both : (a b : List ℕ) → ArePlain a → ArePlain b → ArePlain (a ++ b)
plain_both [] b h k = k
plain_both (c ∷ cs) b h k = (h.0, plain_both cs b h.1 k)

digits_plain : (ds : List ℕ) → AllDigits 10 ds → ArePlain ds
digits_plain [] h = tt
digits_plain (c ∷ cs) h = ((omega (arith, digit_from_value c h.0), omega (arith, digit_from_value c h.0)), digits_plain cs h.1)

all_taken : (p : ℕ → Bool) → ((c : ℕ) → 42 < c → c < 58 → p c ≡ true) → (text : List ℕ) → ArePlain text → take_while p text ≡ text
all_taken p passes [] h = refl
all_taken p passes (c ∷ cs) h =
    take_while-cons p c cs ∙ ap (λ b. cond b (c ∷ take_while p cs) []) (passes c h.0.0 h.0.1) ∙ ap (λ l. c ∷ l) (all_taken p passes cs h.1)

none_left : (p : ℕ → Bool) → ((c : ℕ) → 42 < c → c < 58 → p c ≡ true) → (text : List ℕ) → ArePlain text → drop (length (take_while p text)) text ≡ []
none_left p passes text h = ap (λ l. drop (length l) text) (all_taken p passes text h) ∙ drop_all (length text) text (omega arith)

is_ascii_plain : (c : ℕ) → 42 < c → c < 58 → is_ascii c ≡ true
is_ascii_plain c low high = grind (arith, nat_tests)

is_no_e_plain : (c : ℕ) → 42 < c → c < 58 → is_no_e c ≡ true
is_no_e_plain c low high = grind (arith, nat_tests)

no_space : (text : List ℕ) → ArePlain text → list_any (λ c. c == 32) text ≡ false
no_space [] h = refl
no_space (c ∷ cs) h = grind (arith, nat_tests, no_space cs h.1)

no_vulgar : vulgar [] ≡ None
unfolding vulgar
no_vulgar = refl

-- it has no vulgar fraction
same_spelled : (text : List ℕ) → ArePlain text → with_slash text ≡ text
same_spelled text h =
    let none : vulgar (drop (ascii_length text) text) ≡ None = ap vulgar (none_left is_ascii is_ascii_plain text h) ∙ no_vulgar in
    ap (with_fraction text (ascii_length text)) none

-- it has no exponent
no_exponent : (text : List ℕ) → ArePlain text → exponent_digits text ≡ 0
no_exponent text h = ap (count_by is_ascii_digit) (none_left is_no_e is_no_e_plain text h)

not_both : {X : Type 0} (a : Bool) (x : Option X) → (if a && false then x else None) ≡ None
not_both true x = refl
not_both false x = refl

-- it is no percentage
no_percentage : (text : List ℕ) → ArePlain text → mixed_front text ≡ None
no_percentage text h = ap (λ (b : Bool). if (slice_index text (length text - 1) == percent_sign) && b then Some (take (length text - 1) text) else None) (no_space text h) ∙ not_both _ _

number_plain : (lo z : ℤ) (text : List ℕ) → IsNumberText lo 10 text z → ArePlain text
number_plain lo z text (inl h) = digits_plain text h.0.1
number_plain lo z text (inr (inl h)) = subst ArePlain (sym h.1) ((omega arith, omega arith), digits_plain h.0 h.2.1)
number_plain lo z text (inr (inr h)) = subst ArePlain (sym h.2) ((omega arith, omega arith), digits_plain h.0 h.3.1)

fraction_plain : (lo hi : ℤ) (text : List ℕ) (n d : ℤ) → IsFractionText lo hi text n d → ArePlain text
fraction_plain lo hi text n d (inl h) =
    subst ArePlain (sym h.cut) (plain_both h.front (slash ∷ h.back) (number_plain lo n h.front h.sides.numer.number) ((omega arith, omega arith), number_plain lo d h.back h.sides.denom.number))
fraction_plain lo hi text n d (inr h) = number_plain lo n text h.0.number

-- ---- it says its lowest terms

pub says_fraction : (lo hi n d : ℤ) (text : List ℕ) (x : ℤ × ℤ) → IsFractionText lo hi text n d → HasTerms (n, d) x → SaysNumber text x
says_fraction lo hi n d text x reads terms =
    let plain = fraction_plain lo hi text n d reads in
    let typed = fraction_typed lo hi text n d reads in
    subst (λ l. SaysPlainNumber l x) (sym (same_spelled text plain))
    (record {
      n = n;
      d = d;
      numbers = typed.0;
      small = omega (arith, no_exponent text plain);
      reads = subst (λ m. IsSaid m text n d typed.0) (sym (no_percentage text plain)) typed.1;
      terms = terms;
    })
