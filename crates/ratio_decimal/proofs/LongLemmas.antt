-- A number with more than 38 places, and what stands around it under the options in a pair of braces.
use Rattle.std.specs.Prelude.{◌≡◌, ◌*◌, ◌+◌, ◌-◌, ◌/◌, ◌%◌, ◌^◌, ◌<◌, ◌≤◌, ◌==◌, ◌∷◌, ◌++◌, ◌*ℤ◌, ◌+ℤ◌, [], ℕ, zero, suc, pos, Bool, true, false, cond, List, None, Some, decimal, drop, encode_utf8, length, slice_set, IsAscii}
use Rattle.std.proofs.Common.{refl, sym, ap, arith, ◌∙◌, append_assoc, append-nil, length-append, lit<, lit≤, ne_eqb}
use Rattle.std.proofs.Math.Nat.{mod-lt}
use Rattle.std.proofs.lemmas.Fmt.{IsAscii-decimal_wide}
use Rattle.std.proofs.lemmas.Int.{ints}
use Rattle.std.proofs.lemmas.List.{drop_all, drop-drop, drop-set}
use Rattle.std.proofs.lemmas.Str.{IsAscii-append}
use Rattle.std.proofs.lemmas.Str.Ascii.{IsAscii-cons, IsAscii-nil}
use Rattle.core.specs.Fmt.{HasWrittenStyled, IsFlush, before_digits, char_count, fill_after_digits, fill_text, number_padding, padded_integral, padding_before, sign_text_with}
use Rattle.core.specs.List.{repeat}
use Rattle.core.specs.Option.{unwrap_or}
use Rattle.core.specs.declared.fmt.formatter.FormatSpec.{FormatSpec}
use Rattle.core.specs.declared.fmt.formatter.Formatter.{Formatter}
use Rattle.core.proofs.fmt.Output.{has_written_styled_append, has_written_styled_nil, has_written_styled_of_eq}
use Rattle.core.proofs.fmt.Padding.{char_count-nil, integral_written, repeat_ascii}
use Rattle.core.proofs.str.Laws.{one}
use Rattle.ratio_decimal.specs.Decimal.{point, unsigned_places}
use Rattle.ratio_integer.specs.LastDigits.{last_digits}
use Rattle.ratio_core.specs.Parts.{IsDivided, IsPart}
use Rattle.ratio_decimal.specs.Precision.{half_even}
use Rattle.ratio_decimal.specs.RoundingRules.{IsRoundedBy}
use Rattle.ratio_decimal.specs.declared.rounding_rule.Rounding.TheVariants.{HalfEven}
use Rattle.ratio_decimal.proofs.DecimalLemmas.{after_one, one_inside, whole_digits, whole_of}
use Rattle.ratio_core.proofs.DigitGroups.{length_group}
use Rattle.ratio_decimal.proofs.ExactLemmas.{digit_small, front_digit, tenfold, whole_same}
use Rattle.ratio_decimal.proofs.HalfEvenLemmas.{digit_rounded, half_even_is, no_carry, whole_rounded, wide_power}
use Rattle.ratio_decimal.proofs.RoundingRuleLaws.{one_by}
use Rattle.ratio_natural.specs.Decimal.{decimal_text}

-- ---- the room around it

-- a width of 0 means none
pub width_or_none : (w : ℕ) → unwrap_or (cond (w == 0) None (Some w)) 0 ≡ w
width_or_none zero = refl
width_or_none (suc w) = rw (ne_eqb (suc w) 0 (omega arith)) refl

pub no_prefix : (alternate : Bool) → char_count (cond alternate [] []) ≡ 0
no_prefix true = char_count-nil
no_prefix false = char_count-nil

nothing_shown : (alternate : Bool) → cond {A = List ℕ} alternate [] [] ≡ []
nothing_shown true = refl
nothing_shown false = refl

-- fill, the sign and zeros
pub front_text : (s : FormatSpec) (below : Bool) (len padding before zeros fill : ℕ) (sign : List ℕ) → padding ≡ number_padding s below [] len
    → before ≡ cond s.zero 0 (padding_before s padding 3) → zeros ≡ cond s.zero padding 0 → fill ≡ s.fill → sign ≡ sign_text_with s.plus below
    → (repeat before (encode_utf8 fill) ++ sign) ++ repeat zeros (encode_utf8 48) ≡ before_digits s below [] len
front_text s below len padding before zeros fill sign padding-is before-is zeros-is fill-is sign-is =
    rw (repeat_ascii zeros 48 (lit< tt), before-is, zeros-is, fill-is, sign-is, padding-is, nothing_shown s.alternate) (simp append-nil)

-- ---- before the point

pub point_last : (buf : List ℕ) → length buf ≡ 81 → drop 80 (slice_set buf 80 point) ≡ point ∷ []
point_last buf long = drop-set buf 80 point (omega arith) ∙ ap (λ xs. point ∷ xs) (drop_all 81 buf (omega arith))

pub before_ascii : (n : ℕ) → n < 2 ^ 128 → IsAscii (decimal n ++ point ∷ [])
before_ascii n fits = IsAscii-append _ _ (IsAscii-decimal_wide n (omega arith)) (IsAscii-cons point [] (lit< tt) IsAscii-nil)

-- the number is written up to the point, and the places behind it
pub whole_and_places : (n d k : ℕ) → n < 2 ^ 128 → 0 < d → d < 2 ^ 128 → 39 ≤ k
    → (decimal (n / d) ++ point ∷ []) ++ last_digits k (half_even (n % d * 10 ^ k) d) ≡ unsigned_places k (half_even (n * 10 ^ k) d)
whole_and_places n d zero short some fits many = absurd (omega arith)
whole_and_places n d (suc k) short some fits many =
    let p = half_even (n % d * 10 ^ suc k) d in
    let wide : d < 2 * 10 ^ suc k = let h = wide_power (suc k) many in omega arith in
    let less : p < 10 ^ suc k = no_carry (n % d) d (suc k) (mod-lt n some) wide in
    let split : half_even (n * 10 ^ suc k) d ≡ n / d * 10 ^ suc k + p = whole_rounded n d (suc k) some (omega arith) in
    append_assoc (decimal (n / d)) (point ∷ []) (last_digits (suc k) p)
    ∙ ap (λ xs. decimal (n / d) ++ point ∷ xs) (sym (whole_digits (n / d) p (suc k)))
    ∙ ap (λ xs. xs ++ point ∷ last_digits (suc k) (n / d * 10 ^ suc k + p)) (whole_same n d short)
    ∙ ap (λ x. decimal_text x ++ point ∷ last_digits (suc k) (n / d * 10 ^ suc k + p)) (sym (whole_of (n / d) p (suc k) less))
    ∙ ap (unsigned_places (suc k)) (sym split)

-- ---- behind the point

-- a digit, and what is left of the fraction
pub next_digit : (rest d digit next k : ℕ) → rest < d → d < 2 ^ 128 → 39 ≤ k → IsDivided (pos rest *ℤ pos 10) (pos d) (pos digit) (pos next)
    → (48 + digit) ∷ last_digits k (half_even (next * 10 ^ k) d) ≡ last_digits (suc k) (half_even (rest * 10 ^ suc k) d)
next_digit rest d digit next k less fits many is =
    let below : next < d = let b = is.rest.below in omega (arith, ints) in
    let wide : d < 2 * 10 ^ k = let h = wide_power k many in omega arith in
    sym (ap (last_digits (suc k)) (digit_rounded rest d digit next k (omega arith) (tenfold rest d digit next is) (omega arith))
    ∙ front_digit k digit (half_even (next * 10 ^ k) d) (digit_small rest d digit next less (tenfold rest d digit next is)) (no_carry next d k below wide))

-- the last 39 digits: the first of them takes the carry of the other 38
module _ (rest d digit next carry part : ℕ) (less : rest < d) (fits : d < 2 ^ 128) (is : IsDivided (pos rest *ℤ pos 10) (pos d) (pos digit) (pos next))
    (shares : IsPart (pos part) (pos (10 ^ 38))) (by : IsRoundedBy HalfEven (pos next *ℤ pos (10 ^ 38)) (pos d) (pos carry *ℤ pos (10 ^ 38) +ℤ pos part)) where
  pub last_sum : half_even (rest * 10 ^ 39) d ≡ (digit + carry) * 10 ^ 38 + part
  last_sum =
      let some : 0 < d = omega arith in
      let same : half_even (next * 10 ^ 38) d ≡ carry * 10 ^ 38 + part = natural (one_by HalfEven (pos (next * 10 ^ 38)) (pos d) _ _ (omega (arith, ints)) (half_even_is (next * 10 ^ 38) d some) by) in
      digit_rounded rest d digit next 38 some (tenfold rest d digit next is) (omega arith) ∙ ap (λ x. digit * 10 ^ 38 + x) same ∙ omega arith
    where
      natural : {a b : ℕ} → pos a ≡ pos b → a ≡ b
      natural e = omega (arith, ints)

  pub last_digit : digit + carry < 10
  last_digit =
      let whole : half_even (rest * 10 ^ 39) d < 10 ^ 39 = no_carry rest d 39 less (omega arith) in
      omega (arith, last_sum)

-- they are written after a 1, which the first of them overwrites
pub last_written : (value part at digit : ℕ) (buf back : List ℕ) → digit < 10 → part < 10 ^ 38 → value ≡ digit * 10 ^ 38 + part → length buf ≡ 81 → length back ≡ length buf
    → drop at back ≡ decimal (10 ^ 38 + part) ++ drop 81 buf → drop at (slice_set back at (48 + digit)) ≡ last_digits 39 value
last_written value part at digit buf back few small value-is long same is =
    let inside = one_inside part (10 ^ 38) 38 81 at buf back (lit≤ tt) refl small long same is in
    let all : drop at back ≡ 49 ∷ last_digits 38 part = is ∙ ap (λ xs. decimal (10 ^ 38 + part) ++ xs) (drop_all 81 buf (omega arith)) ∙ append-nil (decimal (10 ^ 38 + part)) ∙ after_one 38 part (lit≤ tt) small in
    drop-set back at (48 + digit) inside ∙ ap (λ xs. (48 + digit) ∷ xs) (sym (drop-drop 1 at back) ∙ ap (λ xs. drop 1 xs) all)
    ∙ sym (ap (last_digits 39) value-is ∙ front_digit 38 digit part few small)

-- ---- digit by digit

-- `left` places of part/d are still to be written
pub record IsWrittenUpTo {W : Type 0} (took : W → List ℕ → W → Type 0) (f g : Formatter W) (rest d places part left : ℕ) : Type 0 where
  pub many : 39 ≤ left
  pub below : part < d
  pub digits : List ℕ
  pub same : digits ++ last_digits left (half_even (part * 10 ^ left) d) ≡ last_digits places (half_even (rest * 10 ^ places) d)
  pub wrote : IsFlush f → HasWrittenStyled took f digits g

module _ {W : Type 0} (took : W → List ℕ → W → Type 0) (f : Formatter W) (rest d places : ℕ) where
  pub none_written : 39 ≤ places → rest < d → IsWrittenUpTo took f f rest d places rest places
  none_written many below = record { many = many; below = below; digits = []; same = refl; wrote = has_written_styled_nil took f }

  pub one_written : (g h : Formatter W) (part left digit next : ℕ) → d < 2 ^ 128 → 39 < left → IsDivided (pos part *ℤ pos 10) (pos d) (pos digit) (pos next)
      → IsWrittenUpTo took f g rest d places part left → (IsFlush g → HasWrittenStyled took g (encode_utf8 (48 + digit)) h) → IsWrittenUpTo took f h rest d places next (left - 1)
  one_written g h part zero digit next fits more is so_far wrote = absurd (omega arith)
  one_written g h part (suc left) digit next fits more is so_far wrote =
      let back : suc left - 1 ≡ left = omega arith in
      let small : digit < 10 = digit_small part d digit next so_far.below (tenfold part d digit next is) in
      rw back (record {
        many = omega arith;
        below = let b = is.rest.below in omega (arith, ints);
        digits = so_far.digits ++ (48 + digit) ∷ [];
        same = append_assoc so_far.digits ((48 + digit) ∷ []) _ ∙ ap (λ xs. so_far.digits ++ xs) (next_digit part d digit next left so_far.below fits (omega arith) is) ∙ so_far.same;
        wrote = λ flush.
            let x = so_far.wrote flush in
            has_written_styled_append took f so_far.digits g _ h x (has_written_styled_of_eq took g _ _ h (one (48 + digit) (omega arith)) (wrote x.flush));
      })

  pub all_written : (g h : Formatter W) (part left : ℕ) (text : List ℕ) → left ≤ 39 → IsWrittenUpTo took f g rest d places part left → text ≡ last_digits 39 (half_even (part * 10 ^ 39) d)
      → (IsFlush g → HasWrittenStyled took g text h) → IsFlush f → HasWrittenStyled took f (last_digits places (half_even (rest * 10 ^ places) d)) h
  all_written g h part left text out so_far is wrote flush =
      let last : left ≡ 39 = let m = so_far.many in omega arith in
      let x = so_far.wrote flush in
      has_written_styled_of_eq took f (so_far.digits ++ text) _ h
      (ap (λ xs. so_far.digits ++ xs) is ∙ ap (λ k. so_far.digits ++ last_digits k (half_even (part * 10 ^ k) d)) (sym last) ∙ so_far.same)
      (has_written_styled_append took f so_far.digits g text h x (wrote x.flush))

-- the whole number: what stands before it, its digits, and the fill after it
module _ {W : Type 0} (took : W → List ℕ → W → Type 0) (f g h i k : Formatter W) (n d places after fill : ℕ) (below : Bool) (whole : List ℕ) where
  pub whole_written : n < 2 ^ 128 → 0 < d → d < 2 ^ 128 → 39 ≤ places → whole ≡ decimal (n / d) ++ point ∷ [] → fill ≡ f.spec.fill → after ≡ fill_after_digits f.spec below [] (length whole + places)
      → HasWrittenStyled took f (before_digits f.spec below [] (length whole + places)) g → HasWrittenStyled took g whole h
      → HasWrittenStyled took h (last_digits places (half_even (n % d * 10 ^ places) d)) i → HasWrittenStyled took i (repeat after (encode_utf8 fill)) k
      → HasWrittenStyled took f (padded_integral f.spec below [] (unsigned_places places (half_even (n * 10 ^ places) d))) k
  whole_written short some fits many whole-is fill-is after-is x y y' z =
      let digits = last_digits places (half_even (n % d * 10 ^ places) d) in
      let numeral = unsigned_places places (half_even (n * 10 ^ places) d) in
      let all : whole ++ digits ≡ numeral = ap (λ xs. xs ++ digits) whole-is ∙ whole_and_places n d places short some fits many in
      let long : length whole + places ≡ length numeral = omega (arith, length-append whole digits, length_group places (half_even (n % d * 10 ^ places) d), ap length all) in
      let kept : f.spec ≡ i.spec = sym (y'.spec ∙ y.spec ∙ x.spec) in
      let last : repeat after (encode_utf8 fill) ≡ fill_text i.spec after = ap (λ c. repeat after (encode_utf8 c)) fill-is ∙ ap (λ s. fill_text s after) kept in
      integral_written took f g i k below [] numeral (whole ++ digits) (length whole + places) after long all after-is x
      (has_written_styled_append took g whole h digits i y y') (has_written_styled_of_eq took i _ _ k last z)
