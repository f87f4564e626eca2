-- The bytes of a fraction's text, and how they are written from the last to the first.
use Rattle.std.proofs.Common.{◌≡◌, ◌≢◌, ◌⊎◌, refl, sym, ◌∙◌, ap, inl, inr, arith, rules, ℕ, suc, ◌+◌, ◌-◌, ◌^◌, ◌<◌, ◌≤◌, Bool, true, false, cond, List, [], ◌∷◌, ◌++◌, length, drop, slice_set, ℤ, pos, negsuc, ◌+ℤ◌, ◌-ℤ◌, ◌≤ℤ◌, neg_ℤ, unsigned_abs, Option, Some, None, append-nil, lit<, lit≤}
use Rattle.std.specs.Prelude.{IsAscii, IsSome}
use Rattle.std.specs.Fmt.{signed_decimal}
use Rattle.std.specs.Ordering.{int_eq}
use Rattle.std.proofs.Math.Nat.{pow-le-pow_right}
use Rattle.std.proofs.lemmas.Bool.Decides.{Decides-int_eq}
use Rattle.std.proofs.lemmas.Fmt.{IsAscii-decimal_wide}
use Rattle.std.proofs.lemmas.Int.{ints}
use Rattle.std.proofs.lemmas.List.{drop_all, drop-set}
use Rattle.std.proofs.lemmas.Str.{IsAscii-append}
use Rattle.std.proofs.lemmas.Str.Ascii.{IsAscii-cons, IsAscii-nil}
use Rattle.ratio_integer.specs.Range.{Checks, IsHeld, IsRange}
use Rattle.ratio_integer.specs.SignedBits.{IsHeld128, greatest128, least128}
use Rattle.ratio_integer.proofs.DivisionLemmas.{low_below}
use Rattle.ratio_core.specs.declared.text.Form.{Form}
use Rattle.ratio_core.specs.declared.text.Form.TheVariants.{Binary, Decimal, LowerHex, Octal, UpperHex}
use Rattle.ratio_core.specs.Printing.{number_text, shown_prefix, text_of, twos_complement}
use Rattle.ratio_core.specs.Reading.{slash}
use Rattle.ratio_core.proofs.Numerals.{numeral_ascii}

-- ---- the magnitude of a number of at most 128 bits

power_small : (bits : ℕ) → bits ≤ 128 → 2 ^ bits ≤ 2 ^ 128
power_small bits h = pow-le-pow_right {n = 2} (omega arith) h

magnitude_small : (lo hi z : ℤ) (p : ℕ) → lo ≤ℤ pos 0 → pos 2 ≤ℤ hi → hi +ℤ pos 1 ≡ lo +ℤ pos p → p ≤ 2 ^ 128 → lo ≤ℤ z → z ≤ℤ hi → unsigned_abs z < 2 ^ 128
magnitude_small lo hi (pos n) p low high width small above below = omega (arith, ints, low, high, width, small, above, below)
magnitude_small lo hi (negsuc n) p low high width small above below = omega (arith, ints, low, high, width, small, above, below)

pub small_magnitude : (lo hi : ℤ) (bits : ℕ) (z : ℤ) → IsRange lo hi → (bits ≤ 128) × (hi +ℤ pos 1 ≡ lo +ℤ pos (2 ^ bits)) → IsHeld lo hi z → unsigned_abs z < 2 ^ 128
small_magnitude lo hi bits z range width held =
    magnitude_small lo hi z (2 ^ bits) (low_below lo hi range) range.high width.1 (power_small bits width.0) held.above held.below

signed_held : (lo hi z p : ℤ) → (lo ≡ pos 0) ⊎ (lo ≡ neg_ℤ hi) ⊎ (lo ≡ neg_ℤ hi -ℤ pos 1) → hi +ℤ pos 1 ≡ lo +ℤ p → p ≤ℤ pos (2 ^ 128) → IsHeld lo hi z
    → ¬ (IsHeld (pos 0) (pos (2 ^ 128 - 1)) z) → IsHeld128 z
signed_held lo hi z p (inl h) width small held out =
    absurd (out (record { above = omega (arith, ints, h, held.above); below = omega (arith, ints, h, width, small, held.below) }))
signed_held lo hi z p (inr (inl h)) width small held out =
    record { above = omega (arith, ints, h, width, small, held.above); below = omega (arith, ints, h, width, small, held.below) }
signed_held lo hi z p (inr (inr h)) width small held out =
    record { above = omega (arith, ints, h, width, small, held.above); below = omega (arith, ints, h, width, small, held.below) }

some_of : (z lo hi : ℤ) (r : Option ℤ) → Checks (λ n. n) lo hi z r → IsHeld lo hi z → IsSome r
some_of z lo hi None out held = absurd (out held)
some_of z lo hi (Some y) is held = search rules

-- a number that does not fit `u128` fits `i128`
pub signed_some : (lo hi : ℤ) (bits : ℕ) (z : ℤ) (r : Option ℤ) → IsRange lo hi → (bits ≤ 128) × (hi +ℤ pos 1 ≡ lo +ℤ pos (2 ^ bits)) → IsHeld lo hi z
    → ¬ (IsHeld (pos 0) (pos (2 ^ 128 - 1)) z) → Checks (λ n. n) least128 greatest128 z r → IsSome r
signed_some lo hi bits z r range width held out is =
    let small = power_small bits width.0 in
    some_of z least128 greatest128 r is (signed_held lo hi z (pos (2 ^ bits)) range.low width.1 (omega (arith, ints, small)) held out)

-- ---- the bytes are ASCII

signed_ascii : (z : ℤ) → unsigned_abs z < 2 ^ 128 → IsAscii (signed_decimal z)
signed_ascii (pos n) small = IsAscii-decimal_wide n (omega (arith, small))
signed_ascii (negsuc n) small = IsAscii-cons 45 _ (lit< tt) (IsAscii-decimal_wide (suc n) (omega (arith, small)))

number_ascii : (bits : ℕ) (form : Form) (z : ℤ) → unsigned_abs z < 2 ^ 128 → IsAscii (number_text bits form z)
number_ascii bits Decimal z small = signed_ascii z small
number_ascii bits Binary z small = numeral_ascii 2 false (twos_complement bits z) (lit≤ tt) (lit≤ tt)
number_ascii bits Octal z small = numeral_ascii 8 false (twos_complement bits z) (lit≤ tt) (lit≤ tt)
number_ascii bits LowerHex z small = numeral_ascii 16 false (twos_complement bits z) (lit≤ tt) (lit≤ tt)
number_ascii bits UpperHex z small = numeral_ascii 16 true (twos_complement bits z) (lit≤ tt) (lit≤ tt)

two_ascii : (x y : ℕ) → x < 128 → y < 128 → IsAscii (x ∷ y ∷ [])
two_ascii x y x_small y_small = IsAscii-cons x (y ∷ []) x_small (IsAscii-cons y [] y_small IsAscii-nil)

prefix_ascii : (form : Form) (alternate : Bool) → IsAscii (shown_prefix form alternate)
prefix_ascii form false = IsAscii-nil
prefix_ascii Decimal true = IsAscii-nil
prefix_ascii Binary true = two_ascii 48 98 (lit< tt) (lit< tt)
prefix_ascii Octal true = two_ascii 48 111 (lit< tt) (lit< tt)
prefix_ascii LowerHex true = two_ascii 48 120 (lit< tt) (lit< tt)
prefix_ascii UpperHex true = two_ascii 48 120 (lit< tt) (lit< tt)

rest_ascii : (whole : Bool) (xs : List ℕ) → IsAscii xs → IsAscii (cond whole [] (slash ∷ xs))
rest_ascii true xs h = IsAscii-nil
rest_ascii false xs h = IsAscii-cons slash xs (lit< tt) h

pub text_ascii : (lo hi : ℤ) (bits : ℕ) (form : Form) (alternate : Bool) (n d : ℤ) → IsRange lo hi → (bits ≤ 128) × (hi +ℤ pos 1 ≡ lo +ℤ pos (2 ^ bits))
    → IsHeld lo hi n → IsHeld lo hi d → IsAscii (text_of bits form alternate n d)
text_ascii lo hi bits form alternate n d range width n_held d_held =
    let prefix = prefix_ascii form alternate in
    let number = λ (z : ℤ) (held : IsHeld lo hi z). number_ascii bits form z (small_magnitude lo hi bits z range width held) in
    IsAscii-append _ _ prefix (IsAscii-append _ _ (number n n_held)
    (rest_ascii (int_eq d (pos 1)) _ (IsAscii-append _ _ prefix (number d d_held))))

-- ---- a text that is written from the last byte to the first

module _ (bits : ℕ) (form : Form) (alternate : Bool) (n d : ℤ) where
  -- the slash and the denominator
  abbrev back_text : List ℕ
  back_text = slash ∷ (shown_prefix form alternate ++ number_text bits form d)

  -- the numerator, and then a given text
  abbrev before : List ℕ → List ℕ
  before xs = shown_prefix form alternate ++ (number_text bits form n ++ xs)

  pub whole_text : (end : ℕ) (buf written : List ℕ) → d ≡ pos 1 → length buf ≡ end → written ≡ before (drop end buf) → written ≡ text_of bits form alternate n d
  whole_text end buf written one long is =
      let none : drop end buf ≡ [] = drop_all end buf (omega (arith, long)) in
      is ∙ ap before (none ∙ ap (λ b. cond b [] back_text) (sym ((Decides-int_eq d (pos 1)).1 one)))

  not_one : (b : Bool) → int_eq d (pos 1) ≡ b → d ≢ pos 1 → b ≡ false
  not_one true e other = absurd (other ((Decides-int_eq d (pos 1)).0 e))
  not_one false e other = refl

  pub slashed_text : (end at : ℕ) (buf back written : List ℕ) → d ≢ pos 1 → length buf ≡ end → length back ≡ length buf → 1 ≤ at → at ≤ end
      → drop at back ≡ shown_prefix form alternate ++ (number_text bits form d ++ drop end buf) → written ≡ before (drop (at - 1) (slice_set back (at - 1) slash)) → written ≡ text_of bits form alternate n d
  slashed_text end at buf back written other long same low high denom numer =
      let back_at : at - 1 + 1 ≡ at = omega (arith, low) in
      let none : drop end buf ≡ [] = drop_all end buf (omega (arith, long)) in
      let denom_only : drop at back ≡ shown_prefix form alternate ++ number_text bits form d =
      denom ∙ ap (λ xs. shown_prefix form alternate ++ (number_text bits form d ++ xs)) none ∙ ap (λ xs. shown_prefix form alternate ++ xs) (append-nil (number_text bits form d)) in
      let slash_put : drop (at - 1) (slice_set back (at - 1) slash) ≡ slash ∷ drop (at - 1 + 1) back = drop-set back (at - 1) slash (omega (arith, long, same, low, high)) in
      numer ∙ ap before (slash_put ∙ ap (λ k. slash ∷ drop k back) back_at ∙ ap (λ xs. slash ∷ xs) denom_only
      ∙ ap (λ b. cond b [] back_text) (sym (not_one (int_eq d (pos 1)) refl other)))
