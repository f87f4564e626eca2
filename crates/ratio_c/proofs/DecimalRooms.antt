-- How long a decimal of at most 38 places is.
use Rattle.std.specs.Prelude.{◌≡◌, ◌*◌, ◌+◌, ◌/◌, ◌^◌, ◌<◌, ◌≤◌, ◌*ℤ◌, ◌-ℤ◌, ◌+ℤ◌, ◌<ℤ◌, ◌∷◌, ℕ, ℤ, zero, suc, pos, negsuc, unsigned_abs, Bool, true, false, List, length, max}
use Rattle.std.specs.Fmt.{decimal, signed_decimal}
use Rattle.std.specs.Ordering.{int_eq}
use Rattle.std.proofs.lemmas.Bool.Decides.{Decides-int_eq}
use Rattle.std.proofs.lemmas.Fmt.{decimal_digit}
use Rattle.std.proofs.Common.{refl, ap, arith, ◌∙◌, subst, length-append}
use Rattle.std.proofs.Math.Nat.{suc-mul, mul_comm, div-le_of_le-mul}
use Rattle.std.proofs.lemmas.Int.{ints}
use Rattle.ratio_integer.specs.Range.{IsHeld, IsRange}
use Rattle.ratio_integer.proofs.DivisionLemmas.{low_below}
use Rattle.ratio_integer.specs.LastDigits.{last_digits}
use Rattle.ratio_decimal.specs.Decimal.{IsDecimalOf, places_text, point, unsigned_places}
use Rattle.ratio_core.specs.Printing.{text_of}
use Rattle.ratio_core.specs.Reading.{minus, slash}
use Rattle.ratio_core.specs.declared.text.Form.TheVariants.{Decimal}
use Rattle.ratio_decimal.specs.declared.rounding_rule.Rounding.{Rounding}
use Rattle.ratio_c.specs.Texts.{decimal_longest}
use Rattle.ratio_core.proofs.DigitGroups.{length_group, some_digit}
use Rattle.ratio_core.proofs.PrintingLemmas.{small_magnitude}
use Rattle.ratio_decimal.proofs.RoundingRuleLaws.{rounded_near}
use Rattle.ratio_core.proofs.TextLengths.{text_short}
use Rattle.ratio_natural.specs.Decimal.{decimal_text}
use Rattle.ratio_natural.proofs.PrintingLemmas.{decimal_same}

-- ---- a rounded fraction is no further from 0 than its numerator, in parts of 1

grows : (a d : ℕ) → 0 < d → a ≤ a * d
grows a zero some = absurd (omega arith)
grows zero (suc d) some = omega arith
grows (suc a) (suc d) some = omega (arith, suc-mul a (suc d), grows a (suc d) (omega arith))

up : (a d : ℕ) → pos (suc a) *ℤ pos d -ℤ pos d ≡ pos (a * d)
up a d = let e = suc-mul a d in omega (arith, ints, e)

down : (a d : ℕ) → negsuc a *ℤ pos d +ℤ pos d ≡ pos 0 -ℤ pos (a * d)
down a d = let e = suc-mul a d in omega (arith, ints, e)

magnitude_within : (n d r : ℤ) (p : ℕ) → pos 0 <ℤ d → (r *ℤ d -ℤ d) <ℤ (n *ℤ pos p) → (n *ℤ pos p) <ℤ (r *ℤ d +ℤ d) → unsigned_abs r ≤ unsigned_abs n * p
magnitude_within n (negsuc d) r p some low high = absurd (omega (arith, ints, some))
magnitude_within n (pos d) (pos zero) p some low high = omega arith
magnitude_within (pos m) (pos d) (pos (suc a)) p some low high =
    let e = up a d in let g = grows a d (omega (arith, ints, some)) in omega (arith, ints, e, g, low)
magnitude_within (negsuc m) (pos d) (pos (suc a)) p some low high =
    let e = up a d in absurd (omega (arith, ints, e, low))
magnitude_within (pos m) (pos d) (negsuc a) p some low high =
    let e = down a d in absurd (omega (arith, ints, e, high))
magnitude_within (negsuc m) (pos d) (negsuc a) p some low high =
    let e = down a d in let g = grows a d (omega (arith, ints, some)) in omega (arith, ints, e, g, high)

-- ---- a number of a type has no longer text than its least or its greatest one

module _ (bits : ℕ) (lo hi : ℤ) (range : IsRange lo hi) (width : (bits ≤ 128) × (hi +ℤ pos 1 ≡ lo +ℤ pos (2 ^ bits))) where
  abbrev longest : ℕ
  longest = max (length (signed_decimal lo)) (length (signed_decimal hi))

  held_zero : IsHeld lo hi (pos 0)
  held_zero = let low = low_below lo hi range in let high = range.high in record { above = omega (arith, ints); below = omega (arith, ints) }

  twice : (z : ℤ) → int_eq z (pos 1) ≡ false → length (text_of bits Decimal false z z) ≡ 2 * length (signed_decimal z) + 1
  twice z other = rw other (length-append (signed_decimal z) (slash ∷ signed_decimal z) ∙ omega arith)

  some_longest : 1 ≤ longest
  some_longest = omega (arith, text_short bits lo hi (pos 0) (pos 0) range width held_zero held_zero, twice (pos 0) refl, ap length (decimal_digit 0 (omega arith)))

  -- a number's text in front of a slash and the text again, which `text_short` bounds
  number_short : (z : ℤ) → IsHeld lo hi z → length (signed_decimal z) ≤ longest
  number_short z held = go (int_eq z (pos 1)) refl
    where
      go : (one : Bool) → int_eq z (pos 1) ≡ one → length (signed_decimal z) ≤ longest
      go true e = omega (arith, ap (λ (y : ℤ). length (signed_decimal y)) ((Decides-int_eq z (pos 1)).0 e), ap length (decimal_digit 1 (omega arith)), some_longest)
      go false e = omega (arith, text_short bits lo hi z z range width held held, twice z e)

  -- ---- the text of n/10^places

  unsigned_short : (places n k : ℕ) → places ≤ 38 → length (decimal_text (n / 10 ^ places)) ≤ k → length (unsigned_places places n) ≤ k + 39
  unsigned_short zero n k few short = let same : n / 10 ^ 0 ≡ n = omega arith in omega (arith, short, ap (λ m. length (decimal_text m)) same)
  unsigned_short (suc places) n k few short =
      omega (arith, few, short, length-append (decimal_text (n / 10 ^ suc places)) (point ∷ last_digits (suc places) n), length_group (suc places) n)

  cut_within : (places n m : ℕ) → n ≤ m * 10 ^ places → n / 10 ^ places ≤ m
  cut_within places n m within = div-le_of_le-mul (10 ^ places) (subst (λ k. n ≤ k) (mul_comm m (10 ^ places)) within)

  above_zero : (places n m : ℕ) → places ≤ 38 → IsHeld lo hi (pos m) → n ≤ m * 10 ^ places → length (unsigned_places places n) ≤ longest + 39
  above_zero places n m few held within =
      let cut = cut_within places n m within in
      let low = low_below lo hi range in
      let whole = n / 10 ^ places in
      let within : IsHeld lo hi (pos whole) = record { above = omega (arith, ints, held_zero.above); below = omega (arith, ints, held.below, cut) } in
      unsigned_short places n longest few (omega (arith, number_short (pos whole) within, ap length (decimal_same whole (omega (arith, small_magnitude lo hi bits (pos whole) range width within)))))

  below_zero : (places n m : ℕ) → places ≤ 38 → IsHeld lo hi (negsuc m) → n ≤ suc m * 10 ^ places → length (minus ∷ unsigned_places places n) ≤ longest + 39
  below_zero places n m few held within = go (n / 10 ^ places) refl (cut_within places n (suc m) within)
    where
      by : (k : ℕ) → length (decimal_text (n / 10 ^ places)) ≤ k → k + 1 ≤ longest → length (minus ∷ unsigned_places places n) ≤ longest + 39
      by k short room = omega (arith, unsigned_short places n k few short, room)

      go : (w : ℕ) → n / 10 ^ places ≡ w → w ≤ suc m → length (minus ∷ unsigned_places places n) ≤ longest + 39
      go zero e cut = by 1 (omega (arith, ap (λ k. length (decimal_text k)) e))
          (omega (arith, number_short (negsuc m) held, some_digit (suc m) (small_magnitude lo hi bits (negsuc m) range width held)))
      go (suc w) e cut =
          let within : IsHeld lo hi (negsuc w) = record { above = omega (arith, ints, held.above, cut); below = omega (arith, ints, held_zero.below) } in
          by (length (decimal_text (suc w))) (omega (arith, ap (λ k. length (decimal_text k)) e))
          (omega (arith, number_short (negsuc w) within, ap length (decimal_same (suc w) (omega (arith, small_magnitude lo hi bits (negsuc w) range width within)))))

  within : (n d z : ℤ) (places : ℕ) → IsHeld lo hi n → places ≤ 38 → pos 0 <ℤ d → (z *ℤ d -ℤ d) <ℤ (n *ℤ pos (10 ^ places)) → (n *ℤ pos (10 ^ places)) <ℤ (z *ℤ d +ℤ d)
      → unsigned_abs z ≤ unsigned_abs n * 10 ^ places → length (places_text places z) ≤ longest + 39
  within n (negsuc d) z places held few some low high size = absurd (omega (arith, ints, some))
  within (pos m) (pos d) (pos z) places held few some low high size = above_zero places z m few held size
  within (pos m) (pos d) (negsuc z) places held few some low high size = let e = down z d in absurd (omega (arith, ints, e, high))
  within (negsuc m) (pos d) (pos zero) places held few some low high size = above_zero places 0 0 few held_zero (omega arith)
  within (negsuc m) (pos d) (pos (suc z)) places held few some low high size = let e = up z d in absurd (omega (arith, ints, e, low))
  within (negsuc m) (pos d) (negsuc z) places held few some low high size = below_zero places (suc z) m few held size

  -- a fraction's decimal of at most 38 places
  pub decimal_short : (rule : Rounding) (places : ℕ) (n d : ℤ) (text : List ℕ) → IsHeld lo hi n → places ≤ 38 → pos 0 <ℤ d → IsDecimalOf rule places n d text → length text ≤ decimal_longest lo hi
  decimal_short rule places n d text held few some is =
      let near = rounded_near rule (n *ℤ pos (10 ^ places)) d is.multiple some is.rounded in
      let size = magnitude_within n d is.multiple (10 ^ places) some near.0 near.1 in
      omega (arith, ap length is.written, within n d is.multiple places held few some near.0 near.1 size)
