-- The length of a fraction's text in base 10.
use Rattle.std.proofs.Common.{◌≡◌, ap, inl, inr, arith, ℕ, zero, suc, ◌+◌, ◌-◌, ◌/◌, ◌%◌, ◌^◌, ◌<◌, ◌≤◌, Bool, true, false, cond, List, [], ◌∷◌, length, length-append, max, ℤ, pos, negsuc, ◌≤ℤ◌, ◌+ℤ◌, unsigned_abs, eq-zero-or-pos}
use Rattle.std.specs.Fmt.{decimal, signed_decimal}
use Rattle.std.specs.Ordering.{int_eq}
use Rattle.std.proofs.Math.Nat.{le-max_left, le-max_right, pow-suc}
use Rattle.std.proofs.lemmas.Fmt.{decimal_digit, decimal_step_wide}
use Rattle.std.proofs.lemmas.Int.{ints}
use Rattle.ratio_integer.specs.Range.{IsHeld, IsRange}
use Rattle.ratio_integer.proofs.DivisionLemmas.{low_below}
use Rattle.ratio_core.specs.declared.text.Form.TheVariants.{Decimal}
use Rattle.ratio_core.specs.Printing.{base_ten_room, text_of}
use Rattle.ratio_core.specs.Reading.{slash}
use Rattle.ratio_core.proofs.DigitGroups.{some_digit}
use Rattle.ratio_core.proofs.PrintingLemmas.{small_magnitude}

-- if m ≤ n, then m has no more digits than n
digits_grow : (k m n : ℕ) → m ≤ n → n < 10 ^ k → n < 2 ^ 128 → length (decimal m) ≤ length (decimal n)
digits_grow zero m n under few small =
    let same : m ≡ n = omega (arith, under, few) in
    omega (arith, ap (λ x. length (decimal x)) same)
digits_grow (suc k) m n under few small =
    elim (eq-zero-or-pos (m - 9)) [
      | inl h ↦ omega (arith, ap length (decimal_digit m (omega (arith, h))), some_digit n small)
      | inr h ↦ omega (
        arith,
        ap length (decimal_step_wide m (omega (arith, h)) (omega (arith, under, small))),
        ap length (decimal_step_wide n (omega (arith, h, under)) (omega (arith, small))),
        length-append (decimal (m / 10)) ((48 + m % 10) ∷ []),
        length-append (decimal (n / 10)) ((48 + n % 10) ∷ []),
        digits_grow k (m / 10) (n / 10) (omega (arith, under)) (omega (arith, few, pow-suc 10 k)) (omega (arith, small)),
      )
    ]

more_digits : (m n : ℕ) → m ≤ n → n < 2 ^ 128 → length (decimal m) ≤ length (decimal n)
more_digits m n under small = digits_grow 39 m n under (omega (arith, small)) small

-- if lo ≤ z ≤ hi, the text of z is no longer than the longer text of lo and hi
number_short : (lo hi z : ℤ) → unsigned_abs lo < 2 ^ 128 → unsigned_abs hi < 2 ^ 128 → lo ≤ℤ z → z ≤ℤ hi → length (signed_decimal z) ≤ max (length (signed_decimal lo)) (length (signed_decimal hi))
number_short lo (pos h) (pos n) lo_small hi_small above below =
    omega (arith, more_digits n h (omega (arith, ints, below)) (omega (arith, hi_small)), le-max_right (length (signed_decimal lo)) (length (decimal h)))
number_short lo (negsuc h) (pos n) lo_small hi_small above below = absurd (omega (arith, ints, below))
number_short (pos l) hi (negsuc n) lo_small hi_small above below = absurd (omega (arith, ints, above))
number_short (negsuc l) hi (negsuc n) lo_small hi_small above below =
    omega (arith, more_digits (suc n) (suc l) (omega (arith, ints, above)) (omega (arith, lo_small)), le-max_left (length (signed_decimal (negsuc l))) (length (signed_decimal hi)))

rest_short : (whole : Bool) (xs : List ℕ) (most : ℕ) → length xs ≤ most → length (cond whole [] (slash ∷ xs)) ≤ most + 1
rest_short true xs most short = omega arith
rest_short false xs most short = omega (arith, short)

-- the ends of a range are in range
ends_held : (lo hi : ℤ) → IsRange lo hi → IsHeld lo hi lo × IsHeld lo hi hi
ends_held lo hi range =
    let low = low_below lo hi range in
    (record { above = omega (arith, ints); below = omega (arith, ints, low, range.high) }, record { above = omega (arith, ints, low, range.high); below = omega (arith, ints) })

pub text_short : (bits : ℕ) (lo hi n d : ℤ) → IsRange lo hi → (bits ≤ 128) × (hi +ℤ pos 1 ≡ lo +ℤ pos (2 ^ bits)) → IsHeld lo hi n → IsHeld lo hi d
    → length (text_of bits Decimal false n d) ≤ base_ten_room lo hi
text_short bits lo hi n d range width numer denom =
    let ends = ends_held lo hi range in
    let lo_small = small_magnitude lo hi bits lo range width ends.0 in
    let hi_small = small_magnitude lo hi bits hi range width ends.1 in
    let back = cond (int_eq d (pos 1)) [] (slash ∷ signed_decimal d) in
    omega (
      arith,
      length-append (signed_decimal n) back,
      number_short lo hi n lo_small hi_small numer.above numer.below,
      rest_short (int_eq d (pos 1)) (signed_decimal d) _ (number_short lo hi d lo_small hi_small denom.above denom.below),
    )
