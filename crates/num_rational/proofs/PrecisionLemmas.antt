-- A fraction with more than 38 places, padded as a text in base 10.
use Rattle.std.specs.Prelude.{◌≡◌, ◌*◌, ◌+◌, ◌/◌, ◌%◌, ◌^◌, ◌<◌, ◌≤◌, ◌<ℤ◌, ◌∷◌, ◌++◌, [], ℕ, zero, suc, ℤ, pos, negsuc, Bool, true, false, List, decimal, int_lt, unsigned_abs}
use Rattle.std.specs.Str.Parse.{starts_with_minus}
use Rattle.std.proofs.Common.{refl, sym, ap, arith, ◌∙◌, append_assoc, le-ltb, ne_eqb, eq-zero-or-pos, inl, inr}
use Rattle.std.proofs.Math.Nat.{div-le_self, div-lt_iff_lt-mul, pow-le-pow_right}
use Rattle.std.proofs.lemmas.Fmt.{decimal_by_steps_wide}
use Rattle.std.proofs.lemmas.Int.{ints}
use Rattle.num_rational.specs.Padding.{padded_base_ten}
use Rattle.ratio_decimal.specs.Decimal.{places_text, point, unsigned_places}
use Rattle.ratio_decimal.specs.Precision.{half_even, half_even_text}
use Rattle.ratio_decimal.specs.RoundingRules.{signed}
use Rattle.ratio_core.proofs.DigitGroups.{at_least}
use Rattle.ratio_decimal.proofs.HalfEvenLemmas.{least_half_even}
use Rattle.ratio_decimal.proofs.LongLemmas.{whole_and_places}

decimal_no_minus : (n : ℕ) → n < 10 ^ 64 → (rest : List ℕ) → starts_with_minus (decimal n ++ rest) ≡ false
decimal_no_minus = decimal_by_steps_wide (λ n ds. (rest : List ℕ) → starts_with_minus (ds ++ rest) ≡ false)
    (λ n small rest. ne_eqb (48 + n) 45 (omega arith))
    (λ n ds many so_far rest. ap starts_with_minus (append_assoc ds ((48 + n % 10) ∷ []) rest) ∙ so_far ((48 + n % 10) ∷ rest))

-- a fraction above 0 is at least 1/10^39, and is not rounded to 0
some_places : (n d places : ℕ) → 0 < d → d < 2 ^ 128 → 39 ≤ places → 0 < n → 0 < half_even (n * 10 ^ places) d
some_places n d places some fits many above =
    let a = n * 10 ^ places in
    let up : 10 ^ places ≤ a = at_least n (10 ^ places) above in
    let big : 10 ^ 39 ≤ 10 ^ places = pow-le-pow_right {n = 10} (omega arith) {i = 39} {j = places} many in
    elim (eq-zero-or-pos (a / d)) [
      | inl z ↦ let h : a < 1 * d = (div-lt_iff_lt-mul {k = d} {x = a} {y = 1} some).0 (omega arith) in absurd (omega arith)
      | inr more ↦ let l = least_half_even a d in omega arith
    ]

module _ (pad : Bool → List ℕ → List ℕ → List ℕ) (places d : ℕ) (some : 0 < d) (fits : d < 2 ^ 128) (many : 39 ≤ places) where
  front : (n : ℕ) → n < 2 ^ 128 → starts_with_minus (unsigned_places places (half_even (n * 10 ^ places) d)) ≡ false
  front n small =
      ap starts_with_minus (sym (whole_and_places n d places small some fits many) ∙ append_assoc (decimal (n / d)) (point ∷ []) _)
      ∙ decimal_no_minus (n / d) (let h = div-le_self n d in omega arith) _

  padded : (n : ℤ) → unsigned_abs n < 2 ^ 128
      → pad (int_lt n (pos 0)) [] (unsigned_places places (half_even (unsigned_abs n * 10 ^ places) d))
      ≡ padded_base_ten pad (places_text places (signed (int_lt n (pos 0)) (half_even (unsigned_abs n * 10 ^ places) d)))
  padded (pos n) small = rw (le-ltb n 0 (omega arith), front n small) refl
  padded (negsuc n) small = below (half_even (suc n * 10 ^ places) d) (some_places (suc n) d places some fits many (omega arith))
    where
      below : (h : ℕ) → 0 < h → pad true [] (unsigned_places places h) ≡ padded_base_ten pad (places_text places (signed true h))
      below zero h = absurd (omega arith)
      below (suc h) k = refl

-- the sign is a minus below 0, since no such fraction is rounded to 0
pub long_padded : (pad : Bool → List ℕ → List ℕ → List ℕ) (places : ℕ) (n d : ℤ) → 39 ≤ places → pos 0 <ℤ d → unsigned_abs n < 2 ^ 128 → unsigned_abs d < 2 ^ 128
    → pad (int_lt n (pos 0)) [] (unsigned_places places (half_even (unsigned_abs n * 10 ^ places) (unsigned_abs d))) ≡ padded_base_ten pad (half_even_text places n d)
long_padded pad places n d many up n_small d_small = padded pad places (unsigned_abs d) (above d up) d_small many n n_small
  where
    above : (z : ℤ) → pos 0 <ℤ z → 0 < unsigned_abs z
    above (pos k) h = omega (arith, ints)
    above (negsuc k) h = absurd (omega (arith, ints))
