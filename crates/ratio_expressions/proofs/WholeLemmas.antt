-- The fields of a whole number, from its text.
use Rattle.std.proofs.Common.{◌≡◌, ◌∙◌, ◌<◌, ◌*◌, ◌/◌, ◌%◌, ◌^◌, ◌+◌, ◌-◌, ◌≤◌, ℕ, zero, suc, ℤ, pos, negsuc, ◌*ℤ◌, Bool, true, false, List, [], ◌∷◌, ◌++◌, Result, Ok, Err, length, take, replicate, append_assoc, length-append, refl, sym, ap, subst, arith, lit<}
use Rattle.std.specs.Prelude.{neg_ℤ, unsigned_abs, ◌||◌, if◌then◌else◌, IfOk}
use Rattle.std.proofs.Math.IntN.{negsuc-*ℤ-pos}
use Rattle.std.proofs.Math.Nat.{mul-div_cancel, mul-mod_left, mul_assoc, pow-suc}
use Rattle.std.proofs.lemmas.Int.{ints}
use Rattle.std.proofs.lemmas.List.{replicate-append-replicate, take_all}
use Rattle.ratio_core.specs.Reading.{minus}
use Rattle.ratio_core.specs.Rounding.{IsFractionalPart, IsRounded, IsTruncation}
use Rattle.ratio_decimal.specs.Decimal.{places_text, point, unsigned_places}
use Rattle.ratio_integer.specs.LastDigits.{last_digits}
use Rattle.ratio_natural.specs.Decimal.{decimal_text}
use Rattle.ratio_big.specs.Texts.{fraction_text}
use Rattle.ratio_big.proofs.TextLemmas.{text_over_one}
use Rattle.ratio_expressions.specs.Forms.{IsInFields, with_zeros}

-- ---- a whole number rounded, and cut

rounded_whole : (n : ℤ) → IsRounded n (pos 1) n
rounded_whole n = record {
  near = record { above = omega (arith, ints); below = omega (arith, ints) };
  furthest = λ s h. let same : s ≡ n = omega (arith, ints, h.above, h.below) in let sizes = ap unsigned_abs same in omega (arith, sizes);
}

whole_truncation : (n : ℤ) → IsTruncation n (pos 1) n
whole_truncation n = record {
  floor = λ _. record { at_most = omega (arith, ints); next_above = omega (arith, ints) };
  ceiling = λ _. record { last_below = omega (arith, ints); at_least = omega (arith, ints) };
}

no_part : (n : ℤ) → IsFractionalPart n (pos 1) (pos 0)
no_part n = record { whole = n; truncation = whole_truncation n; sum = omega (arith, ints) }

-- ---- its decimal is its text and zeros

pub tens_some : (k : ℕ) → 0 < 10 ^ k
tens_some zero = lit< tt
tens_some (suc k) = let h = tens_some k in omega (arith, pow-suc 10 k)

ten_more : (n k : ℕ) → n * 10 ^ suc k ≡ n * 10 ^ k * 10
ten_more n k = ap (λ p. n * p) (pow-suc 10 k) ∙ sym (mul_assoc n (10 ^ k) 10)

only_zeros : (k n : ℕ) → last_digits k (n * 10 ^ k) ≡ replicate k 48
only_zeros zero n = refl
only_zeros (suc k) n =
    let front : n * 10 ^ suc k / 10 ≡ n * 10 ^ k = ap (λ m. m / 10) (ten_more n k) ∙ mul-div_cancel (n * 10 ^ k) (lit< tt) in
    let last : n * 10 ^ suc k % 10 ≡ 0 = ap (λ m. m % 10) (ten_more n k) ∙ mul-mod_left (n * 10 ^ k) 10 in
    let one : k + 1 ≡ suc k = omega arith in
    ap (λ m. last_digits k m ++ (48 + n * 10 ^ suc k % 10) ∷ []) front
    ∙ ap (λ digit. last_digits k (n * 10 ^ k) ++ (48 + digit) ∷ []) last
    ∙ ap (λ front. front ++ 48 ∷ []) (only_zeros k n)
    ∙ replicate-append-replicate k 1 48
    ∙ ap (λ count. replicate count 48) one

unsigned_zeros : (k n : ℕ) → with_zeros k (decimal_text n) ≡ unsigned_places k (n * 10 ^ k)
unsigned_zeros zero n = ap decimal_text (omega arith)
unsigned_zeros (suc k) n =
    ap (λ m. decimal_text m ++ point ∷ replicate (suc k) 48) (sym (mul-div_cancel n (tens_some (suc k))))
    ∙ ap (λ digits. decimal_text (n * 10 ^ suc k / 10 ^ suc k) ++ point ∷ digits) (sym (only_zeros (suc k) n))

behind_minus : (k : ℕ) (text : List ℕ) → with_zeros k (minus ∷ text) ≡ minus ∷ with_zeros k text
behind_minus zero text = refl
behind_minus (suc k) text = refl

below_zero : (k m : ℕ) → 0 < m → minus ∷ unsigned_places k m ≡ places_text k (neg_ℤ (pos m))
below_zero k zero some = absurd (omega (arith, some))
below_zero k (suc m) some = refl

long_zeros : (k : ℕ) (z : ℤ) → with_zeros k (places_text 0 z) ≡ places_text k (z *ℤ pos (10 ^ k))
long_zeros k (pos n) = unsigned_zeros k n
long_zeros k (negsuc n) =
    let some : 0 < suc n * 10 ^ k = grind (arith, tens_some k) in
    behind_minus k (decimal_text (suc n))
    ∙ ap (λ text. minus ∷ text) (unsigned_zeros k (suc n))
    ∙ below_zero k (suc n * 10 ^ k) some
    ∙ ap (places_text k) (sym (negsuc-*ℤ-pos n (10 ^ k)))

zeros_put : (k : ℕ) (text : List ℕ) → 0 < k → (text ++ point ∷ []) ++ replicate k 48 ≡ with_zeros k text
zeros_put zero text some = absurd (omega (arith, some))
zeros_put (suc k) text some = append_assoc text (point ∷ []) (replicate (suc k) 48)

-- a text with a point, made longer by zeros
pub made_longer : (k count room : ℕ) (text old new : List ℕ) → 0 < k → count ≡ length text + 1 → room ≡ count + k → old ≡ text ++ point ∷ [] → new ≡ take room old ++ replicate (room - count) 48
    → new ≡ with_zeros k text
made_longer k count room text old new some counted roomy pointed is =
    let width : length old ≤ room = omega (arith, ap length pointed, length-append text (point ∷ [])) in
    let more : room - count ≡ k = omega arith in
    is
    ∙ ap (λ front. front ++ replicate (room - count) 48) (take_all room old width ∙ pointed)
    ∙ ap (λ m. (text ++ point ∷ []) ++ replicate m 48) more
    ∙ zeros_put k text some

-- ---- the fields

alone : (b : Bool) (one other : List ℕ) → one ≡ (if b || true then one else other)
alone true one other = refl
alone false one other = refl

over_one : (n : ℤ) (k : ℕ) (text : List ℕ) → text ≡ fraction_text (n, pos 1) ++ 9 ∷ [] ++ with_zeros k (fraction_text (n, pos 1)) ++ 9 ∷ [] ++ fraction_text (n, pos 1) → IsInFields (n, pos 1) k text
over_one n k text is = record {
  rounded = with_zeros k (fraction_text (n, pos 1));
  mixed = fraction_text (n, pos 1);
  decimal = record {
    multiple = n *ℤ pos (10 ^ k);
    rounded = rounded_whole (n *ℤ pos (10 ^ k));
    written = ap (with_zeros k) (sym (text_over_one n 1 refl)) ∙ long_zeros k n;
  };
  whole_part = record { whole = n; rest = pos 0; truncation = whole_truncation n; part = no_part n; written = alone _ _ _ };
  written = is;
}

whole_fields : (x : ℤ × ℤ) (k : ℕ) (whole text : List ℕ) → x.1 ≡ pos 1 → whole ≡ fraction_text x → text ≡ whole ++ 9 ∷ [] ++ with_zeros k whole ++ 9 ∷ [] ++ whole → IsInFields x k text
whole_fields x k whole text one same is =
    let shown : whole ≡ fraction_text (x.0, pos 1) = same ∙ ap (λ d. fraction_text (x.0, d)) one in
    subst (λ d. IsInFields (x.0, d) k text) (sym one) (over_one x.0 k text (is ∙ ap (λ w. w ++ 9 ∷ [] ++ with_zeros k w ++ 9 ∷ [] ++ w) shown))

-- what puts the text, the decimal and the text together gives the fields
pub whole_given : {V E : Type 0} (result : Result V E) (bytes : V → List ℕ) (x : ℤ × ℤ) (k : ℕ) (whole first second third : List ℕ) → x.1 ≡ pos 1 → whole ≡ fraction_text x → first ≡ whole → second ≡ with_zeros k whole → third ≡ whole
    → IfOk result (λ v. bytes v ≡ first ++ 9 ∷ [] ++ second ++ 9 ∷ [] ++ third) → IfOk result (λ v. IsInFields x k (bytes v))
whole_given (Ok v) bytes x k whole first second third one same a b c is =
    whole_fields x k whole (bytes v) one same
    (is
    ∙ ap (λ w. w ++ 9 ∷ [] ++ second ++ 9 ∷ [] ++ third) a
    ∙ ap (λ w. whole ++ 9 ∷ [] ++ w ++ 9 ∷ [] ++ third) b
    ∙ ap (λ w. whole ++ 9 ∷ [] ++ with_zeros k whole ++ 9 ∷ [] ++ w) c)
whole_given (Err e) bytes x k whole first second third one same a b c is = tt
