-- How the leading digits of a text are read one after another, and how the two number texts are made of them.
use Rattle.std.proofs.Common.{◌≡◌, ◌≢◌, T, refl, sym, ◌∙◌, ap, subst, inl, inr, arith, ℕ, zero, suc, ◌+◌, ◌-◌, ◌*◌, ◌^◌, ◌<◌, ◌≤◌, ◌&&◌, Bool, eqb, eqb→eq, eq-zero-or-pos, pow-suc, true, false, List, [], ◌∷◌, ◌++◌, length, length-drop, drop, take, get_or, ℤ, pos, ◌<ℤ◌, neg_ℤ, ◌-ℤ◌, FitsSigned, Some, Result, Ok, Err}
use Rattle.std.proofs.lemmas.Int.{ints, to_z-of_z, to_z_pos}
use Rattle.std.proofs.lemmas.Int.Digits.{digits_more, digits_value-lt, digits_value_more}
use Rattle.std.proofs.lemmas.List.{drop_more, length-take-le}
use Rattle.std.proofs.lemmas.Nat.{mul-le}
use Rattle.std.proofs.lemmas.Bool.{eqb-true}
use Rattle.std.proofs.Math.Nat.{pow-le-pow_left, pow-le-pow_right}
use Rattle.std.proofs.Math.Seq.{split_at, take-add, take-length}
use Rattle.std.specs.Char.{digit_value}
use Rattle.std.specs.Int.{w128}
use Rattle.std.specs.Str.Parse.{AllDigits, digits_value, digits_value_after, starts_with_minus}
use lib.Ieee.Fits.{and_l, and_r}
use mir.Val.{to_z, of_z}
use Rattle.ratio_integer.specs.Range.{Checks, IsHeld}
use Rattle.ratio_core.specs.declared.parse_error.RatioErrorKind.{RatioErrorKind}
use Rattle.ratio_core.specs.declared.parse_error.RatioErrorKind.TheVariants.{ParseError, ZeroDenominator}
use Rattle.ratio_core.specs.Reading.{digits_sum, AnswersFields, IsFractionText, IsSlashedText, ReadsAs, minus, slash}
use Rattle.ratio_core.specs.declared.text.reading.TheConstants.{DIGITS}
use Rattle.ratio_core.proofs.NumberLemmas.{digits_after, digits_value_sum}

-- ---- the digits

abbrev are_worth : ℕ → Bool
are_worth zero = true
are_worth (suc k) = eqb (get_or DIGITS k 0) (digit_value (48 + k)) && are_worth k

worth_below : (n k : ℕ) → T (are_worth n) → k < n → get_or DIGITS k 0 ≡ digit_value (48 + k)
worth_below zero k t h = absurd (omega arith)
worth_below (suc n) k t h =
    elim (eq-zero-or-pos (n - k)) [
      | inl z ↦ let e : k ≡ n = omega arith in rw e (eqb→eq _ _ (and_l _ (are_worth n) t))
      | inr g ↦ worth_below n k (and_r _ (are_worth n) t) (omega arith)
    ]

-- the table has the values of the bytes from 48 to 122
pub worth : (byte : ℕ) → 48 ≤ byte → byte ≤ 122 → get_or DIGITS (byte - 48) 0 ≡ digit_value byte
worth byte low high =
    let same : 48 + (byte - 48) ≡ byte = omega arith in
    worth_below 75 (byte - 48) tt (omega arith) ∙ ap digit_value same

-- ---- how many

pub few_10 : (radix : ℕ) → radix ≤ 10 → radix ^ 19 < 2 ^ 64
few_10 radix h = omega (arith, pow-le-pow_left {n = radix} {m = 10} h 19)

pub few_16 : (radix : ℕ) → radix ≤ 16 → radix ^ 15 < 2 ^ 64
few_16 radix h = omega (arith, pow-le-pow_left {n = radix} {m = 16} h 15)

pub few_36 : (radix : ℕ) → radix ≤ 36 → radix ^ 12 < 2 ^ 64
few_36 radix h = omega (arith, pow-le-pow_left {n = radix} {m = 36} h 12)

-- ---- the loop

-- the first `at` bytes are digits, `at` is at most `most`, and n is their number
pub record AreReadTo (radix most : ℕ) (bytes : List ℕ) (at n : ℕ) : Type 0 where
  pub inside : at ≤ length bytes
  pub few : at ≤ most
  pub digits : AllDigits radix (take at bytes)
  pub value : n ≡ digits_value radix (take at bytes)

-- a number of j digits is below radix ^ j
small : (radix most : ℕ) (bytes : List ℕ) (at n : ℕ) → AreReadTo radix most bytes at n → n < radix ^ at
small radix most bytes at n s = subst (λ j. n < radix ^ j) (length-take-le at bytes s.inside) (omega (arith, s.value, digits_value-lt radix (take at bytes) s.digits))

-- with one digit more, the number is still below 2 ^ 64
pub room : (radix most : ℕ) (bytes : List ℕ) (at n d : ℕ) → 2 ≤ radix → radix ^ most < 2 ^ 64 → AreReadTo radix most bytes at n → at < most → d < radix → n * radix + d < 2 ^ 64
room radix most bytes at n d low held s more digit =
    let next : n * radix + d < radix ^ suc at = rw (pow-suc radix at) (omega (arith, mul-le (suc n) radix (radix ^ at) radix (small radix most bytes at n s) (omega arith), digit)) in
    omega (arith, held, next, pow-le-pow_right {n = radix} (omega arith) {i = suc at} {j = most} more)

pub step : (radix most : ℕ) (bytes : List ℕ) (at n d : ℕ) → AreReadTo radix most bytes at n → at < length bytes → at < most → d ≡ digit_value (get_or bytes at 0) → d < radix
    → AreReadTo radix most bytes (at + 1) (n * radix + d)
step radix most bytes at n d s more few worth digit =
    record {
      inside = omega (arith, more);
      few = omega (arith, few);
      digits = digits_more radix bytes at more s.digits (subst (λ x. x < radix) worth digit);
      value = ap (λ x. x * radix + d) s.value ∙ ap (λ x. digits_value radix (take at bytes) * radix + x) worth ∙ sym (digits_value_more radix bytes at more);
    }

-- the radix to the count of the digits that were read is below 2 ^ 64, too
pub power_fits : (radix most at : ℕ) → 2 ≤ radix → radix ^ most < 2 ^ 64 → at ≤ most → radix ^ at < 2 ^ 64
power_fits radix most at low held few = omega (arith, held, pow-le-pow_right {n = radix} (omega arith) {i = at} {j = most} few)

-- ---- one group after another

pub append_digits : (radix : ℕ) (xs ys : List ℕ) → AllDigits radix xs → AllDigits radix ys → AllDigits radix (xs ++ ys)
append_digits radix [] ys h k = k
append_digits radix (x ∷ xs) ys h k = (h.0, append_digits radix xs ys h.1 k)

after_append : (radix n : ℕ) (xs ys : List ℕ) → digits_value_after radix n (xs ++ ys) ≡ digits_value_after radix (digits_value_after radix n xs) ys
after_append radix n [] ys = refl
after_append radix n (x ∷ xs) ys = after_append radix (n * radix + digit_value x) xs ys

-- the first `at` bytes are digits, and n is their number
pub record AreGroupsTo (radix : ℕ) (bytes : List ℕ) (at n : ℕ) : Type 0 where
  pub inside : at ≤ length bytes
  pub digits : AllDigits radix (take at bytes)
  pub value : n ≡ digits_value radix (take at bytes)

pub group_more : (radix : ℕ) (bytes : List ℕ) (at n more group : ℕ) → AreGroupsTo radix bytes at n → more ≤ length (drop at bytes) → AllDigits radix (take more (drop at bytes))
    → group ≡ digits_value radix (take more (drop at bytes)) → AreGroupsTo radix bytes (at + more) (n * radix ^ more + group)
group_more radix bytes at n more group s inside digits is =
    let first = take at bytes in
    let next = take more (drop at bytes) in
    let joined : take (at + more) bytes ≡ first ++ next = take-add at more bytes in
    let scaled : digits_value radix (first ++ next) ≡ digits_value radix first * radix ^ length next + digits_sum radix next = after_append radix 0 first next ∙ digits_after radix (digits_value radix first) next in
    let count : radix ^ length next ≡ radix ^ more = ap (λ k. radix ^ k) (length-take-le more (drop at bytes) inside) in
    record {
      inside = omega (arith, inside, length-drop at bytes, s.inside);
      digits = subst (AllDigits radix) (sym joined) (append_digits radix first next s.digits digits);
      value = ap (λ x. x * radix ^ more + group) s.value ∙ ap (λ x. digits_value radix first * radix ^ more + x) (is ∙ digits_value_sum radix next)
          ∙ ap (λ x. digits_value radix first * x + digits_sum radix next) (sym count) ∙ sym scaled ∙ ap (digits_value radix) (sym joined);
    }

-- ---- the number text

-- the bytes from a place on
pub from : (k : ℕ) (text : List ℕ) → take (length text - k) (drop k text) ≡ drop k text
from k text = ap (λ j. take j (drop k text)) (sym (length-drop k text)) ∙ take-length (drop k text)

-- a text that begins with a minus
minus_first : (text : List ℕ) → starts_with_minus text ≡ true → text ≡ minus ∷ drop 1 text
minus_first [] e = absurd (let no : false ≡ true = e in cc)
minus_first (c ∷ cs) e = ap (λ x. x ∷ cs) (eqb-true c 45 e)

fits : (n : ℕ) → n < 2 ^ 127 → FitsSigned w128 (neg_ℤ (pos n))
fits zero h = record { sfits = omega (arith, ints) }
fits (suc n) h = record { sfits = omega (arith, ints, h) }

-- an `i128` has the negative of a number below 2^127
negated : (n : ℕ) → n < 2 ^ 127 → to_z w128 (of_z w128 (pos 0 -ℤ to_z w128 n)) ≡ neg_ℤ (pos n)
negated n h =
    let same : to_z w128 n ≡ pos n = to_z_pos w128 n (omega (arith, h)) in
    let minus_n : pos 0 -ℤ to_z w128 n ≡ neg_ℤ (pos n) = omega (arith, ints, same) in
    ap (λ z. to_z w128 (of_z w128 z)) minus_n ∙ to_z-of_z w128 (neg_ℤ (pos n)) (fits n h)

module _ {T : Type 0} (value : T → ℤ) (lo hi : ℤ) where
  -- one or more digits are a number text
  pub of_digits : (radix : ℕ) (text : List ℕ) (count n : ℕ) (y : T) → count ≤ length text → count ≢ 0 → AllDigits radix (take count text) → n ≡ digits_value radix (take count text)
      → Checks value lo hi (pos n) (Some y) → ReadsAs lo hi radix (take count text) (value y)
  of_digits radix text count n y inside some digits is k =
      record {
        number = inl ((omega (arith, some, length-take-le count text inside), digits), k.1 ∙ ap pos (is ∙ digits_value_sum radix (take count text)));
        held = subst (IsHeld lo hi) (sym k.1) k.0;
      }

  -- and so are they after a minus
  pub of_minus : (radix : ℕ) (text : List ℕ) (count n : ℕ) (y : T) → lo <ℤ pos 0 → starts_with_minus text ≡ true → count ≤ length (drop 1 text) → count ≢ 0 → AllDigits radix (take count (drop 1 text))
      → n ≡ digits_value radix (take count (drop 1 text)) → n < 2 ^ 127
      → Checks value lo hi (to_z w128 (of_z w128 (pos 0 -ℤ to_z w128 n))) (Some y) → ReadsAs lo hi radix (take (count + 1) text) (value y)
  of_minus radix text count n y under first inside some digits is low k =
      let rest = drop 1 text in
      let next : count + 1 ≡ suc count = omega arith in
      let cut : take (count + 1) text ≡ minus ∷ take count rest = ap (λ j. take j text) next ∙ ap (take (suc count)) (minus_first text first) in
      record {
        number = inr (inr (take count rest, under, cut, (omega (arith, some, length-take-le count rest inside), digits), k.1 ∙ negated n low ∙ ap (λ x. neg_ℤ (pos x)) (is ∙ digits_value_sum radix (take count rest))));
        held = subst (IsHeld lo hi) (sym k.1) k.0;
      }

  -- ---- the fraction

  -- all bytes are a number text
  pub alone : (text : List ℕ) (at : ℕ) (n d : T) → at ≡ length text → value d ≡ pos 1 → ReadsAs lo hi 10 (take at text) (value n) → IsFractionText lo hi text (value n) (value d)
  alone text at n d whole one reads = inr (subst (λ xs. ReadsAs lo hi 10 xs (value n)) (ap (λ k. take k text) whole ∙ take-length text) reads, one)

  -- the bytes before and after a slash are number texts
  pub slashed : (radix : ℕ) (text : List ℕ) (at : ℕ) (n d : T) → at < length text → get_or text at 0 ≡ slash
      → ReadsAs lo hi radix (take at text) (value n) → ReadsAs lo hi radix (drop (at + 1) text) (value d) → IsSlashedText lo hi radix text (value n) (value d)
  slashed radix text at n d inside is front back =
      let next : suc at ≡ at + 1 = omega arith in
      record {
        front = take at text;
        back = drop (at + 1) text;
        cut = split_at text at 0 inside ∙ ap (λ c. take at text ++ c ∷ drop (suc at) text) is ∙ ap (λ k. take at text ++ slash ∷ drop k text) next;
        sides = record { numer = front; denom = back };
      }

  -- the same where the second number text may end before the bytes do
  pub slashed_first : (text : List ℕ) (at count : ℕ) (n d : T) → at < length text → get_or text at 0 ≡ slash
      → ReadsAs lo hi 10 (take at text) (value n) → ReadsAs lo hi 10 (take count (drop (at + 1) text)) (value d) → IsFractionText lo hi (take (at + 1 + count) text) (value n) (value d)
  slashed_first text at count n d inside is front back =
      let same : at + 1 + count ≡ at + suc count = omega arith in
      let rest : drop at text ≡ slash ∷ drop (at + 1) text = drop_more text at 0 inside ∙ ap (λ c. c ∷ drop (at + 1) text) is in
      inl (record {
        front = take at text;
        back = take count (drop (at + 1) text);
        cut = ap (λ k. take k text) same ∙ take-add at (suc count) text ∙ ap (λ xs. take at text ++ take (suc count) xs) rest;
        sides = record { numer = front; denom = back };
      })

  -- the right result for two numbers is the right result for what reads as them
  pub read_fields : (Reads : ℤ → ℤ → Type 0) (n d : T) → Reads (value n) (value d) → (r : Result (T × T) RatioErrorKind)
      → AnswersFields value (λ m e. (value n ≡ m) × (value d ≡ e)) r → AnswersFields value Reads r
  read_fields Reads n d reads (Ok p) h = (subst (λ e. Reads (value p.0) e) h.0.1 (subst (λ m. Reads m (value d)) h.0.0 reads), h.1)
  read_fields Reads n d reads (Err ZeroDenominator) h = (value n, subst (λ e. Reads (value n) e) h.1.1 reads)
  read_fields Reads n d reads (Err ParseError) h = absurd (h (value n) (value d) (refl, refl))
