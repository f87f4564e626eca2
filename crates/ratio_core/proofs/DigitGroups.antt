-- The decimal text of a number, in groups of digits with leading zeros.
use Rattle.std.proofs.Common.{◌≡◌, refl, sym, ◌∙◌, ap, arith, T, Bool, true, ◌&&◌, eqb, eqb→eq, take, ℕ, zero, suc, ◌+◌, ◌-◌, ◌*◌, ◌/◌, ◌%◌, ◌^◌, ◌<◌, ◌≤◌, List, [], ◌∷◌, ◌++◌, length, length-append, drop, get_or, slice_set, append-nil, append_assoc, eq-zero-or-pos, inl, inr}
use Rattle.std.specs.Fmt.{decimal}
use lib.Ieee.Fits.{and_l, and_r}
use lib.Seq.{drop_at, drop-drop, length-take-le}
use borrow.Rule.Slice.PartMut.{put_mid}
use Rattle.ratio_integer.specs.LastDigits.{last_digits}
use Rattle.ratio_core.specs.declared.text.TheConstants.{TWO_DIGITS}
use Rattle.std.proofs.lemmas.Fmt.{decimal_digit, decimal_step_wide, length-decimal-le_wide}
use Rattle.std.proofs.lemmas.List.{drop_more, drop-set}
use Rattle.std.proofs.Math.Nat.{pow-suc, mul_assoc, pow-le-pow_right}

pub length_group : (k n : ℕ) → length (last_digits k n) ≡ k
length_group zero n = refl
length_group (suc k) n = omega (arith, length-append (last_digits k (n / 10)) ((48 + n % 10) ∷ []), length_group k (n / 10))

-- if q is at least 1, p is at most q * p
pub at_least : (q p : ℕ) → 1 ≤ q → p ≤ q * p
at_least zero p some = absurd (omega (arith, some))
at_least (suc q) p some = omega arith

-- a number's text is the text of what precedes its last k digits, and then these digits
pub grouped : (k q r : ℕ) → 1 ≤ q → r < 10 ^ k → q * 10 ^ k + r < 10 ^ 64 → decimal (q * 10 ^ k + r) ≡ decimal q ++ last_digits k r
grouped zero q r some small wide =
    let same : q * 10 ^ 0 + r ≡ q = omega (arith, small) in
    ap decimal same ∙ sym (append-nil (decimal q))
grouped (suc k) q r some small wide =
    let p = 10 ^ k in
    let power : 10 ^ suc k ≡ p * 10 = pow-suc 10 k in
    let positive : 1 ≤ p = pow-le-pow_right {n = 10} (omega arith) {i = 0} {j = k} (omega arith) in
    let product : q * 10 ^ suc k ≡ q * p * 10 = ap (λ x. q * x) power ∙ sym (mul_assoc q p 10) in
    let tenth : (q * 10 ^ suc k + r) / 10 ≡ q * p + r / 10 = omega (arith, product) in
    let last : (q * 10 ^ suc k + r) % 10 ≡ r % 10 = omega (arith, product) in
    decimal_step_wide (q * 10 ^ suc k + r) (omega (arith, product, positive, at_least q p some)) wide
    ∙ ap (λ x. decimal x ++ (48 + (q * 10 ^ suc k + r) % 10) ∷ []) tenth
    ∙ ap (λ x. decimal (q * p + r / 10) ++ (48 + x) ∷ []) last
    ∙ ap (λ xs. xs ++ (48 + r % 10) ∷ []) (grouped k q (r / 10) some (omega (arith, small, power)) (omega (arith, wide, product)))
    ∙ append_assoc (decimal q) (last_digits k (r / 10)) ((48 + r % 10) ∷ [])

pub some_digit : (n : ℕ) → n < 2 ^ 128 → 1 ≤ length (decimal n)
some_digit n small =
    elim (eq-zero-or-pos (n - 9)) [
      | inl h ↦ omega (arith, ap length (decimal_digit n (omega (arith, h))))
      | inr h ↦ omega (arith, ap length (decimal_step_wide n (omega (arith, h)) (omega (arith, small))), length-append (decimal (n / 10)) ((48 + n % 10) ∷ []))
    ]

-- ---- a text of groups, written from the last to the first

-- the digits of `left` are still to be written, so that they end at `at`
pub record IsLeft (n end left at : ℕ) (buf written : List ℕ) : Type 0 where
  pub before : at ≤ end
  pub length_is : at + length (decimal n) ≡ end + length (decimal left)
  pub text_is : decimal left ++ drop at written ≡ decimal n ++ drop end buf

-- all digits but the last 19
abbrev front : ℕ → ℕ
front left = left / 10 ^ 19

abbrev low : ℕ → ℕ
low left = left - left / 10 ^ 19 * 10 ^ 19

module _ (n end left at : ℕ) (buf written : List ℕ) (wide : 2 ^ 64 ≤ left) (small : left < 2 ^ 128) (l : IsLeft n end left at buf written) where
  split : decimal left ≡ decimal (front left) ++ last_digits 19 (low left)
  split =
      let all : front left * 10 ^ 19 + low left ≡ left = omega arith in
      sym (ap decimal all) ∙ grouped 19 (front left) (low left) (omega (arith, wide)) (omega arith) (omega (arith, all, small))

  split_length : length (decimal left) ≡ length (decimal (front left)) + 19
  split_length = omega (arith, ap length split, length-append (decimal (front left)) (last_digits 19 (low left)), length_group 19 (low left))

  after_one : decimal (10 ^ 18 + low left / 10) ≡ 49 ∷ last_digits 18 (low left / 10)
  after_one = grouped 18 1 (low left / 10) (omega arith) (omega arith) (omega arith) ∙ ap (λ xs. xs ++ last_digits 18 (low left / 10)) (decimal_digit 1 (omega arith))

  pub length_after_one : length (decimal (10 ^ 18 + low left / 10)) ≡ 19
  length_after_one = omega (arith, ap length after_one, length_group 18 (low left / 10))

  pub room : 39 ≤ end → n < 2 ^ 128 → 20 ≤ at
  room enough held =
      omega (arith, l.length_is, split_length, enough, some_digit (front left) (omega (arith, small)), length-decimal-le_wide 39 n (omega arith) (omega (arith, held)) (omega (arith, held)))

  -- the last digit of a group is written, and the other 18 after a 1; the digits before the group overwrite the 1
  pub next : (start : ℕ) (new : List ℕ) → start + length (decimal (10 ^ 18 + low left / 10)) ≡ at - 1
      → drop start new ≡ decimal (10 ^ 18 + low left / 10) ++ drop (at - 1) (slice_set written (at - 1) (48 + low left % 10))
      → 20 ≤ at → at ≤ length written → length new ≡ length written → IsLeft n end (front left) (at - 19) buf new
  next start new ends is enough inside same =
      let long : start + 20 ≡ at = omega (arith, ends, length_after_one, enough) in
      let from : at - 19 ≡ start + 1 = omega (arith, long) in
      let back : at - 1 + 1 ≡ at = omega (arith, enough) in
      let last : drop (at - 1) (slice_set written (at - 1) (48 + low left % 10)) ≡ (48 + low left % 10) ∷ drop at written =
      drop-set written (at - 1) (48 + low left % 10) (omega (arith, enough, inside)) ∙ ap (λ k. (48 + low left % 10) ∷ drop k written) back in
      let whole : get_or new start 0 ∷ drop (start + 1) new ≡ 49 ∷ (last_digits 18 (low left / 10) ++ (48 + low left % 10) ∷ drop at written) =
      sym (drop_more new start 0 (omega (arith, long, inside, same))) ∙ is ∙ ap (λ xs. xs ++ drop (at - 1) (slice_set written (at - 1) (48 + low left % 10))) after_one
      ∙ ap (λ xs. 49 ∷ (last_digits 18 (low left / 10) ++ xs)) last in
      let tail : drop (start + 1) new ≡ last_digits 19 (low left) ++ drop at written =
      ap (λ xs. drop 1 xs) whole ∙ sym (append_assoc (last_digits 18 (low left / 10)) ((48 + low left % 10) ∷ []) (drop at written)) in
      record {
        before = omega (arith, l.before);
        length_is = omega (arith, l.length_is, split_length, long);
        text_is = ap (λ k. decimal (front left) ++ drop k new) from ∙ ap (λ xs. decimal (front left) ++ xs) tail
            ∙ sym (append_assoc (decimal (front left)) (last_digits 19 (low left)) (drop at written)) ∙ ap (λ xs. xs ++ drop at written) (sym split) ∙ l.text_is;
      }

-- ---- four digits at a time

abbrev are_two_digits : ℕ → Bool
are_two_digits zero = true
are_two_digits (suc n) = (eqb (get_or TWO_DIGITS (n * 2) 0) (48 + n / 10) && eqb (get_or TWO_DIGITS (n * 2 + 1) 0) (48 + n % 10)) && are_two_digits n

two_digits_below : (m n : ℕ) → T (are_two_digits m) → n < m → (get_or TWO_DIGITS (n * 2) 0 ≡ 48 + n / 10) × (get_or TWO_DIGITS (n * 2 + 1) 0 ≡ 48 + n % 10)
two_digits_below zero n t h = absurd (omega arith)
two_digits_below (suc m) n t h =
    elim (eq-zero-or-pos (m - n)) [
      | inl z ↦ let e : n ≡ m = omega arith in let both = and_l _ (are_two_digits m) t in rw e (eqb→eq _ _ (and_l _ _ both), eqb→eq _ _ (and_r _ _ both))
      | inr g ↦ two_digits_below m n (and_r _ (are_two_digits m) t) (omega arith)
    ]

-- the table has the two digits of each number below 100
pub two_digits_at : (n : ℕ) → n < 100 → (get_or TWO_DIGITS (n * 2) 0 ≡ 48 + n / 10) × (get_or TWO_DIGITS (n * 2 + 1) 0 ≡ 48 + n % 10)
two_digits_at n = two_digits_below 100 n tt

-- the four digits of a number below 10000
four : (n : ℕ) → n < 10000 → last_digits 4 n ≡ (48 + n / 1000) ∷ (48 + n / 100 % 10) ∷ (48 + n / 10 % 10) ∷ (48 + n % 10) ∷ []
four n small =
    let a : n / 10 / 10 / 10 % 10 ≡ n / 1000 = omega (arith, small) in
    let b : n / 10 / 10 % 10 ≡ n / 100 % 10 = omega arith in
    rw (a, b) refl

four_more : (left : ℕ) → 10000 ≤ left → left < 2 ^ 64 → decimal left ≡ decimal (left / 10000) ++ last_digits 4 (left % 10000)
four_more left more small =
    let all : left / 10000 * 10 ^ 4 + left % 10000 ≡ left = omega arith in
    sym (ap decimal all) ∙ grouped 4 (left / 10000) (left % 10000) (omega (arith, more)) (omega arith) (omega (arith, all, small))

-- if four digits are left, there is room for them
pub four_fit : (n end left at : ℕ) (buf written : List ℕ) → 10000 ≤ left → left < 2 ^ 64 → length (decimal n) ≤ end → IsLeft n end left at buf written → 4 ≤ at
four_fit n end left at buf written more small room l =
    omega (arith, l.length_is, room, ap length (four_more left more small), length-append (decimal (left / 10000)) (last_digits 4 (left % 10000)), length_group 4 (left % 10000))

-- a piece of length k is written before `at`
pub from_group : (k at : ℕ) (xs group : List ℕ) → k ≤ at → at ≤ length xs → drop (at - k) (put_mid (at - k) (at - k + k - (at - k)) xs group) ≡ group ++ drop at xs
from_group k at xs group enough inside =
    let start = at - k in
    let width = start + k - start in
    let back : start + width ≡ at = omega (arith, enough) in
    drop_at (take start xs) _ start (length-take-le start xs (omega (arith, inside))) ∙ ap (λ ys. group ++ ys) (drop-drop width start xs ∙ ap (λ k. drop k xs) back)

-- four of the digits that are left are written
pub next_four : (n end left at : ℕ) (buf written place : List ℕ) → 10000 ≤ left → left < 2 ^ 64 → length (decimal n) ≤ end → at ≤ length written
    → place ≡ (48 + left % 10000 / 1000) ∷ (48 + left % 10000 / 100 % 10) ∷ (48 + left % 10000 / 10 % 10) ∷ (48 + left % 10000 % 10) ∷ []
    → IsLeft n end left at buf written → IsLeft n end (left / 10000) (at - 4) buf (put_mid (at - 4) (at - 4 + 4 - (at - 4)) written place)
next_four n end left at buf written place more small room inside is l =
    let front = left / 10000 in
    let low = left % 10000 in
    let split : decimal left ≡ decimal front ++ last_digits 4 low = four_more left more small in
    let enough = four_fit n end left at buf written more small room l in
    record {
      before = omega (arith, l.before);
      length_is = omega (arith, l.length_is, enough, ap length split, length-append (decimal front) (last_digits 4 low), length_group 4 low);
      text_is = ap (λ xs. decimal front ++ xs) (from_group 4 at written place enough inside ∙ ap (λ xs. xs ++ drop at written) (is ∙ sym (four low (omega arith))))
          ∙ sym (append_assoc (decimal front) (last_digits 4 low) (drop at written)) ∙ ap (λ xs. xs ++ drop at written) (sym split) ∙ l.text_is;
    }
