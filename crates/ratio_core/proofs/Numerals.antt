-- The digits of a number in a base from 2 to 16: writing them from the last to the first, and reading them back.
use Rattle.std.proofs.Common.{◌≡◌, T, refl, sym, ◌∙◌, ap, subst, inl, inr, arith, ℕ, zero, suc, ◌+◌, ◌-◌, ◌*◌, ◌&&◌, eqb, eqb→eq, eq-zero-or-pos, get_or, ◌/◌, ◌%◌, ◌^◌, ◌<◌, ◌≤◌, ◌==◌, Bool, true, false, cond, List, [], ◌∷◌, ◌++◌, append_assoc, length, length-append, drop, slice_set, nat_lt, lit<}
use Rattle.std.specs.Prelude.{IsAscii, map}
use Rattle.std.specs.Char.{digit_value}
use Rattle.std.specs.Fmt.{digit_glyph}
use Rattle.std.specs.Int.Digits.{AllBelowBase, digits_of, number_from_digits}
use Rattle.std.specs.Str.Parse.{AllDigits, IsNumeral}
use Rattle.std.proofs.Math.Nat.{add-mul-div_right, add-mul-mod_self_right, div-lt_iff_lt-mul, div-lt_self, mod-lt, mul_assoc, pow-le-pow_left, pow-le-pow_right, pow-suc, pow-zero}
use Rattle.std.proofs.lemmas.Bool.{eqb-true, ne_eqb}
use Rattle.std.proofs.lemmas.Grind.{common_steps}
use Rattle.std.proofs.lemmas.Int.Digits.{all_below_base_digits_of, digits_of_step, digits_value_is, length-digits_of-le, length-digits_of_step, number_digits_of}
use Rattle.std.proofs.lemmas.List.{drop-set}
use Rattle.std.proofs.lemmas.Nat.{div-add-mod', le-div}
use Rattle.std.proofs.lemmas.Str.Ascii.{IsAscii-cons, IsAscii-nil}
use lib.Ieee.Fits.{and_l, and_r}
use borrow.Rule.Slice.PartMut.{put_mid}
use Rattle.ratio_core.specs.Printing.{numeral}
use Rattle.ratio_core.specs.Reading.{digits_sum}
use Rattle.ratio_core.specs.declared.text.numeral.TheConstants.{LOWER, UPPER}
use Rattle.ratio_core.proofs.DigitGroups.{at_least, from_group}
use Rattle.ratio_core.proofs.NumberLemmas.{digits_value_sum}

-- ---- how many digits there are

pub few_digits : (b n : ℕ) → 2 ≤ b → n < 2 ^ 128 → length (digits_of b n) ≤ 128
few_digits b n two small =
    let p : 2 ^ 128 ≤ b ^ 128 = pow-le-pow_left two 128 in
    length-digits_of-le b 128 n two (omega (arith, p, small))

pub some_digits : (b n : ℕ) → 2 ≤ b → 0 < n → 1 ≤ length (digits_of b n)
some_digits b n two some = omega (arith, length-digits_of_step b n two some)

-- ---- writing

length_map : (f : ℕ → ℕ) (xs : List ℕ) → length (map f xs) ≡ length xs
length_map f [] = refl
length_map f (x ∷ xs) = ap suc (length_map f xs)

map_push : (f : ℕ → ℕ) (xs : List ℕ) (x : ℕ) (ys : List ℕ) → map f (xs ++ x ∷ []) ++ ys ≡ map f xs ++ f x ∷ ys
map_push f [] x ys = refl
map_push f (y ∷ xs) x ys = ap (λ zs. f y ∷ zs) (map_push f xs x ys)

-- one more digit is written
pub one_written : (b left at : ℕ) (upper : Bool) (buf : List ℕ) → 2 ≤ b → 0 < left → at < length buf
    → map (digit_glyph upper) (digits_of b (left / b)) ++ drop at (slice_set buf at (digit_glyph upper (left % b))) ≡ map (digit_glyph upper) (digits_of b left) ++ drop (at + 1) buf
one_written b left at upper buf two some inside =
    rw (digits_of_step b left two some, map_push (digit_glyph upper) (digits_of b (left / b)) (left % b) (drop (at + 1) buf), drop-set buf at (digit_glyph upper (left % b)) inside)

-- the digits of `left` are still to be written, so that they end at `at`
pub record IsLeft (b : ℕ) (upper : Bool) (n end left at : ℕ) (buf written : List ℕ) : Type 0 where
  pub whole : map (digit_glyph upper) (digits_of b left) ++ drop at written ≡ map (digit_glyph upper) (digits_of b n) ++ drop end buf
  pub room : end + length (digits_of b left) ≤ at + 128
  pub before : at ≤ end

pub next_digit : (b n end left at : ℕ) (upper : Bool) (buf written : List ℕ) → 2 ≤ b → 0 < left → 128 ≤ end → at ≤ length written
    → IsLeft b upper n end left at buf written → IsLeft b upper n end (left / b) (at - 1) buf (slice_set written (at - 1) (digit_glyph upper (left % b)))
next_digit b n end left at upper buf written two some enough inside l =
    let more = length-digits_of_step b left two some in
    let back : at - 1 + 1 ≡ at = omega (arith, l.room, enough, more) in
    record {
      whole = one_written b left (at - 1) upper written two some (omega (arith, back, inside)) ∙ ap (λ k. map (digit_glyph upper) (digits_of b left) ++ drop k written) back ∙ l.whole;
      room = omega (arith, l.room, back, more);
      before = omega (arith, l.before);
    }

-- ---- in groups of 16 digits

pub power_some : (b k : ℕ) → 2 ≤ b → 0 < b ^ k
power_some b k two = omega (arith, pow-le-pow_right {n = b} (omega (arith, two)) {i = 0} {j = k} (omega arith), pow-zero b)

pub group_fits : (b : ℕ) → b ≤ 16 → b ^ 16 ≤ 2 ^ 64
group_fits b high = pow-le-pow_left high 16

pub in_group : (b n : ℕ) → 2 ≤ b → n % b ^ 16 < b ^ 16
in_group b n two = mod-lt n (power_some b 16 two)

-- if n is at least b^k, it has at least k digits
many_digits : (b k n : ℕ) → 2 ≤ b → b ^ k ≤ n → k ≤ length (digits_of b n)
many_digits b zero n two long = omega arith
many_digits b (suc k) n two long =
    let power = pow-suc b k in
    let some : 0 < n = omega (arith, long, power_some b (suc k) two) in
    omega (arith, many_digits b k (n / b) two (le-div (b ^ k) n b (omega (arith, two)) (omega (arith, power, long))), length-digits_of_step b n two some)

pub digits_of_group : (b left : ℕ) → 2 ≤ b → b ≤ 16 → 2 ^ 64 ≤ left → 16 ≤ length (digits_of b left)
digits_of_group b left two high wide = many_digits b 16 left two (omega (arith, group_fits b high, wide))

pub group_fewer : (b left : ℕ) → 2 ≤ b → 0 < left → left / b ^ 16 < left
group_fewer b left two some = div-lt_self {n = left} {k = b ^ 16} some (omega (arith, pow-le-pow_left two 16))

-- one more digit of a group is written
more_in_group : (b q left at : ℕ) (upper : Bool) (buf : List ℕ) → 2 ≤ b → 0 < q → at < length buf
    → map (digit_glyph upper) (digits_of b (q * b ^ at + left / b)) ++ drop at (slice_set buf at (digit_glyph upper (left % b))) ≡ map (digit_glyph upper) (digits_of b (q * b ^ suc at + left)) ++ drop (suc at) buf
more_in_group b q left at upper buf two some inside =
    let all = q * b ^ suc at + left in
    let base : 0 < b = omega (arith, two) in
    let split : left + q * b ^ at * b ≡ all = omega (arith, mul_assoc q (b ^ at) b, ap (λ p. q * p) (pow-suc b at)) in
    let quotient : q * b ^ at + left / b ≡ all / b = omega (arith, add-mul-div_right left (q * b ^ at) base, ap (λ n. n / b) split) in
    let last : left % b ≡ all % b = sym (add-mul-mod_self_right left (q * b ^ at) b) ∙ ap (λ n. n % b) split in
    let positive : 0 < all = omega (arith, at_least q (b ^ suc at) some, power_some b (suc at) two) in
    let next : at + 1 ≡ suc at = omega arith in
    ap (λ n. map (digit_glyph upper) (digits_of b n) ++ drop at (slice_set buf at (digit_glyph upper (left % b)))) quotient
    ∙ ap (λ d. map (digit_glyph upper) (digits_of b (all / b)) ++ drop at (slice_set buf at (digit_glyph upper d))) last
    ∙ one_written b all at upper buf two positive inside
    ∙ ap (λ k. map (digit_glyph upper) (digits_of b all) ++ drop k buf) next

pub next_in_group : (b q left at : ℕ) (upper : Bool) (buf : List ℕ) → 2 ≤ b → 0 < q → 0 < at → at ≤ length buf
    → map (digit_glyph upper) (digits_of b (q * b ^ (at - 1) + left / b)) ++ drop (at - 1) (slice_set buf (at - 1) (digit_glyph upper (left % b))) ≡ map (digit_glyph upper) (digits_of b (q * b ^ at + left)) ++ drop at buf
next_in_group b q left at upper buf two some before inside =
    let back : suc (at - 1) ≡ at = omega (arith, before) in
    more_in_group b q left (at - 1) upper buf two some (omega (arith, before, inside)) ∙ ap (λ k. map (digit_glyph upper) (digits_of b (q * b ^ k + left)) ++ drop k buf) back

-- if no digit of the group is left, the whole group is written
pub whole_group : (b q left at : ℕ) (upper : Bool) (buf : List ℕ) → at ≡ 0 → left < b ^ at
    → map (digit_glyph upper) (digits_of b (q * b ^ at + left)) ++ drop at buf ≡ map (digit_glyph upper) (digits_of b q) ++ buf
whole_group b q left at upper buf none small =
    let done : left < b ^ 0 = subst (λ k. left < b ^ k) none small in
    let rest : q * b ^ 0 + left ≡ q = ap (λ p. q * p + left) (pow-zero b) ∙ omega (arith, done, pow-zero b) in
    ap (λ k. map (digit_glyph upper) (digits_of b (q * b ^ k + left)) ++ drop k buf) none ∙ ap (λ n. map (digit_glyph upper) (digits_of b n) ++ buf) rest

pub less_left : (b k left : ℕ) → 2 ≤ b → left < b ^ suc k → left / b < b ^ k
less_left b k left two small = (div-lt_iff_lt-mul {k = b} {x = left} {y = b ^ k} (omega (arith, two))).1 (omega (arith, small, pow-suc b k))

-- one group of a number is written
pub next_group : (b n end left at : ℕ) (upper : Bool) (buf written group : List ℕ) → 2 ≤ b → b ≤ 16 → 2 ^ 64 ≤ left → 16 ≤ at → at ≤ length written → length group ≡ 16
    → ((q : ℕ) → 0 < q → map (digit_glyph upper) (digits_of b (q * b ^ 16 + left % b ^ 16)) ≡ map (digit_glyph upper) (digits_of b q) ++ group)
    → IsLeft b upper n end left at buf written → IsLeft b upper n end (left / b ^ 16) (at - 16) buf (put_mid (at - 16) (at - 16 + 16 - (at - 16)) written group)
next_group b n end left at upper buf written group two high wide enough inside long is l =
    let glyphs = map (digit_glyph upper) in
    let front = left / b ^ 16 in
    let some : 0 < front = le-div 1 left (b ^ 16) (power_some b 16 two) (omega (arith, group_fits b high, wide)) in
    let split : glyphs (digits_of b left) ≡ glyphs (digits_of b front) ++ group = ap (λ k. glyphs (digits_of b k)) (sym (div-add-mod' left (b ^ 16))) ∙ is front some in
    record {
      whole = ap (λ xs. glyphs (digits_of b front) ++ xs) (from_group 16 at written group enough inside)
          ∙ sym (append_assoc (glyphs (digits_of b front)) group (drop at written)) ∙ ap (λ xs. xs ++ drop at written) (sym split) ∙ l.whole;
      room = omega (arith, l.room, enough, long, ap length split, length-append (glyphs (digits_of b front)) group, length_map (digit_glyph upper) (digits_of b left), length_map (digit_glyph upper) (digits_of b front));
      before = omega (arith, l.before);
    }

-- the tables have the byte of each digit
abbrev are_glyphs : ℕ → Bool
are_glyphs zero = true
are_glyphs (suc d) = (eqb (get_or LOWER d 0) (digit_glyph false d) && eqb (get_or UPPER d 0) (digit_glyph true d)) && are_glyphs d

glyphs_below : (n d : ℕ) → T (are_glyphs n) → d < n → (get_or LOWER d 0 ≡ digit_glyph false d) × (get_or UPPER d 0 ≡ digit_glyph true d)
glyphs_below zero d t h = absurd (omega arith)
glyphs_below (suc n) d t h =
    elim (eq-zero-or-pos (n - d)) [
      | inl z ↦ let e : d ≡ n = omega arith in let both = and_l _ (are_glyphs n) t in rw e (eqb→eq _ _ (and_l _ _ both), eqb→eq _ _ (and_r _ _ both))
      | inr g ↦ glyphs_below n d (and_r _ (are_glyphs n) t) (omega arith)
    ]

pub glyphs : (d : ℕ) → d < 16 → (get_or LOWER d 0 ≡ digit_glyph false d) × (get_or UPPER d 0 ≡ digit_glyph true d)
glyphs d h = glyphs_below 16 d tt h

not_zero : (n : ℕ) → 0 < n → (n == 0) ≡ false
not_zero n some = ne_eqb n 0 (λ none. omega (arith, none, some))

-- ---- the bytes are ASCII

glyph_ascii : (upper : Bool) (d : ℕ) → d < 16 → digit_glyph upper d < 128
glyph_ascii true d small = grind arith
glyph_ascii false d small = grind arith

glyphs_ascii : (b : ℕ) (upper : Bool) (ds : List ℕ) → b ≤ 16 → AllBelowBase b ds → IsAscii (map (digit_glyph upper) ds)
glyphs_ascii b upper [] high all = IsAscii-nil
glyphs_ascii b upper (d ∷ ds) high all = IsAscii-cons _ _ (glyph_ascii upper d (omega (arith, all.0))) (glyphs_ascii b upper ds high all.1)

either_ascii : (none : Bool) (xs : List ℕ) → IsAscii xs → IsAscii (cond none (48 ∷ []) xs)
either_ascii true xs h = IsAscii-cons 48 [] (lit< tt) IsAscii-nil
either_ascii false xs h = h

pub numeral_ascii : (b : ℕ) (upper : Bool) (n : ℕ) → 2 ≤ b → b ≤ 16 → IsAscii (numeral b upper n)
numeral_ascii b upper n low high = either_ascii (n == 0) _ (glyphs_ascii b upper (digits_of b n) high (all_below_base_digits_of b n low))

-- ---- reading back

value_low : (d : ℕ) → d < 10 → digit_value (48 + d) ≡ d
value_low d low = grind (arith, common_steps)

value_upper : (d : ℕ) → 10 ≤ d → d < 16 → digit_value (55 + d) ≡ d
value_upper d high small = grind (arith, common_steps)

value_lower : (d : ℕ) → 10 ≤ d → d < 16 → digit_value (87 + d) ≡ d
value_lower d high small = grind (arith, common_steps)

glyph_value : (upper : Bool) (d : ℕ) → d < 16 → digit_value (digit_glyph upper d) ≡ d
glyph_value upper d small = by (nat_lt d 10) upper refl
  where
    by : (low upper : Bool) → nat_lt d 10 ≡ low → digit_value (cond low (48 + d) (cond upper (55 + d) (87 + d))) ≡ d
    by true upper e = value_low d (grind (arith, common_steps, e))
    by false true e = value_upper d (grind (arith, common_steps, e)) small
    by false false e = value_lower d (grind (arith, common_steps, e)) small

glyphs_back : (b : ℕ) (upper : Bool) (ds : List ℕ) → b ≤ 16 → AllBelowBase b ds → AllDigits b (map (digit_glyph upper) ds) × (map digit_value (map (digit_glyph upper) ds) ≡ ds)
glyphs_back b upper [] high all = (tt, refl)
glyphs_back b upper (d ∷ ds) high all =
    let same = glyph_value upper d (omega (arith, all.0)) in
    let rest = glyphs_back b upper ds high all.1 in
    ((subst (λ v. v < b) (sym same) all.0, rest.0), ap (λ v. v ∷ map digit_value (map (digit_glyph upper) ds)) same ∙ ap (λ vs. d ∷ vs) rest.1)

-- the digits of n read back as n
pub numeral_back : (b : ℕ) (upper : Bool) (n : ℕ) → 2 ≤ b → b ≤ 16 → IsNumeral b (numeral b upper n) × (digits_sum b (numeral b upper n) ≡ n)
numeral_back b upper n low high = by (n == 0) refl
  where
    glyphs : List ℕ
    glyphs = map (digit_glyph upper) (digits_of b n)

    by : (none : Bool) → (n == 0) ≡ none → IsNumeral b (cond none (48 ∷ []) glyphs) × (digits_sum b (cond none (48 ∷ []) glyphs) ≡ n)
    by true e = ((omega arith, (omega (arith, low), tt)), omega (arith, eqb-true n 0 e))
    by false e =
        let back = glyphs_back b upper (digits_of b n) high (all_below_base_digits_of b n low) in
        let some : 0 < n = grind (arith, common_steps, e) in (
          (omega (arith, some_digits b n low some, length_map (digit_glyph upper) (digits_of b n)), back.0),
          sym (digits_value_sum b glyphs) ∙ digits_value_is b glyphs ∙ ap (number_from_digits b) back.1 ∙ number_digits_of b n low,
        )
