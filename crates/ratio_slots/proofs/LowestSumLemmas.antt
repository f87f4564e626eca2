-- The lowest terms of the sum of a table.
use Rattle.std.specs.Prelude.{◌≡◌, ◌≢◌, ◌+◌, ◌-◌, ◌*◌, ◌^◌, ◌<◌, ◌≤◌, ◌<ℤ◌, ◌≤ℤ◌, ◌*ℤ◌, ◌⊎◌, true, false, Bool, ℕ, zero, suc, ℤ, pos, negsuc, neg_ℤ, nat_abs, unsigned_abs, List, ◌++◌, length, take, drop, get_or, slice_set, Option, Some, None}
use Rattle.std.specs.Int.{◌∣◌}
use Rattle.std.proofs.Common.{refl, sym, ap, subst, arith, ◌∙◌, inl, inr, length-append}
use Rattle.std.proofs.lemmas.Bool.{cases_order}
use Rattle.std.proofs.lemmas.Int.{ints}
use mir.Facts.{to_z-of_z}
use Rattle.std.proofs.lemmas.List.{length-take-le, take-take, take_all}
use Rattle.std.proofs.Math.Seq.{take-append_seam}
use mir.Syntax.{w64}
use mir.Val.{SFits, of_z, to_z}
use Rattle.ratio_integer.proofs.LowestTerms.{lowest_moved}
use Rattle.ratio_integer.proofs.Whole.{neg-mul, unsigned_abs-neg}
use Rattle.ratio_integer.specs.Fraction.{IsLowestTermsOf, SameValue}
use Rattle.ratio_natural.proofs.LowestTermsLaws.{coprime, long_pair, some_terms}
use Rattle.ratio_natural.proofs.NumberLemmas.{number_more, number_set}
use Rattle.ratio_natural.specs.LowestTerms.{AreLowestTerms, HasLongTerms}
use Rattle.ratio_natural.specs.Number.{base, natural_of}
use Rattle.ratio_slots.proofs.MergeSums.{sum_positive}
use Rattle.ratio_slots.proofs.SumLemmas.{scaled_twice}
use Rattle.ratio_slots.specs.Common.{IsOverCommon, above_zero, whole_number}
use Rattle.ratio_slots.specs.Joined.{pair_left}
use Rattle.ratio_slots.specs.LowestSum.{ChecksMeanBelow, ChecksMeanOfSlots, ChecksPairBelow, ChecksPairMean, ChecksShortPair, HasLongPair, HasPairNotBelow, IsPairBelow, IsShortPair, pair_mean}
use Rattle.ratio_slots.specs.Sums.{SameSum, sum_of_slots}
use Rattle.ratio_slots.specs.declared.reading.OverCommon.{OverCommon}
use Rattle.ratio_slots.specs.declared.slots.Slot.{Slot}

-- ---- a number with a sign

pub magnitude_is : (negative : Bool) (n : ℕ) → unsigned_abs (whole_number negative n) ≡ n
magnitude_is false n = refl
magnitude_is true n = unsigned_abs-neg (pos n)

products : (a b c d : ℕ) → a * b ≡ c * d → pos a *ℤ pos b ≡ pos c *ℤ pos d
products a b c d e = omega (arith, ints, e)

-- n/d and p/q have the same value with each sign
signed_same : (negative : Bool) (n d p q : ℕ) → n * q ≡ p * d → SameValue (whole_number negative n) (pos d) (whole_number negative p) (pos q)
signed_same false n d p q e = products n q p d e
signed_same true n d p q e = neg-mul (pos n) (pos q) ∙ ap neg_ℤ (products n q p d e) ∙ sym (neg-mul (pos p) (pos d))

pub nonzero : (d : ℕ) → 0 < d → pos d ≢ pos 0
nonzero d h e = omega (arith, ints, h, e)

true_false : true ≡ false → ⊥
true_false e = cc

below : (n : ℕ) → (base ≤ n → ⊥) → n < base
below n not_long = elim (cases_order n base) [ inl e ↦ absurd (not_long (omega (arith, e))) | inr (inl l) ↦ l | inr (inr g) ↦ absurd (not_long (omega (arith, g))) ]

-- ---- the terms of two numbers

module _ (negative : Bool) (n d : ℕ) (some : 0 < d) where
  abbrev x : ℤ × ℕ
  x = (whole_number negative n, d)

  crossed : (p q : ℕ) → AreLowestTerms n d p q → n * q ≡ p * d
  crossed p q terms = omega (arith, ap (λ t. t * q) terms.numer, ap (λ t. p * t) terms.denom)

  q_positive : (p q : ℕ) → AreLowestTerms n d p q → 0 < q
  q_positive p zero terms = absurd (omega (arith, terms.denom, some))
  q_positive p (suc q) terms = omega arith

  lowest_pair : (p q : ℕ) → AreLowestTerms n d p q → IsLowestTermsOf (whole_number negative n) (pos d) (whole_number negative p) (pos q)
  lowest_pair p q terms = record {
    fraction = nonzero d some;
    same = signed_same negative n d p q (crossed p q terms);
    lowest = record {
      positive = omega (arith, ints, q_positive p q terms);
      only_one = λ k in_p in_q. coprime n d p q some terms k (subst (λ m. k ∣ m) (magnitude_is negative p) in_p) in_q;
    };
  }

  pub terms_below : (bound p q : ℕ) → AreLowestTerms n d p q → p < bound → q < bound → IsPairBelow bound x (whole_number negative p) q
  terms_below bound p q terms p_short q_short = record {
    terms = lowest_pair p q terms;
    numer_short = subst (λ m. m < bound) (sym (magnitude_is negative p)) p_short;
    denom_short = q_short;
  }

  pub terms_not_below : (bound p q : ℕ) → AreLowestTerms n d p q → (bound ≤ p) ⊎ (bound ≤ q) → HasPairNotBelow bound x
  terms_not_below bound p q terms long = record {
    numer = whole_number negative p;
    denom = q;
    terms = lowest_pair p q terms;
    long = elim long [
      | inl h ↦ inl (subst (λ m. bound ≤ m) (sym (magnitude_is negative p)) h)
      | inr h ↦ inr h
    ];
  }

  pub has_long_pair : HasLongTerms n d → HasLongPair x
  has_long_pair long =
      let found = some_terms n d in
      let p = found.0 in
      let q = found.1 in
      terms_not_below base p q found.2 ((long_pair n d p q some found.2).0 long)

  -- terms that are not long are short
  pub short_pair : (p q : ℕ) → AreLowestTerms n d p q → (HasLongTerms n d → true ≡ false) → IsShortPair x (whole_number negative p) q
  short_pair p q terms not_long =
      let long = (long_pair n d p q some terms).1 in
      terms_below base p q terms (below p (λ h. true_false (not_long (long (inl h))))) (below q (λ h. true_false (not_long (long (inr h)))))

-- ---- the terms of a sum

-- two fractions of the same value have the same terms
pub pair_moved : (bound : ℕ) (x y : ℤ × ℕ) (r : Option (ℤ × ℕ)) → 0 < y.1 → SameSum x y → ChecksPairBelow bound x r → ChecksPairBelow bound y r
pair_moved bound x y None some same long = record {
  numer = long.numer;
  denom = long.denom;
  terms = lowest_moved x.0 (pos x.1) y.0 (pos y.1) _ _ (nonzero _ some) (sym same) long.terms;
  long = long.long;
}
pair_moved bound x y (Some t) some same short = record {
  terms = lowest_moved x.0 (pos x.1) y.0 (pos y.1) _ _ (nonzero _ some) (sym same) short.terms;
  numer_short = short.numer_short;
  denom_short = short.denom_short;
}

pub short_moved : (x y : ℤ × ℕ) (r : Option (ℤ × ℕ)) → 0 < y.1 → SameSum x y → ChecksShortPair x r → ChecksShortPair y r
short_moved = pair_moved base

pub sum_checked : (slots : List Slot) (negative : Bool) (n d : ℕ) (r : Option (ℤ × ℕ)) → IsOverCommon slots negative n d → ChecksShortPair (whole_number negative n, d) r → ChecksShortPair (sum_of_slots slots) r
sum_checked slots negative n d r read checked = short_moved (whole_number negative n, d) (sum_of_slots slots) r (sum_positive slots) read.value checked

-- the two numbers are parts of the room
pub pair_checked : (bound : ℕ) (read : OverCommon) (room first rest : List ℕ) (r : Option (ℤ × ℕ)) → first ≡ take read.numer_digits room → rest ≡ drop read.numer_digits room
    → ChecksPairBelow bound (whole_number read.negative (natural_of first), natural_of (take read.denom_digits rest)) r → ChecksPairBelow bound (pair_left read room) r
pair_checked bound read room first rest r front back checked =
    subst (λ xs. ChecksPairBelow bound (whole_number read.negative (natural_of xs), natural_of (take read.denom_digits (drop read.numer_digits room))) r) front
    (subst (λ xs. ChecksPairBelow bound (whole_number read.negative (natural_of first), natural_of (take read.denom_digits xs)) r) back checked)

pub pair_none : (x : ℤ × ℕ) (r : Option (ℤ × ℕ)) → r ≡ None → HasLongPair x → ChecksShortPair x r
pair_none x r none long = subst (λ (o : Option (ℤ × ℕ)). ChecksShortPair x o) (sym none) long

-- ---- the mean

-- a digit written behind n others
pub carried : (xs ys : List ℕ) (n r : ℕ) → length xs ≡ n → length ys ≡ 1 → natural_of (slice_set (xs ++ ys) n r) ≡ natural_of xs + r * base ^ n
carried xs ys n r long one =
    let all = xs ++ ys in
    let width : length all ≡ n + 1 = omega (arith, length-append xs ys, long, one) in
    let front : take n all ≡ xs = ap (λ i. take i all) (sym long) ∙ take-append_seam xs ys in
    let first : natural_of (take n all) ≡ natural_of xs = ap natural_of front in
    let whole : natural_of (take (n + 1) all) ≡ natural_of all = ap natural_of (take_all (n + 1) all (omega (arith, width))) in
    let more : natural_of (take (n + 1) all) ≡ natural_of (take n all) + base ^ n * get_or all n 0 = number_more all n (omega (arith, width)) in
    let set_is : natural_of (slice_set all n r) + base ^ n * get_or all n 0 ≡ natural_of all + base ^ n * r = number_set all n r (omega (arith, width)) in
    omega (arith, first, whole, more, set_is)

pub above_zero_positive : (count : ℤ) → pos 0 <ℤ count → 0 < above_zero count
above_zero_positive (pos zero) h = absurd (omega (arith, ints, h))
above_zero_positive (pos (suc n)) h = omega arith
above_zero_positive (negsuc n) h = absurd (omega (arith, ints, h))

-- a fraction divided by k
pub divided_same : (x y : ℤ × ℕ) (k : ℕ) → SameSum x y → SameSum (x.0, x.1 * k) (y.0, y.1 * k)
divided_same x y k same = sym (scaled_twice x.0 y.1 k) ∙ ap (λ (t : ℤ). t *ℤ pos k) same ∙ scaled_twice y.0 x.1 k

sign_cases : (count : ℤ) → (count ≤ℤ pos 0) ⊎ (pos 0 <ℤ count)
sign_cases (pos zero) = inl (omega (arith, ints))
sign_cases (pos (suc n)) = inr (omega (arith, ints))
sign_cases (negsuc n) = inl (omega (arith, ints))

pub product_positive : (a b : ℕ) → 0 < a → 0 < b → 0 < a * b
product_positive (suc a) b h k = omega (arith, k)
product_positive zero b h k = absurd (omega (arith, h))

mean_positive : (x : ℤ × ℕ) (count : ℤ) → 0 < x.1 → pos 0 <ℤ count → 0 < (pair_mean x count).1
mean_positive x count some positive = product_positive _ _ some (above_zero_positive count positive)

pub above_zero_mean : (bound : ℕ) (x : ℤ × ℕ) (count : ℤ) (r : Option (ℤ × ℕ)) → pos 0 <ℤ count → ChecksPairBelow bound (pair_mean x count) r → ChecksMeanBelow bound x count r
above_zero_mean bound x count None positive long = inr long
above_zero_mean bound x count (Some t) positive short = (positive, short)

-- two fractions of the same value have the same mean
pub mean_moved : (bound : ℕ) (x y : ℤ × ℕ) (count : ℤ) (r : Option (ℤ × ℕ)) → 0 < y.1 → SameSum x y → ChecksMeanBelow bound x count r → ChecksMeanBelow bound y count r
mean_moved bound x y count None some same (inl none) = inl none
mean_moved bound x y count None some same (inr long) =
    elim (sign_cases count) [
      | inl none ↦ inl none
      | inr positive ↦ inr (pair_moved bound (pair_mean x count) (pair_mean y count) None (mean_positive y count some positive) (divided_same x y (above_zero count) same) long)
    ]
mean_moved bound x y count (Some t) some same short =
    (short.0, pair_moved bound (pair_mean x count) (pair_mean y count) (Some t) (mean_positive y count some short.0) (divided_same x y (above_zero count) same) short.1)

pub mean_checked : (slots : List Slot) (negative : Bool) (n d : ℕ) (count : ℤ) (r : Option (ℤ × ℕ)) → IsOverCommon slots negative n d
    → ChecksPairMean (whole_number negative n, d) count r → ChecksMeanOfSlots slots count r
mean_checked slots negative n d count r read checked = mean_moved base (whole_number negative n, d) (sum_of_slots slots) count r (sum_positive slots) read.value checked

-- all of k + 1 digits but the last one
but_last : (xs : List ℕ) (k : ℕ) → k + 1 ≤ length xs → take (length (take (k + 1) xs) - 1) (take (k + 1) xs) ≡ take k xs
but_last xs k within =
    ap (λ i. take (i - 1) (take (k + 1) xs)) (length-take-le (k + 1) xs within) ∙ ap (λ i. take i (take (k + 1) xs)) (one_less k) ∙ take-take k (k + 1) xs (omega arith)
  where
    one_less : (k : ℕ) → k + 1 - 1 ≡ k
    one_less k = omega arith

-- the two numbers are parts of the room, and the denominator was multiplied by the count
pub room_mean_checked : (bound : ℕ) (read : OverCommon) (room first rest times : List ℕ) (m : ℕ) (count : ℤ) (r : Option (ℤ × ℕ)) → pos 0 <ℤ count → m ≡ above_zero count
    → first ≡ take read.numer_digits room → rest ≡ drop read.numer_digits room → read.denom_digits + 1 ≤ length rest
    → natural_of times ≡ natural_of (take (length (take (read.denom_digits + 1) rest) - 1) (take (read.denom_digits + 1) rest)) * m
    → ChecksPairBelow bound (whole_number read.negative (natural_of first), natural_of times) r → ChecksMeanBelow bound (pair_left read room) count r
room_mean_checked bound read room first rest times m count r positive is_count front back within product checked =
    let n = read.numer_digits in
    let k = read.denom_digits in
    let denom : natural_of times ≡ natural_of (take k (drop n room)) * above_zero count =
    product ∙ ap (λ xs. natural_of xs * m) (but_last rest k within ∙ ap (take k) back) ∙ ap (λ i. natural_of (take k (drop n room)) * i) is_count in
    above_zero_mean bound (pair_left read room) count r positive (
    subst (λ xs. ChecksPairBelow bound (whole_number read.negative (natural_of xs), natural_of (take k (drop n room)) * above_zero count) r) front
    (subst (λ d. ChecksPairBelow bound (whole_number read.negative (natural_of first), d) r) denom checked))

pub count_cast : (count : ℤ) → SFits w64 count → pos 0 <ℤ count → nat_abs (to_z w64 (of_z w64 count)) ≡ above_zero count
count_cast count fits positive = ap nat_abs (to_z-of_z fits) ∙ magnitude count positive
  where
    magnitude : (n : ℤ) → pos 0 <ℤ n → nat_abs n ≡ above_zero n
    magnitude (pos n) h = refl
    magnitude (negsuc n) h = absurd (omega (arith, ints, h))
