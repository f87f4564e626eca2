-- The value of all digits of a decimal, cut at the place to which its exponent moves the point.
use Rattle.std.specs.Prelude.{◌≡◌, ◌+◌, ◌-◌, ◌*◌, ◌^◌, ◌<◌, ◌≤◌, ℕ, zero, suc, pos, Bool, true, false, List, ◌++◌, length, Option, Some, None}
use Rattle.std.specs.Str.Parse.{AllDigits, digits_value, digits_value_after}
use Rattle.std.proofs.Common.{refl, sym, ap, subst, arith, inr, ◌∙◌, append_assoc, drop, take, length-append, length-drop}
use Rattle.std.proofs.lemmas.Int.Digits.{digits_value-lt}
use Rattle.std.proofs.lemmas.List.{take-append-drop}
use Rattle.std.proofs.lemmas.Nat.{pow-add}
use Rattle.std.proofs.Math.Nat.{le_of_mul-le-mul_right, mul-le-mul, mul-le-mul_left, mul-le-mul_right, pow-le-pow_right}
use Rattle.ratio_integer.proofs.LowestTerms.{over_one}
use Rattle.ratio_decimal.specs.DecimalCuts.{ChecksPart, ChecksTerms, ChecksZero, IsFine, IsPartTerms, IsWide}
use Rattle.ratio_decimal.specs.DecimalReading.{tens_above, tens_below}
use Rattle.ratio_core.specs.Reading.{digits_sum}
use Rattle.ratio_decimal.specs.declared.reading.terms.Terms.{Terms}
use Rattle.ratio_decimal.proofs.DecimalDigits.{all_split, power_some, sum_split}
use Rattle.ratio_decimal.proofs.DecimalTerms.{fine_behind, fine_more, lowest_of, same_products, terms_more, terms_moved, wide_above, wide_fine, wide_moved}
use Rattle.ratio_core.proofs.LeadingDigits.{append_digits}
use Rattle.ratio_core.proofs.NumberLemmas.{digits_after, digits_value_sum}

-- ---- results for one value

pub checks_moved : (n d m e : ℕ) (r : Option Terms) → 0 < e → m * d ≡ n * e → ChecksTerms n d r → ChecksTerms m e r
checks_moved n d m e None some same wide = wide_moved n d m e some same wide
checks_moved n d m e (Some r) some same terms = terms_moved n d m e r.numer r.denom some same terms

pub part_moved : (n d m e : ℕ) (r : Option Terms) → 0 < e → m * d ≡ n * e → ChecksPart n d r → ChecksTerms m e r
part_moved n d m e None some same fine = wide_moved n d m e some same (wide_fine n d fine)
part_moved n d m e (Some r) some same part = terms_moved n d m e r.numer r.denom some same part.terms

-- ---- the digits

-- the digits, read in two pieces
pub joined : (front back : List ℕ) (first : ℕ) → first ≡ digits_value_after 10 0 front → digits_value_after 10 first back ≡ digits_sum 10 (front ++ back)
joined front back first is =
    digits_after 10 first back ∙ ap (λ x. x * 10 ^ length back + digits_sum 10 back) (is ∙ digits_value_sum 10 front) ∙ sym (sum_split front back)

-- a list of digits, cut at `at`
pub cut_sum : (digits : List ℕ) (at : ℕ) → digits_sum 10 digits ≡ digits_sum 10 (take at digits) * 10 ^ length (drop at digits) + digits_sum 10 (drop at digits)
cut_sum digits at = sym (ap (digits_sum 10) (take-append-drop at digits)) ∙ sum_split (take at digits) (drop at digits)

pub all_cut : (digits : List ℕ) (at : ℕ) → AllDigits 10 digits → AllDigits 10 (take at digits) × AllDigits 10 (drop at digits)
all_cut digits at h = all_split (take at digits) (drop at digits) (subst (AllDigits 10) (sym (take-append-drop at digits)) h)

-- ---- the point is moved to the right, by fewer places than there are digits behind it

-- the number of the digits before the new point
record IsRightCut (whole part : List ℕ) (tens number : ℕ) : Type 0 where
  sum : digits_sum 10 (whole ++ part) ≡ number * 10 ^ length (drop tens part) + digits_sum 10 (drop tens part)
  power : 10 ^ length part ≡ 10 ^ tens * 10 ^ length (drop tens part)

right_cut : (whole part : List ℕ) (tens first : ℕ) → tens < length part → first ≡ digits_value_after 10 0 whole → IsRightCut whole part tens (digits_value_after 10 first (take tens part))
right_cut whole part tens first less is =
    let front = take tens part in
    let back = drop tens part in
    let same : (whole ++ front) ++ back ≡ whole ++ part = append_assoc whole front back ∙ ap (λ xs. whole ++ xs) (take-append-drop tens part) in
    let count : tens + length back ≡ length part = omega (arith, length-drop tens part) in
    record {
      sum = ap (digits_sum 10) (sym same) ∙ sum_split (whole ++ front) back ∙ ap (λ x. x * 10 ^ length back + digits_sum 10 back) (sym (joined whole front first is));
      power = sym (ap (λ k. 10 ^ k) count) ∙ pow-add 10 tens (length back);
    }

-- the whole number does not fit
pub right_first_wide : (whole part : List ℕ) (tens : ℕ) → 2 ^ 128 ≤ digits_value_after 10 0 whole → IsWide (digits_sum 10 (whole ++ part) * 10 ^ tens) (10 ^ length part)
right_first_wide whole part tens wide = wide_above (digits_sum 10 whole) _ (10 ^ length part) (power_some (length part)) less (subst (λ x. 2 ^ 128 ≤ x) (digits_value_sum 10 whole) wide)
  where
    less : digits_sum 10 whole * 10 ^ length part ≤ digits_sum 10 (whole ++ part) * 10 ^ tens
    less =
        let grown : digits_sum 10 (whole ++ part) * 1 ≤ digits_sum 10 (whole ++ part) * 10 ^ tens = mul-le-mul_left (digits_sum 10 (whole ++ part)) (power_some tens) in
        omega (arith, sum_split whole part)

scaled_less : (m number t u s k : ℕ) → m ≡ number * u + s → k ≡ t * u → number * k ≤ m * t
scaled_less m number t u s k sum power = rw (sum, power) (omega arith)

pub right_number_wide : (whole part : List ℕ) (tens first : ℕ) → tens < length part → first ≡ digits_value_after 10 0 whole → 2 ^ 128 ≤ digits_value_after 10 first (take tens part)
    → IsWide (digits_sum 10 (whole ++ part) * 10 ^ tens) (10 ^ length part)
right_number_wide whole part tens first less is wide =
    let cut = right_cut whole part tens first less is in
    wide_above (digits_value_after 10 first (take tens part)) _ (10 ^ length part) (power_some (length part))
    (scaled_less (digits_sum 10 (whole ++ part)) _ (10 ^ tens) (10 ^ length (drop tens part)) (digits_sum 10 (drop tens part)) _ cut.sum cut.power) wide

right_fine_same : (m number t u s k : ℕ) → m ≡ number * u + s → k ≡ t * u → m * t * (1 * (u * 1)) ≡ (number * (u * 1) + (s * 1 + 0)) * k
right_fine_same m number t u s k sum power = rw (sum, power) (omega arith)

pub right_fine : (whole part : List ℕ) (tens first : ℕ) → tens < length part → first ≡ digits_value_after 10 0 whole
    → IsFine (digits_sum 10 (drop tens part) * 1 + 0) (10 ^ length (drop tens part) * 1) → IsWide (digits_sum 10 (whole ++ part) * 10 ^ tens) (10 ^ length part)
right_fine whole part tens first less is fine =
    let cut = right_cut whole part tens first less is in
    let number = digits_value_after 10 first (take tens part) in
    wide_moved _ _ (digits_sum 10 (whole ++ part) * 10 ^ tens) (10 ^ length part) (power_some (length part))
    (right_fine_same (digits_sum 10 (whole ++ part)) number (10 ^ tens) (10 ^ length (drop tens part)) (digits_sum 10 (drop tens part)) (10 ^ length part) cut.sum cut.power)
    (wide_fine _ _ (fine_behind number 1 (digits_sum 10 (drop tens part) * 1 + 0) (10 ^ length (drop tens part) * 1) fine))

right_same : (m number t u s k p q : ℕ) → m ≡ number * u + s → k ≡ t * u → (s * 1 + 0) * q ≡ p * (u * 1) → m * t * q ≡ (number * q + p) * k
right_same m number t u s k p q sum power same =
    let scaled : (s * 1 + 0) * q * t ≡ p * (u * 1) * t = ap (λ x. x * t) same in
    rw (sum, power) (omega arith)

pub right_terms : (whole part : List ℕ) (tens first number p q : ℕ) (r : Option Terms) → tens < length part → first ≡ digits_value_after 10 0 whole → number ≡ digits_value_after 10 first (take tens part)
    → IsPartTerms (digits_sum 10 (drop tens part) * 1 + 0) (10 ^ length (drop tens part) * 1) p q → ChecksTerms (number * q + p) q r → ChecksTerms (digits_sum 10 (whole ++ part) * 10 ^ tens) (10 ^ length part) r
right_terms whole part tens first number p q r less is number-is behind checks =
    let cut = right_cut whole part tens first less is in
    checks_moved (number * q + p) q (digits_sum 10 (whole ++ part) * 10 ^ tens) (10 ^ length part) r (power_some (length part))
    (right_same (digits_sum 10 (whole ++ part)) number (10 ^ tens) (10 ^ length (drop tens part)) (digits_sum 10 (drop tens part)) (10 ^ length part) p q
    (cut.sum ∙ ap (λ x. x * 10 ^ length (drop tens part) + digits_sum 10 (drop tens part)) (sym number-is)) cut.power (same_products _ _ p q behind.terms)) checks

-- ---- by at least as many places

power_cut : (k tens : ℕ) → k ≤ tens → 10 ^ tens ≡ 10 ^ (tens - k) * 10 ^ k
power_cut k tens more = (let count : tens - k + k ≡ tens = omega arith in sym (ap (λ j. 10 ^ j) count)) ∙ pow-add 10 (tens - k) k

pub right_all_wide : (whole part : List ℕ) (tens first : ℕ) → length part ≤ tens → first ≡ digits_value_after 10 0 whole → 2 ^ 128 ≤ digits_value_after 10 first part
    → IsWide (digits_sum 10 (whole ++ part) * 10 ^ tens) (10 ^ length part)
right_all_wide whole part tens first more is wide =
    let m = digits_sum 10 (whole ++ part) in
    wide_above m _ (10 ^ length part) (power_some (length part)) (mul-le-mul_left m (pow-le-pow_right {n = 10} (omega arith) {i = length part} {j = tens} more))
    (subst (λ x. 2 ^ 128 ≤ x) (joined whole part first is) wide)

right_zeros_same : (m z k t : ℕ) → t ≡ z * k → m * z * k ≡ m * t
right_zeros_same m z k t power = rw power (omega arith)

pub right_zeros_wide : (whole part : List ℕ) (tens all : ℕ) → length part ≤ tens → all ≡ digits_sum 10 (whole ++ part) → 2 ^ 128 ≤ all * 10 ^ (tens - length part)
    → IsWide (digits_sum 10 (whole ++ part) * 10 ^ tens) (10 ^ length part)
right_zeros_wide whole part tens all more is wide =
    let same = right_zeros_same (digits_sum 10 (whole ++ part)) (10 ^ (tens - length part)) (10 ^ length part) (10 ^ tens) (power_cut (length part) tens more) in
    wide_above (all * 10 ^ (tens - length part)) _ (10 ^ length part) (power_some (length part)) (rw is (omega (arith, same))) wide

pub right_zeros : (whole part : List ℕ) (tens all numer : ℕ) → length part ≤ tens → all ≡ digits_sum 10 (whole ++ part) → numer ≡ all * 10 ^ (tens - length part)
    → ChecksTerms (digits_sum 10 (whole ++ part) * 10 ^ tens) (10 ^ length part) (Some (record { numer = numer; denom = 1 }))
right_zeros whole part tens all numer more is numer-is =
    let m = digits_sum 10 (whole ++ part) in
    let same = right_zeros_same m (10 ^ (tens - length part)) (10 ^ length part) (10 ^ tens) (power_cut (length part) tens more) in
    let value : numer ≡ m * 10 ^ (tens - length part) = numer-is ∙ ap (λ x. x * 10 ^ (tens - length part)) is in
    rw value (lowest_of (m * 10 ^ tens) (10 ^ length part) (m * 10 ^ (tens - length part)) 1 (power_some (length part)) (omega arith) (omega (arith, same)) (over_one (pos (m * 10 ^ (tens - length part))) (pos 1) refl).only_one)

-- ---- the point is moved to the left

pub product_power_some : (k t : ℕ) → 0 < 10 ^ k * 10 ^ t
product_power_some k t = subst (λ x. 0 < x) (pow-add 10 k t) (power_some (k + t))

left_sum : (w k s : ℕ) → w * (k * 1) + (s * 1 + 0) ≡ w * k + s
left_sum w k s = omega arith

left_power : (k t : ℕ) → t * (k * 1) ≡ k * t
left_power k t = omega arith

-- the digits behind the point are too fine
pub left_behind_fine : (whole part : List ℕ) (tens : ℕ) → IsFine (digits_sum 10 part * 1 + 0) (10 ^ length part * 1) → IsWide (digits_sum 10 (whole ++ part)) (10 ^ length part * 10 ^ tens)
left_behind_fine whole part tens fine =
    let k = 10 ^ length part in
    let sum = left_sum (digits_sum 10 whole) k (digits_sum 10 part) ∙ sym (sum_split whole part) in
    wide_fine _ _ (subst (λ x. IsFine (digits_sum 10 (whole ++ part)) x) (left_power k (10 ^ tens)) (subst (λ x. IsFine x (10 ^ tens * (k * 1))) sum (fine_behind (digits_sum 10 whole) (10 ^ tens) (digits_sum 10 part * 1 + 0) (k * 1) fine)))

-- the whole digits are cut, so that `tens` of them are behind the new point
record IsLeftCut (whole part : List ℕ) (tens at : ℕ) : Type 0 where
  sum : digits_sum 10 (whole ++ part)
      ≡ digits_sum 10 (take at whole) * (10 ^ length part * 10 ^ tens) + (digits_sum 10 (drop at whole) * (10 ^ length part * 1) + (digits_sum 10 part * 1 + 0))
  power : 10 ^ length (drop at whole) ≡ 10 ^ tens

left_spread : (m w r t u k s : ℕ) → w ≡ r * t + u → m ≡ w * k + s → m ≡ r * (k * t) + (u * (k * 1) + (s * 1 + 0))
left_spread m w r t u k s first second = second ∙ rw first (omega arith)

left_cut : (whole part : List ℕ) (tens at : ℕ) → at + tens ≡ length whole → IsLeftCut whole part tens at
left_cut whole part tens at count =
    let back : length (drop at whole) ≡ tens = omega (arith, length-drop at whole) in
    let power : 10 ^ length (drop at whole) ≡ 10 ^ tens = ap (λ k. 10 ^ k) back in
    let first : digits_sum 10 whole ≡ digits_sum 10 (take at whole) * 10 ^ tens + digits_sum 10 (drop at whole) = cut_sum whole at ∙ ap (λ x. digits_sum 10 (take at whole) * x + digits_sum 10 (drop at whole)) power in
    record {
      sum = left_spread (digits_sum 10 (whole ++ part)) (digits_sum 10 whole) (digits_sum 10 (take at whole)) (10 ^ tens) (digits_sum 10 (drop at whole)) (10 ^ length part) (digits_sum 10 part) first (sum_split whole part);
      power = power;
    }

pub left_number_wide : (whole part : List ℕ) (tens at : ℕ) → at + tens ≡ length whole → 2 ^ 128 ≤ digits_value_after 10 0 (take at whole) → IsWide (digits_sum 10 (whole ++ part)) (10 ^ length part * 10 ^ tens)
left_number_wide whole part tens at count wide =
    let cut = left_cut whole part tens at count in
    wide_above (digits_sum 10 (take at whole)) _ (10 ^ length part * 10 ^ tens) (product_power_some (length part) tens) (rw cut.sum (omega arith))
    (subst (λ x. 2 ^ 128 ≤ x) (digits_value_sum 10 (take at whole)) wide)

-- what is behind the new point
left_denom : (whole : List ℕ) (tens at k : ℕ) → 10 ^ length (drop at whole) ≡ 10 ^ tens → 10 ^ length (drop at whole) * (k * 1) ≡ k * 10 ^ tens
left_denom whole tens at k power = rw power (left_power k (10 ^ tens))

one_times : (x : ℕ) → 1 * x ≡ x
one_times x = omega arith

pub left_more_fine : (whole part : List ℕ) (tens at p q : ℕ) → at + tens ≡ length whole → IsPartTerms (digits_sum 10 part * 1 + 0) (10 ^ length part * 1) p q
    → IsFine (digits_sum 10 (drop at whole) * q + p) (10 ^ length (drop at whole) * q) → IsWide (digits_sum 10 (whole ++ part)) (10 ^ length part * 10 ^ tens)
left_more_fine whole part tens at p q count behind fine =
    let k = 10 ^ length part in
    let cut = left_cut whole part tens at count in
    let denom = left_denom whole tens at k cut.power in
    let some : 0 < 10 ^ length (drop at whole) * (k * 1) = subst (λ x. 0 < x) (sym denom) (product_power_some (length part) tens) in
    let n = digits_sum 10 (drop at whole) * (k * 1) + (digits_sum 10 part * 1 + 0) in
    let step : IsFine n (k * 10 ^ tens) = subst (IsFine n) denom (fine_more (digits_sum 10 (drop at whole)) (10 ^ length (drop at whole)) (digits_sum 10 part * 1 + 0) (k * 1) p q some behind fine) in
    wide_fine _ _ (subst (λ x. IsFine x (k * 10 ^ tens)) (sym cut.sum) (subst (IsFine (digits_sum 10 (take at whole) * (k * 10 ^ tens) + n)) (one_times (k * 10 ^ tens)) (fine_behind (digits_sum 10 (take at whole)) 1 n (k * 10 ^ tens) step)))

left_same : (m r d n u v : ℕ) → m ≡ r * d + n → n * v ≡ u * d → m * v ≡ (r * v + u) * d
left_same m r d n u v sum same = rw sum (omega (arith, same))

pub left_terms : (whole part : List ℕ) (tens at number p q u v : ℕ) (r : Option Terms) → at + tens ≡ length whole → number ≡ digits_value_after 10 0 (take at whole)
    → IsPartTerms (digits_sum 10 part * 1 + 0) (10 ^ length part * 1) p q → IsPartTerms (digits_sum 10 (drop at whole) * q + p) (10 ^ length (drop at whole) * q) u v → ChecksTerms (number * v + u) v r
    → ChecksTerms (digits_sum 10 (whole ++ part)) (10 ^ length part * 10 ^ tens) r
left_terms whole part tens at number p q u v r count number-is behind more checks =
    let k = 10 ^ length part in
    let cut = left_cut whole part tens at count in
    let denom = left_denom whole tens at k cut.power in
    let some : 0 < 10 ^ length (drop at whole) * (k * 1) = subst (λ x. 0 < x) (sym denom) (product_power_some (length part) tens) in
    let n = digits_sum 10 (drop at whole) * (k * 1) + (digits_sum 10 part * 1 + 0) in
    let step : IsPartTerms n (k * 10 ^ tens) u v =
    subst (λ x. IsPartTerms n x u v) denom (terms_more (digits_sum 10 (drop at whole)) (10 ^ length (drop at whole)) (digits_sum 10 part * 1 + 0) (k * 1) p q u v some behind more) in
    checks_moved (number * v + u) v (digits_sum 10 (whole ++ part)) (k * 10 ^ tens) r (product_power_some (length part) tens)
    (left_same (digits_sum 10 (whole ++ part)) number (k * 10 ^ tens) n u v (cut.sum ∙ ap (λ x. x * (k * 10 ^ tens) + n) (sym (number-is ∙ digits_value_sum 10 (take at whole)))) (same_products n (k * 10 ^ tens) u v step.terms)) checks

-- by more places than there are whole digits
all_terms : (whole part : List ℕ) (p q u v : ℕ) → IsPartTerms (digits_sum 10 part * 1 + 0) (10 ^ length part * 1) p q → IsPartTerms (digits_sum 10 whole * q + p) (10 ^ length whole * q) u v
    → IsPartTerms (digits_sum 10 (whole ++ part)) (10 ^ length whole * (10 ^ length part * 1)) u v
all_terms whole part p q u v behind more =
    let k = 10 ^ length part in
    let some : 0 < 10 ^ length whole * (k * 1) = (let h = product_power_some (length whole) (length part) in omega arith) in
    subst (λ x. IsPartTerms x (10 ^ length whole * (k * 1)) u v) (left_sum (digits_sum 10 whole) k (digits_sum 10 part) ∙ sym (sum_split whole part))
    (terms_more (digits_sum 10 whole) (10 ^ length whole) (digits_sum 10 part * 1 + 0) (k * 1) p q u v some behind more)

zeros_same : (m l k t z u v : ℕ) → m * v ≡ u * (l * (k * 1)) → t ≡ z * l → m * (z * v) ≡ u * (k * t)
zeros_same m l k t z u v same power =
    let scaled : m * v * z ≡ u * (l * (k * 1)) * z = ap (λ x. x * z) same in
    rw power (omega arith)

pub left_zeros : (whole part : List ℕ) (tens p q u v : ℕ) (r : Option Terms) → length whole ≤ tens → IsPartTerms (digits_sum 10 part * 1 + 0) (10 ^ length part * 1) p q
    → IsPartTerms (digits_sum 10 whole * q + p) (10 ^ length whole * q) u v → ChecksPart u (10 ^ (tens - length whole) * v) r → ChecksTerms (digits_sum 10 (whole ++ part)) (10 ^ length part * 10 ^ tens) r
left_zeros whole part tens p q u v r less behind more checks =
    let k = 10 ^ length part in
    let all = all_terms whole part p q u v behind more in
    part_moved u (10 ^ (tens - length whole) * v) (digits_sum 10 (whole ++ part)) (k * 10 ^ tens) r (product_power_some (length part) tens)
    (zeros_same (digits_sum 10 (whole ++ part)) (10 ^ length whole) k (10 ^ tens) (10 ^ (tens - length whole)) u v (same_products _ _ u v all.terms) (power_cut (length whole) tens less)) checks

left_all_same : (m l k t z : ℕ) → t ≡ z * l → k * t ≡ z * (l * (k * 1))
left_all_same m l k t z power = rw power (omega arith)

pub left_all_fine : (whole part : List ℕ) (tens p q : ℕ) → length whole ≤ tens → IsPartTerms (digits_sum 10 part * 1 + 0) (10 ^ length part * 1) p q
    → IsFine (digits_sum 10 whole * q + p) (10 ^ length whole * q) → IsWide (digits_sum 10 (whole ++ part)) (10 ^ length part * 10 ^ tens)
left_all_fine whole part tens p q less behind fine =
    let k = 10 ^ length part in
    let some : 0 < 10 ^ length whole * (k * 1) = (let h = product_power_some (length whole) (length part) in omega arith) in
    let m = digits_sum 10 (whole ++ part) in
    let step : IsFine m (10 ^ length whole * (k * 1)) = subst (λ x. IsFine x (10 ^ length whole * (k * 1))) (left_sum (digits_sum 10 whole) k (digits_sum 10 part) ∙ sym (sum_split whole part))
    (fine_more (digits_sum 10 whole) (10 ^ length whole) (digits_sum 10 part * 1 + 0) (k * 1) p q some behind fine) in
    let none : 0 * (10 ^ length whole * (k * 1)) + m ≡ m = omega arith in
    wide_fine _ _ (subst (IsFine m) (sym (left_all_same m (10 ^ length whole) k (10 ^ tens) (10 ^ (tens - length whole)) (power_cut (length whole) tens less)))
    (subst (λ x. IsFine x (10 ^ (tens - length whole) * (10 ^ length whole * (k * 1)))) none (fine_behind 0 (10 ^ (tens - length whole)) m (10 ^ length whole * (k * 1)) step)))

-- ---- exponents of 2^128 or more

far_power : (e k : ℕ) → 2 ^ 127 ≤ e → k < 2 ^ 64 → 2 ^ 128 ≤ 10 ^ (e - k)
far_power e k far short = omega (arith, pow-le-pow_right {n = 10} (omega arith) {i = 39} {j = e - k} (omega arith))

pub far_right : (m k e : ℕ) → 2 ^ 127 ≤ e → k < 2 ^ 64 → 0 < m → IsWide (m * 10 ^ e) (10 ^ k * 1)
far_right m k e far short some =
    let less : 1 * 10 ^ e ≤ m * 10 ^ e = mul-le-mul_right (10 ^ e) some in
    let power = power_cut k e (omega arith) in
    wide_above (10 ^ (e - k)) (m * 10 ^ e) (10 ^ k * 1) (let h = power_some k in omega arith) (omega (arith, power)) (far_power e k far short)

pub far_left : (m w k e : ℕ) → 2 ^ 127 ≤ e → w < 2 ^ 64 → 0 < m → m < 10 ^ (w + k) → IsWide (m * 1) (10 ^ k * 10 ^ e)
far_left m w k e far short some small = record { each = λ a b more h. inr (enough a b more h) }
  where
    power : 10 ^ k * 10 ^ e ≡ 10 ^ (e - w) * 10 ^ (w + k)
    power = sym (pow-add 10 k e) ∙ (let count : k + e ≡ e - w + (w + k) = omega arith in ap (λ j. 10 ^ j) count) ∙ pow-add 10 (e - w) (w + k)

    nonzero : (a b : ℕ) → 0 < b → a * (10 ^ k * 10 ^ e) ≡ m * 1 * b → 1 ≤ a
    nonzero zero b more h = absurd (let product : 1 * 1 ≤ m * b = mul-le-mul {n₁ = 1} {m₁ = 1} {n₂ = m} {m₂ = b} some more in omega arith)
    nonzero (suc a) b more h = omega arith

    enough : (a b : ℕ) → 0 < b → a * (10 ^ k * 10 ^ e) ≡ m * 1 * b → 2 ^ 128 ≤ b
    enough a b more h =
        let first : 1 * (10 ^ k * 10 ^ e) ≤ a * (10 ^ k * 10 ^ e) = mul-le-mul_right (10 ^ k * 10 ^ e) (nonzero a b more h) in
        let second : m * b ≤ 10 ^ (w + k) * b = mul-le-mul_right b (omega arith) in
        let turned : 10 ^ (e - w) * 10 ^ (w + k) ≤ b * 10 ^ (w + k) = omega (arith, power) in
        let least : 10 ^ (e - w) ≤ b = le_of_mul-le-mul_right {m = 10 ^ (e - w)} {n = b} {k = 10 ^ (w + k)} turned (power_some (w + k)) in
        omega (arith, far_power e w far short)

pub sum_small : (whole part : List ℕ) → AllDigits 10 whole → AllDigits 10 part → digits_sum 10 (whole ++ part) < 10 ^ (length whole + length part)
sum_small whole part first second =
    subst (λ x. x < 10 ^ (length whole + length part)) (digits_value_sum 10 (whole ++ part))
    (subst (λ k. digits_value 10 (whole ++ part) < 10 ^ k) (length-append whole part) (digits_value-lt 10 (whole ++ part) (append_digits 10 whole part first second)))

far_wide : (whole part : List ℕ) (down : Bool) (e : ℕ) → AllDigits 10 whole → AllDigits 10 part → length whole < 2 ^ 64 → length part < 2 ^ 64 → 2 ^ 128 ≤ e → 0 < digits_sum 10 (whole ++ part)
    → IsWide (digits_sum 10 (whole ++ part) * tens_above down e) (10 ^ length part * tens_below down e)
far_wide whole part false e first second short brief far some = far_right (digits_sum 10 (whole ++ part)) (length part) e (omega arith) brief some
far_wide whole part true e first second short brief far some = far_left (digits_sum 10 (whole ++ part)) (length whole) (length part) e (omega arith) short some (sum_small whole part first second)

scale_some : (k : ℕ) (down : Bool) (e : ℕ) → 0 < 10 ^ k * tens_below down e
scale_some k false e = let h = power_some k in omega arith
scale_some k true e = product_power_some k e

far_zero : (m k : ℕ) (down : Bool) (e p q : ℕ) → m ≡ 0 → p ≡ 0 → q ≡ 1 → ChecksTerms (m * tens_above down e) (10 ^ k * tens_below down e) (Some (record { numer = p; denom = q }))
far_zero m k down e p q none p-is q-is = rw (none, p-is, q-is) (lowest_of (0 * tens_above down e) (10 ^ k * tens_below down e) 0 1 (scale_some k down e) (omega arith) (omega arith) (over_one (pos 0) (pos 1) refl).only_one)

pub far_checks : (whole part : List ℕ) (down : Bool) (e : ℕ) (r : Option Terms) → AllDigits 10 whole → AllDigits 10 part → length whole < 2 ^ 64 → length part < 2 ^ 64 → 2 ^ 128 ≤ e
    → ChecksZero (digits_sum 10 (whole ++ part)) r → ChecksTerms (digits_sum 10 (whole ++ part) * tens_above down e) (10 ^ length part * tens_below down e) r
far_checks whole part down e None first second short brief far some = far_wide whole part down e first second short brief far some
far_checks whole part down e (Some r) first second short brief far zeros = far_zero (digits_sum 10 (whole ++ part)) (length part) down e r.numer r.denom zeros.0 zeros.1 zeros.2

-- ---- and lower ones

pub down_checks : (m k tens e : ℕ) (down : Bool) (r : Option Terms) → down ≡ true → tens ≡ e → ChecksTerms m (k * 10 ^ tens) r → ChecksTerms (m * tens_above down e) (k * tens_below down e) r
down_checks m k tens e down r is tens-is checks =
    let one : m ≡ m * 1 = omega arith in
    rw (is, ← tens-is) (subst (λ x. ChecksTerms x (k * 10 ^ tens) r) one checks)

pub up_checks : (m k tens e : ℕ) (down : Bool) (r : Option Terms) → down ≡ false → tens ≡ e → ChecksTerms (m * 10 ^ tens) k r → ChecksTerms (m * tens_above down e) (k * tens_below down e) r
up_checks m k tens e down r is tens-is checks =
    let one : k ≡ k * 1 = omega arith in
    rw (is, ← tens-is) (subst (λ x. ChecksTerms (m * 10 ^ tens) x r) one checks)

-- the digits are 0 only if their number is
pub front_some : (whole part : List ℕ) → 0 < digits_value_after 10 0 whole → 0 < digits_sum 10 (whole ++ part)
front_some whole part some =
    let h : 1 * 1 ≤ digits_sum 10 whole * 10 ^ length part = mul-le-mul {n₁ = 1} {m₁ = 1} {n₂ = digits_sum 10 whole} {m₂ = 10 ^ length part} (omega (arith, digits_value_sum 10 whole)) (power_some (length part)) in
    omega (arith, sum_split whole part)
