-- The sum of a table depends on its numerators alone: over a multiple m of each denominator, it is the sum over e = 1, .., m of
-- the numerator over e times m/e.
use Rattle.std.specs.Prelude.{◌≡◌, ◌≢◌, ◌*◌, ◌/◌, ◌<◌, ◌≤◌, ◌⊎◌, ◌+ℤ◌, ◌*ℤ◌, ◌<ℤ◌, ◌≤ℤ◌, ℕ, zero, suc, ℤ, pos, negsuc, unsigned_abs, List, [], ◌∷◌, Option, Some, None}
use Rattle.std.specs.Int.{◌∣◌}
use Rattle.std.proofs.Common.{refl, sym, ap, subst, arith, ◌∙◌, inl, inr}
use Rattle.std.proofs.Math.Nat.{div-mul_cancel, dvd-mul_left, dvd-mul_right, dvd_trans, le_of_dvd}
use Rattle.std.proofs.lemmas.Bool.{cases_eq}
use Rattle.std.proofs.lemmas.Int.{ints}
use lib.IntN.{zero-*ℤ}
use Rattle.ratio_integer.proofs.LowestTerms.{lowest_unique, same_value_chained}
use Rattle.ratio_integer.proofs.Whole.{add-mul}
use Rattle.ratio_slots.proofs.CommonLemmas.{common_exists}
use Rattle.ratio_natural.specs.Number.{base}
use Rattle.ratio_slots.proofs.LowestSumLemmas.{divided_same, nonzero, product_positive, short_moved}
use Rattle.ratio_slots.proofs.MergeSums.{equal_sums, sum_positive}
use Rattle.ratio_slots.proofs.ReadLemmas.{first_alone, over_itself, over_other, second_alone}
use Rattle.ratio_slots.proofs.SumLemmas.{scaled_alike, scaled_twice, sum_empty, sum_scaled, sum_taken, with_slot}
use Rattle.ratio_slots.specs.Common.{IsMultipleOfEach}
use Rattle.ratio_slots.specs.LowestSum.{ChecksMeanOfSlots, ChecksPairBelow, ChecksShortPair, HasPairNotBelow, IsPairBelow, MeanResultsAgree, SumResultsAgree, SumsAgree, mean_of_slots}
use Rattle.ratio_slots.specs.Sums.{numerator_at, numerator_over, sum_of_slots}
use Rattle.ratio_slots.specs.TotalLaws.{SameNumerators}
use Rattle.ratio_slots.specs.declared.slots.Slot.{Slot}

both_none : (a b : ℤ) → a ≡ pos 0 → b ≡ pos 0 → a +ℤ b ≡ pos 0
both_none a b e f = omega (arith, ints, e, f)

two_sums : (x y a b c d : ℤ) → x ≡ a +ℤ b → y ≡ c +ℤ d → x +ℤ y ≡ (a +ℤ c) +ℤ (b +ℤ d)
two_sums x y a b c d e f = omega (arith, ints, e, f)

none_times : (a : ℤ) (k : ℕ) → a ≡ pos 0 → a *ℤ pos k ≡ pos 0
none_times a k e = ap (λ (t : ℤ). t *ℤ pos k) e ∙ zero-*ℤ (pos k)

-- ---- the sum over a multiple m, up to the denominator n

sum_to : ℕ → ℕ → List Slot → ℤ
sum_to m zero slots = pos 0
sum_to m (suc k) slots = sum_to m k slots +ℤ numerator_at (suc k) slots *ℤ pos (m / suc k)

-- the part of one fraction
part_to : ℕ → ℕ → ℕ → ℤ → ℤ
part_to m zero d v = pos 0
part_to m (suc k) d v = part_to m k d v +ℤ numerator_over (suc k) d v *ℤ pos (m / suc k)

sums_to_agree : (m n : ℕ) (left right : List Slot) → SameNumerators left right → sum_to m n left ≡ sum_to m n right
unfolding sum_to
sums_to_agree m zero left right same = refl
sums_to_agree m (suc k) left right same =
    equal_sums _ _ _ _ (sums_to_agree m k left right same) (ap (λ (t : ℤ). t *ℤ pos (m / suc k)) (same.each (suc k) (omega arith)))

sum_to_none : (m n : ℕ) → sum_to m n [] ≡ pos 0
unfolding sum_to
sum_to_none m zero = refl
sum_to_none m (suc k) = both_none _ _ (sum_to_none m k) (none_times _ (m / suc k) refl)

sum_to_more : (m n : ℕ) (slot : Slot) (rest : List Slot) → sum_to m n (slot ∷ rest) ≡ part_to m n slot.denom slot.numer +ℤ sum_to m n rest
unfolding sum_to part_to
sum_to_more m zero slot rest = omega (arith, ints)
sum_to_more m (suc k) slot rest =
    let factor = pos (m / suc k) in
    two_sums _ _ (part_to m k slot.denom slot.numer) (sum_to m k rest) (numerator_over (suc k) slot.denom slot.numer *ℤ factor) (numerator_at (suc k) rest *ℤ factor) (sum_to_more m k slot rest) (add-mul (numerator_over (suc k) slot.denom slot.numer) (numerator_at (suc k) rest) (pos (m / suc k)))

-- a fraction with a denominator above n has no part
part_above : (m n d : ℕ) (v : ℤ) → (d ≡ 0) ⊎ (n < d) → part_to m n d v ≡ pos 0
unfolding part_to
part_above m zero d v h = refl
part_above m (suc k) d v (inl z) = both_none _ _ (part_above m k d v (inl z)) (none_times _ (m / suc k) (over_other (suc k) d v (λ e. omega (arith, e, z))))
part_above m (suc k) d v (inr h) = both_none _ _ (part_above m k d v (inr (omega (arith, h)))) (none_times _ (m / suc k) (over_other (suc k) d v (λ e. omega (arith, e, h))))

part_is : (m n d : ℕ) (v : ℤ) → 0 < d → d ≤ n → part_to m n d v ≡ v *ℤ pos (m / d)
unfolding part_to
part_is m zero d v some within = absurd (omega (arith, some, within))
part_is m (suc k) d v some within =
    elim (cases_eq d (suc k)) [
      | inl e ↦ second_alone _ _ _ (part_above m k d v (inr (omega (arith, e)))) (ap (λ (t : ℤ). t *ℤ pos (m / suc k)) (over_itself (suc k) d v e) ∙ ap (λ (i : ℕ). v *ℤ pos (m / i)) (sym e))
      | inr ne ↦ first_alone _ _ _ (part_is m k d v some (omega (arith, within, ne))) (none_times _ (m / suc k) (over_other (suc k) d v ne))
    ]

-- ---- the sum has this value over m

-- if a/b has the value of t/m, then (v*b + a*d)/(d*b) has that of (v*s + t)/m, where s*d is m
step_value : (a v t : ℤ) (b d m s : ℕ) → s * d ≡ m → a *ℤ pos m ≡ t *ℤ pos b → (v *ℤ pos b +ℤ a *ℤ pos d) *ℤ pos m ≡ (v *ℤ pos s +ℤ t) *ℤ pos (d * b)
step_value a v t b d m s is h =
    let first : v *ℤ pos (b * m) ≡ (v *ℤ pos s) *ℤ pos (d * b) = scaled_alike v _ _ (omega (arith, ap (λ i. b * i) is)) ∙ sym (scaled_twice v s (d * b)) in
    let second : a *ℤ pos (d * m) ≡ t *ℤ pos (d * b) =
    scaled_alike a _ _ (omega arith) ∙ sym (scaled_twice a m d) ∙ ap (λ (x : ℤ). x *ℤ pos d) h ∙ scaled_twice t b d ∙ scaled_alike t _ _ (omega arith) in
    sum_scaled v a b d m ∙ equal_sums _ _ _ _ first second ∙ sym (add-mul (v *ℤ pos s) t (pos (d * b)))

value_along : (m : ℕ) (p q : ℤ × ℕ) (t u : ℤ) → p ≡ q → t ≡ u → q.0 *ℤ pos m ≡ u *ℤ pos q.1 → p.0 *ℤ pos m ≡ t *ℤ pos p.1
value_along m p q t u e f h = subst (λ (x : ℤ × ℕ). x.0 *ℤ pos m ≡ t *ℤ pos x.1) (sym e) (subst (λ (x : ℤ). q.0 *ℤ pos m ≡ x *ℤ pos q.1) (sym f) h)

some_denom : (d : ℕ) → d ≢ 0 → 0 < d
some_denom d ne = omega (arith, ne)

value_over : (m : ℕ) (slots : List Slot) → 0 < m → IsMultipleOfEach slots m → (sum_of_slots slots).0 *ℤ pos m ≡ sum_to m m slots *ℤ pos (sum_of_slots slots).1
value_over m [] some each = none_times (pos 0) m refl ∙ sym (none_times _ 1 (sum_to_none m m))
value_over m (slot ∷ rest) some each =
    let ih : (sum_of_slots rest).0 *ℤ pos m ≡ sum_to m m rest *ℤ pos (sum_of_slots rest).1 = value_over m rest some each.1 in
    elim (cases_eq slot.denom 0) [
      | inl z ↦ value_along m _ (sum_of_slots rest) _ (sum_to m m rest) (sum_empty slot rest z) (sum_to_more m m slot rest ∙ second_alone _ _ _ (part_above m m slot.denom slot.numer (inl z)) refl) ih
      | inr ne ↦ value_along m _ (with_slot slot.numer slot.denom (sum_of_slots rest)) _ (slot.numer *ℤ pos (m / slot.denom) +ℤ sum_to m m rest) (sum_taken slot rest ne)
          (sum_to_more m m slot rest ∙ ap (λ (t : ℤ). t +ℤ sum_to m m rest) (part_is m m slot.denom slot.numer (some_denom slot.denom ne) (le_of_dvd some (each.0 ne))))
          (step_value (sum_of_slots rest).0 slot.numer (sum_to m m rest) (sum_of_slots rest).1 slot.denom m (m / slot.denom) (div-mul_cancel slot.denom (each.0 ne)) ih)
    ]

-- ---- two tables

multiple_more : (slots : List Slot) (l m : ℕ) → l ∣ m → IsMultipleOfEach slots l → IsMultipleOfEach slots m
multiple_more [] l m into each = tt
multiple_more (slot ∷ rest) l m into each = (λ ne. dvd_trans slot.denom (each.0 ne) into, multiple_more rest l m into each.1)

pub sums_agree : SumsAgree
sums_agree left right same =
    let l = common_exists left in
    let r = common_exists right in
    let m : ℕ = l.0 * r.0 in
    let some : 0 < m = product_positive l.0 r.0 l.1.positive r.1.positive in
    let first = value_over m left some (multiple_more left l.0 m (dvd-mul_right l.0 r.0) l.1.multiple) in
    let second = value_over m right some (multiple_more right r.0 m (dvd-mul_left r.0 l.0) r.1.multiple) in
    same_value_chained _ _ (sum_to m m left) (pos m) _ _ (nonzero m some) first
    (ap (λ (t : ℤ). t *ℤ pos (sum_of_slots right).1) (sums_to_agree m m left right same) ∙ sym second)

-- ---- one result

long_or_short : (bound : ℕ) (x : ℤ × ℕ) (p : ℤ) (q : ℕ) → HasPairNotBelow bound x → IsPairBelow bound x p q → ⊥
long_or_short bound x p q long short =
    let same = lowest_unique x.0 (pos x.1) _ _ _ _ long.terms short.terms in
    elim long.long [
      | inl h ↦ omega (arith, h, short.numer_short, ap unsigned_abs same.0)
      | inr h ↦ omega (arith, ints, h, short.denom_short, same.1)
    ]

pub results_agree : (bound : ℕ) (x : ℤ × ℕ) (r s : Option (ℤ × ℕ)) → ChecksPairBelow bound x r → ChecksPairBelow bound x s → r ≡ s
results_agree bound x None None a b = refl
results_agree bound x None (Some t) a b = absurd (long_or_short bound x t.0 t.1 a b)
results_agree bound x (Some t) None a b = absurd (long_or_short bound x t.0 t.1 b a)
results_agree bound x (Some t) (Some u) a b =
    let same = lowest_unique x.0 (pos x.1) _ _ _ _ a.terms b.terms in
    let denom : t.1 ≡ u.1 = omega (arith, ints, same.1) in
    ap (λ (p : ℤ). Some (p, t.1)) same.0 ∙ ap (λ (q : ℕ). Some (u.0, q)) denom

pub sum_results_agree : SumResultsAgree
sum_results_agree left right r s same a b =
    results_agree base (sum_of_slots right) r s (short_moved (sum_of_slots left) (sum_of_slots right) r (sum_positive right) (sums_agree left right same) a) b

-- ---- one mean

mean_pair : (slots : List Slot) (count : ℤ) (r : Option (ℤ × ℕ)) → pos 0 <ℤ count → ChecksMeanOfSlots slots count r → ChecksShortPair (mean_of_slots slots count) r
mean_pair slots count None positive (inl h) = absurd (omega (arith, ints, positive, h))
mean_pair slots count None positive (inr long) = long
mean_pair slots count (Some t) positive short = short.1

no_mean : (slots : List Slot) (count : ℤ) (r : Option (ℤ × ℕ)) → count ≤ℤ pos 0 → ChecksMeanOfSlots slots count r → r ≡ None
no_mean slots count None below h = refl
no_mean slots count (Some t) below h = absurd (omega (arith, ints, below, h.0))

pub mean_results_agree : MeanResultsAgree
mean_results_agree left right (pos zero) r s same a b = no_mean left (pos zero) r (omega (arith, ints)) a ∙ sym (no_mean right (pos zero) s (omega (arith, ints)) b)
mean_results_agree left right (negsuc n) r s same a b = no_mean left (negsuc n) r (omega (arith, ints)) a ∙ sym (no_mean right (negsuc n) s (omega (arith, ints)) b)
mean_results_agree left right (pos (suc n)) r s same a b =
    let count = pos (suc n) in
    let positive : pos 0 <ℤ count = omega (arith, ints) in
    results_agree base (mean_of_slots right count) r s (
    short_moved (mean_of_slots left count) (mean_of_slots right count) r (product_positive _ (suc n) (sum_positive right) (omega arith))
    (divided_same (sum_of_slots left) (sum_of_slots right) (suc n) (sums_agree left right same)) (mean_pair left count r positive a)) (mean_pair right count s positive b)
