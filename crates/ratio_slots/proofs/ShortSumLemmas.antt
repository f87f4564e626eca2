-- The sum of a table in machine numbers.
use Rattle.std.specs.Prelude.{◌≡◌, ◌≢◌, ◌+◌, ◌*◌, ◌^◌, ◌<◌, ◌≤◌, ◌<ℤ◌, ◌≤ℤ◌, ◌+ℤ◌, ◌*ℤ◌, ℕ, ℤ, pos, negsuc, List, [], ◌∷◌, length, drop, unsigned_abs, Option}
use Rattle.std.proofs.Common.{refl, sym, ap, subst, arith, ◌∙◌, inl, inr}
use Rattle.std.proofs.lemmas.Int.{ints}
use Rattle.std.proofs.lemmas.List.{drop_all}
use Rattle.ratio_integer.specs.Fraction.{IsLowestTermsOf}
use Rattle.ratio_natural.specs.Number.{base}
use Rattle.ratio_slots.proofs.CommonLemmas.{common_begins, common_ends, common_grows, parts_alike}
use Rattle.ratio_slots.proofs.CountLemmas.{rest_at}
use Rattle.ratio_slots.proofs.JoinLemmas.{and_none, none_and, parts_step}
use Rattle.ratio_slots.proofs.LowestSumLemmas.{above_zero_mean, above_zero_positive, divided_same, product_positive, short_moved}
use Rattle.ratio_slots.proofs.MergeSums.{pour_fraction, sum_positive}
use Rattle.ratio_slots.proofs.SumLemmas.{sum_taken}
use Rattle.ratio_slots.specs.Common.{above_zero}
use Rattle.ratio_slots.specs.LowestSum.{ChecksMeanOfSlots, ChecksShortPair, HasLongPair, IsShortPair, mean_of_slots}
use Rattle.ratio_slots.specs.ShortSum.{AddsShort, IsShortMean, IsShortSum}
use Rattle.ratio_slots.specs.Slots.{slot_at}
use Rattle.ratio_slots.specs.Steps.{IsCommonSoFar}
use Rattle.ratio_slots.specs.Sums.{SameSum, pair_sum, sum_of_slots}
use Rattle.ratio_slots.specs.declared.slots.Slot.{Slot}

-- ---- on the way through the table

-- n/d and the sum of the rest have the value of the whole sum
pub record IsShortSoFar (slots rest : List Slot) (n : ℤ) (d : ℕ) : Type 0 where
  pub denom : IsCommonSoFar slots rest d
  pub sum : SameSum (pair_sum (n, d) (sum_of_slots rest)) (sum_of_slots slots)
  pub below : d < 2 ^ 127

pub short_begins : (slots : List Slot) → IsShortSoFar slots slots (pos 0) 1
short_begins slots =
    let all = sum_of_slots slots in
    record {
      denom = common_begins slots 1 refl;
      sum = subst (λ (p : ℤ × ℕ). SameSum p all) (sym (none_and (pos 0) all.0 all.1 refl)) refl;
      below = omega arith;
    }

step_sum : (a n new : ℤ) (c d next : ℕ) → AddsShort a c n d new next → SameSum (pair_sum (a, c) (n, d)) (new, next)
step_sum a n new c d next adds =
    subst (λ (x : ℤ). SameSum (pair_sum (a, c) (n, d)) (x, next)) (sym adds.numer_is)
    (subst (λ (x : ℕ). SameSum (pair_sum (a, c) (n, d)) (a *ℤ pos adds.more +ℤ n *ℤ pos adds.share, x)) (sym adds.denom_is) (parts_step a n c d adds.share adds.more adds.parts))

pub short_steps : (slots : List Slot) (slot : Slot) (rest : List Slot) (n new : ℤ) (d next : ℕ) → slot.denom ≢ 0 → AddsShort n d slot.numer slot.denom new next
    → IsShortSoFar slots (slot ∷ rest) n d → IsShortSoFar slots rest new next
short_steps slots slot rest n new d next taken adds before =
    let h : SameSum (pair_sum (n, d) (pair_sum (slot.numer, slot.denom) (sum_of_slots rest))) (sum_of_slots slots) =
    subst (λ (p : ℤ × ℕ). SameSum (pair_sum (n, d) p) (sum_of_slots slots)) (sum_taken slot rest taken) before.sum in
    record {
      denom = common_grows slots slot rest d adds.share adds.more next taken adds.parts adds.denom_is before.denom;
      sum = pour_fraction (n, d) (new, next) (sum_of_slots rest) (sum_of_slots slots) slot.numer slot.denom taken before.denom.some (sum_positive rest) (step_sum n slot.numer new d slot.denom next adds) h;
      below = adds.below;
    }

-- ---- by index

short_at : (slots : List Slot) (i : ℕ) (n : ℤ) (d : ℕ) → i < length slots → IsShortSoFar slots (drop i slots) n d → IsShortSoFar slots (slot_at slots i ∷ drop (i + 1) slots) n d
short_at slots i n d within before = subst (λ (rest : List Slot). IsShortSoFar slots rest n d) (rest_at slots i within) before

pub steps_at : (slots : List Slot) (i : ℕ) (n numer new : ℤ) (d denom next : ℕ) → denom ≡ (slot_at slots i).denom → numer ≡ (slot_at slots i).numer → denom ≢ 0 → i < length slots
    → AddsShort n d numer denom new next → IsShortSoFar slots (drop i slots) n d → IsShortSoFar slots (drop (i + 1) slots) new next
steps_at slots i n numer new d denom next denom_is numer_is taken within adds before =
    short_steps slots (slot_at slots i) (drop (i + 1) slots) n new d next (λ z. taken (denom_is ∙ z))
    (subst (λ (x : ℤ). AddsShort n d x (slot_at slots i).denom new next) numer_is (subst (λ (x : ℕ). AddsShort n d numer x new next) denom_is adds)) (short_at slots i n d within before)

pub short_ends : (slots : List Slot) (i : ℕ) (n : ℤ) (d : ℕ) → length slots ≤ i → IsShortSoFar slots (drop i slots) n d → IsShortSum slots n d
short_ends slots i n d all before =
    let end : IsShortSoFar slots [] n d = subst (λ (rest : List Slot). IsShortSoFar slots rest n d) (drop_all i slots all) before in
    record {
      common = common_ends slots d end.denom;
      value = subst (λ (p : ℤ × ℕ). SameSum p (sum_of_slots slots)) (and_none n d) end.sum;
      below = end.below;
    }

-- ---- one step

pub added_is : (sum numer scale old part new : ℤ) (more share : ℕ) → old ≡ sum *ℤ pos more → scale ≡ pos share → part ≡ numer *ℤ scale → new ≡ old +ℤ part → new ≡ sum *ℤ pos more +ℤ numer *ℤ pos share
added_is sum numer scale old part new more share e f g h = h ∙ (ap (λ (x : ℤ). x +ℤ part) e ∙ ap (λ (x : ℤ). sum *ℤ pos more +ℤ x) (g ∙ ap (λ (x : ℤ). numer *ℤ x) f))

-- the denominator is the common one already
pub added_over : (sum numer new : ℤ) (common denom : ℕ) → common ≡ denom → denom < base → new ≡ sum +ℤ numer → AddsShort sum common numer denom new common
added_over sum numer new common denom same short new_is = record {
  share = 1;
  more = 1;
  parts = parts_alike common denom same;
  numer_is = omega (arith, ints, new_is);
  denom_is = omega arith;
  below = omega (arith, same, short);
}

-- ---- the lowest terms

module _ (n : ℤ) (d : ℕ) (p q : ℤ) (terms : IsLowestTermsOf n (pos d) p q) where
  size_is : pos (unsigned_abs q) ≡ q
  size_is = size q terms.lowest.positive
    where
      size : (q : ℤ) → pos 0 <ℤ q → pos (unsigned_abs q) ≡ q
      size (pos q) h = refl
      size (negsuc q) h = absurd (omega (arith, ints, h))

  pair_terms : IsLowestTermsOf n (pos d) p (pos (unsigned_abs q))
  pair_terms = subst (λ (x : ℤ). IsLowestTermsOf n (pos d) p x) (sym size_is) terms

  pub short_numbers : unsigned_abs p < base → q <ℤ pos base → IsShortPair (n, d) p (unsigned_abs q)
  short_numbers numer denom = record { terms = pair_terms; numer_short = numer; denom_short = omega (arith, ints, size_is, denom) }

  pub long_numer : base ≤ unsigned_abs p → HasLongPair (n, d)
  long_numer long = record { numer = p; denom = unsigned_abs q; terms = pair_terms; long = inl long }

  pub long_denom : pos base ≤ℤ q → HasLongPair (n, d)
  long_denom long = record { numer = p; denom = unsigned_abs q; terms = pair_terms; long = inr (omega (arith, ints, size_is, long)) }

-- ---- the sum and the mean of a table

pub short_sum_checked : (slots : List Slot) (n : ℤ) (d : ℕ) (r : Option (ℤ × ℕ)) → IsShortSum slots n d → ChecksShortPair (n, d) r → ChecksShortPair (sum_of_slots slots) r
short_sum_checked slots n d r sum checked = short_moved (n, d) (sum_of_slots slots) r (sum_positive slots) sum.value checked

pub short_mean_is : (slots : List Slot) (count n : ℤ) (d m p : ℕ) → IsShortSum slots n d → pos 0 <ℤ count → m ≡ above_zero count → p ≡ d * m → p < 2 ^ 127 → IsShortMean slots count n p
short_mean_is slots count n d m p sum counted m_is p_is below =
    let product : d * above_zero count ≡ p = ap (λ (x : ℕ). d * x) (sym m_is) ∙ sym p_is in
    record {
      counted = counted;
      value = subst (λ (x : ℕ). SameSum (n, x) (mean_of_slots slots count)) product (divided_same (n, d) (sum_of_slots slots) (above_zero count) sum.value);
      some = subst (λ (x : ℕ). 0 < x) product (product_positive d (above_zero count) sum.common.positive (above_zero_positive count counted));
      below = below;
    }

pub short_mean_checked : (slots : List Slot) (count n : ℤ) (d : ℕ) (r : Option (ℤ × ℕ)) → IsShortMean slots count n d → ChecksShortPair (n, d) r → ChecksMeanOfSlots slots count r
short_mean_checked slots count n d r mean checked =
    above_zero_mean base (sum_of_slots slots) count r mean.counted
    (short_moved (n, d) (mean_of_slots slots count) r (product_positive _ _ (sum_positive slots) (above_zero_positive count mean.counted)) mean.value checked)
