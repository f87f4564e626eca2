-- The sum of a list of fractions, while its items go into a total one after another.
use Rattle.std.specs.Prelude.{◌≡◌, ◌≢◌, ◌<◌, ◌≤◌, ◌+◌, ℕ, suc, ℤ, false, List, [], ◌∷◌, drop, length, get_or}
use Rattle.std.proofs.Common.{sym, ap, subst, arith, inl, inr, add-one, drop-cons, ◌∙◌}
use Rattle.std.proofs.lemmas.List.{drop_all}
use Rattle.ratio_slots.proofs.CountLemmas.{HoldsAtIndex, bool_cases, holds_index}
use Rattle.ratio_slots.proofs.ReadLemmas.{all_free}
use Rattle.ratio_slots.specs.Merging.{free_of, holds}
use Rattle.ratio_slots.specs.Slots.{IsTable}
use Rattle.ratio_slots.specs.Sums.{Puts}
use Rattle.ratio_slots.specs.Totals.{HasNoFraction, IsRefusedFor}
use Rattle.ratio_slots.specs.declared.tally.Refusal.{Refusal}
use Rattle.ratio_slots.specs.declared.tally.Refusal.TheVariants.{MoreRoom, TooMany}
use Rattle.ratio_slots.specs.declared.slots.Slot.{Slot}
use Rattle.ratio_totals.specs.Items.{AreRefusedFor, denominators_of}
use Rattle.ratio_totals.proofs.DenominatorLemmas.{all_new, held_in, item_put, new_items, none_left}
use Rattle.ratio_slots.proofs.MergeSums.{pour_fraction}
use Rattle.ratio_slots.proofs.LowestSumLemmas.{product_positive}
use Rattle.ratio_slots.specs.Sums.{SameSum, pair_sum}
use Rattle.num_rational.specs.declared.reduced.Reduced.{Reduced}
use Rattle.num_rational.specs.Ratio.{denominator}
use Rattle.num_rational.specs.Reduced.{ratio_of}
use Rattle.ratio_totals.specs.Values.{pair_of, sum_of_items}
use Rattle.ratio_totals.proofs.ProductLemmas.{size_positive}
use Rattle.ratio_totals.proofs.PairLemmas.{ends}

module _ {A : Type 0} (view : A → ℤ × ℕ) (some : (x : A) → 0 < (view x).1) where
  pub item_first : (xs : List A) (k : ℕ) (x : A) → k < length xs → x ≡ get_or xs k x → drop k xs ≡ x ∷ drop (k + 1) xs
  item_first xs k x within is = drop-cons xs k x within ∙ ap (λ (y : A). y ∷ drop (suc k) xs) (sym is) ∙ ap (λ (j : ℕ). x ∷ drop j xs) (sym (add-one k))

  pub items_positive : (xs : List A) → 0 < (sum_of_items view xs).1
  items_positive [] = omega arith
  items_positive (x ∷ xs) = product_positive _ _ (some x) (items_positive xs)

  -- after one more item, the total and the items that are left still have the sum of all
  pub one_more : (xs : List A) (k : ℕ) (x : A) (old new all : ℤ × ℕ) → k < length xs → x ≡ get_or xs k x → 0 < old.1
      → SameSum (pair_sum old (view x)) new → SameSum (pair_sum old (sum_of_items view (drop k xs))) all → SameSum (pair_sum new (sum_of_items view (drop (k + 1) xs))) all
  one_more xs k x old new all within is positive step same =
      pour_fraction old new (sum_of_items view (drop (k + 1) xs)) all (view x).0 (view x).1 (λ z. omega (arith, some x, z)) positive (items_positive (drop (k + 1) xs)) step
      (subst (λ (ys : List A). SameSum (pair_sum old (sum_of_items view ys)) all) (item_first xs k x within is) same)

-- when no item is left, the total has the sum of all
pub all_came : {A : Type 0} (view : A → ℤ × ℕ) (xs : List A) (k : ℕ) (value all : ℤ × ℕ) → length xs ≤ k → SameSum (pair_sum value (sum_of_items view (drop k xs))) all → SameSum all value
all_came view xs k value all past same = ends value all (subst (λ ys. SameSum (pair_sum value (sum_of_items view ys)) all) (drop_all k xs past) same)

-- the denominator of a fraction is positive
pub pair_positive : {T : _} {i : _} {o : _} {e : _} {p : _} {h : _} (x : Reduced T i o e p h) → 0 < (pair_of x).1
pair_positive x = size_positive (denominator (ratio_of x)) x.lowest.positive

-- ---- the slots that are free, and the denominators to come

pub none_held : (slots : List Slot) → HasNoFraction slots → (e : ℕ) → e ≢ 0 → holds e slots ≡ false
none_held slots none e taken = elim (bool_cases (holds e slots)) [
  | inl t ↦ absurd (let at : HoldsAtIndex e slots = holds_index e slots t in taken (sym at.is ∙ ap (λ (s : Slot). s.denom) (none.each at.index at.within)))
  | inr f ↦ f
]

module _ {A : Type 0} (view : A → ℤ × ℕ) (some : (x : A) → 0 < (view x).1) where
  pub room_at_first : (xs : List A) (slots : List Slot) (room : ℕ) → HasNoFraction slots → length slots ≡ room → free_of slots + denominators_of view xs ≡ room + new_items view some (held_in slots) xs
  room_at_first xs slots room none same = omega (arith, all_free slots none, same, all_new view some (held_in slots) (none_held slots none) xs)

  pub room_after : (xs : List A) (k : ℕ) (x : A) (old new : List Slot) (n : ℤ) (room : ℕ) → k < length xs → x ≡ get_or xs k x → IsTable old → Puts (view x).1 n old new
      → free_of old + denominators_of view xs ≡ room + new_items view some (held_in old) (drop k xs)
      → free_of new + denominators_of view xs ≡ room + new_items view some (held_in new) (drop (k + 1) xs)
  room_after xs k x old new n room within is table puts before =
      omega (arith, before, ap (new_items view some (held_in old)) (item_first view some xs k x within is), item_put view some x (drop (k + 1) xs) old new n table puts)

  pub item_refused : (xs : List A) (k : ℕ) (x : A) (slots : List Slot) (weight room : ℕ) (why : Refusal) → k < length xs → x ≡ get_or xs k x → weight ≡ k
      → free_of slots + denominators_of view xs ≡ room + new_items view some (held_in slots) (drop k xs)
      → IsRefusedFor slots weight (view x).1 why → AreRefusedFor view xs room why
  item_refused xs k x slots weight room MoreRoom within is counted before refused =
      omega (arith, before, ap (new_items view some (held_in slots)) (item_first view some xs k x within is), none_left view some x (drop (k + 1) xs) slots refused)
  item_refused xs k x slots weight room TooMany within is counted before refused = omega (arith, within, counted, refused)
