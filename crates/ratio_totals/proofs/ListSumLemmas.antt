-- The sum of a list, in machine numbers and by a total.
use Rattle.std.specs.Prelude.{◌≡◌, ◌≢◌, ◌<◌, ◌≤◌, ◌+◌, ◌*◌, ◌==◌, ℕ, ℤ, pos, Bool, true, false, List, [], ◌∷◌, if◌then◌else◌, Option, length, drop, get_or, min, max}
use Rattle.std.specs.Int.{◌∣◌}
use Rattle.std.proofs.Common.{refl, sym, ap, subst, arith, inl, inr, ◌∙◌}
use Rattle.std.proofs.lemmas.Bool.{cases_eq}
use Rattle.std.proofs.lemmas.Bool.Decides.{nat_tests}
use Rattle.std.proofs.lemmas.List.{drop_all}
use Rattle.ratio_integer.specs.Fraction.{ChecksLowest}
use Rattle.ratio_integer.proofs.LowestTerms.{checks_lowest_moved}
use Rattle.ratio_slots.proofs.CountLemmas.{bool_cases, bool_differ, bool_equal}
use Rattle.ratio_slots.proofs.ShortSumLemmas.{IsShortSoFar, short_begins, short_ends, short_steps}
use Rattle.ratio_slots.proofs.SumLemmas.{sum_taken}
use Rattle.ratio_slots.specs.Common.{HasLongCommon, IsCommonOf, IsMultipleOfEach, most_digits}
use Rattle.ratio_slots.specs.Merging.{free_of, holds, taken_of}
use Rattle.ratio_slots.specs.ShortSum.{AddsShort, IsShortSum}
use Rattle.ratio_slots.specs.Slots.{IsTable}
use Rattle.ratio_slots.specs.Sums.{Puts, SameSum, pair_sum, sum_of_slots}
use Rattle.ratio_slots.specs.declared.slots.Slot.{Slot}
use Rattle.ratio_totals.specs.Items.{HoldsItems, denominators_of, has_denominator}
use Rattle.ratio_totals.specs.ListSums.{digits_for, table_of}
use Rattle.ratio_totals.specs.Values.{sum_of_items}
use Rattle.ratio_totals.proofs.DenominatorLemmas.{held_in, new_items, put_holds}
use Rattle.ratio_totals.proofs.ItemLemmas.{item_first, items_positive}

-- ---- pairs of the same value have the same result

pub result_moved : {R : Type 0} (numer denom : R → ℤ) (lo hi : ℤ) (p q : ℤ × ℕ) (r : Option R) → 0 < p.1 → 0 < q.1 → SameSum q p
    → ChecksLowest numer denom lo hi (p.0, pos p.1) r → ChecksLowest numer denom lo hi (q.0, pos q.1) r
result_moved numer denom lo hi p q r some positive same checks =
    checks_lowest_moved numer denom lo hi p.0 (pos p.1) q.0 (pos q.1) r (above p.1 some) (above q.1 positive) same checks
  where
    above : (d : ℕ) → 0 < d → pos d ≢ pos 0
    above d h e = let z : d ≡ 0 = cc in omega (arith, h, z)

-- ---- the items as a table

module _ {A : Type 0} (view : A → ℤ × ℕ) (some : (x : A) → 0 < (view x).1) where
  nonzero : (x : A) → (view x).1 ≢ 0
  nonzero x z = omega (arith, some x, z)

  pub table_sum : (xs : List A) → sum_of_slots (table_of view xs) ≡ sum_of_items view xs
  table_sum [] = refl
  table_sum (x ∷ xs) = sum_taken (record { denom = (view x).1; numer = (view x).0 }) (table_of view xs) (nonzero x) ∙ ap (λ p. pair_sum (view x) p) (table_sum xs)

  pub quick_begins : (xs : List A) → IsShortSoFar (table_of view xs) (table_of view xs) (pos 0) 1
  quick_begins xs = short_begins (table_of view xs)

  pub quick_steps : (xs : List A) (k : ℕ) (x : A) (p : ℤ × ℕ) (n new : ℤ) (d next : ℕ) → k < length xs → x ≡ get_or xs k x → p ≡ view x → AddsShort n d p.0 p.1 new next
      → IsShortSoFar (table_of view xs) (table_of view (drop k xs)) n d → IsShortSoFar (table_of view xs) (table_of view (drop (k + 1) xs)) new next
  quick_steps xs k x p n new d next within is pair adds before =
      short_steps (table_of view xs) (record { denom = (view x).1; numer = (view x).0 }) (table_of view (drop (k + 1) xs)) n new d next (nonzero x)
      (subst (λ (q : ℤ × ℕ). AddsShort n d q.0 q.1 new next) pair adds)
      (subst (λ (ys : List A). IsShortSoFar (table_of view xs) (table_of view ys) n d) (item_first view some xs k x within is) before)

  pub quick_ends : (xs : List A) (k : ℕ) (n : ℤ) (d : ℕ) → length xs ≤ k → IsShortSoFar (table_of view xs) (table_of view (drop k xs)) n d → IsShortSum (table_of view xs) n d
  quick_ends xs k n d past before =
      let all = table_of view xs in
      let end : IsShortSoFar all [] n d = subst (λ (ys : List A). IsShortSoFar all (table_of view ys) n d) (drop_all k xs past) before in
      let same : length all ≤ length all = omega arith in
      short_ends all (length all) n d same (subst (λ (rest : List Slot). IsShortSoFar all rest n d) (sym (drop_all (length all) all same)) end)

  -- the result for the sum in machine numbers is the result for the items
  pub quick_checked : {R : Type 0} (numer denom : R → ℤ) (lo hi : ℤ) (xs : List A) (n : ℤ) (d : ℕ) (r : Option R) → IsShortSum (table_of view xs) n d
      → ChecksLowest numer denom lo hi (n, pos d) r → ChecksLowest numer denom lo hi ((sum_of_items view xs).0, pos (sum_of_items view xs).1) r
  quick_checked numer denom lo hi xs n d r sum checks =
      result_moved numer denom lo hi (n, d) (sum_of_items view xs) r sum.common.positive (items_positive view some xs)
      (sym (subst (λ (p : ℤ × ℕ). SameSum (n, d) p) (table_sum xs) sum.value)) checks

-- ---- what a total of the items holds

pub holds_table : {A : Type 0} (view : A → ℤ × ℕ) (d : ℕ) (xs : List A) → holds d (table_of view xs) ≡ has_denominator view d xs
holds_table view d [] = refl
holds_table view d (x ∷ xs) = ap (λ (b : Bool). if (view x).1 == d then true else b) (holds_table view d xs)

-- each slot is free or taken
pub free_and_taken : (slots : List Slot) → free_of slots + taken_of slots ≡ length slots
free_and_taken [] = refl
free_and_taken (slot ∷ rest) = elim (cases_eq slot.denom 0) [
  | inl z ↦ omega (arith, free_and_taken rest, empty_first slot rest z)
  | inr taken ↦ omega (arith, free_and_taken rest, taken_first slot rest taken)
]
  where
    empty_first : (slot : Slot) (rest : List Slot) → slot.denom ≡ 0 → (free_of (slot ∷ rest) ≡ free_of rest + 1) × (taken_of (slot ∷ rest) ≡ taken_of rest)
    empty_first slot rest z = (grind (arith, nat_tests), grind (arith, nat_tests))

    taken_first : (slot : Slot) (rest : List Slot) → slot.denom ≢ 0 → (free_of (slot ∷ rest) ≡ free_of rest) × (taken_of (slot ∷ rest) ≡ taken_of rest + 1)
    taken_first slot rest taken = (grind (arith, nat_tests), grind (arith, nat_tests))

-- whether the table holds d, or an item that is still to come has it
abbrev pub held_or_coming : {A : Type 0} → (A → ℤ × ℕ) → ℕ → List Slot → List A → Bool
held_or_coming view d slots rest = if holds d slots then true else has_denominator view d rest

-- on the way, the table and the items to come have the denominators of all
pub record HoldsSoFar {A : Type 0} (view : A → ℤ × ℕ) (items rest : List A) (slots : List Slot) : Type 0 where
  pub each : (d : ℕ) → d ≢ 0 → held_or_coming view d slots rest ≡ has_denominator view d items

if_held : (b x : Bool) → b ≡ true → (if b then true else x) ≡ true
if_held b x h = subst (λ (t : Bool). (if t then true else x) ≡ true) (sym h) refl

if_not : (b x : Bool) → b ≡ false → (if b then true else x) ≡ x
if_not b x h = subst (λ (t : Bool). (if t then true else x) ≡ x) (sym h) refl

pub held_begins : {A : Type 0} (view : A → ℤ × ℕ) (items : List A) (slots : List Slot) → ((d : ℕ) → d ≢ 0 → holds d slots ≡ false) → HoldsSoFar view items items slots
held_begins view items slots none = record { each = λ d ne. if_not (holds d slots) (has_denominator view d items) (none d ne) }

module _ {A : Type 0} (view : A → ℤ × ℕ) (some : (x : A) → 0 < (view x).1) where
  one_held : (x : A) (rest : List A) (old new : List Slot) (n : ℤ) (d : ℕ) → d ≢ 0 → IsTable old → Puts (view x).1 n old new → held_or_coming view d new rest ≡ held_or_coming view d old (x ∷ rest)
  one_held x rest old new n d ne table puts =
      let now : holds d new ≡ (if (view x).1 == d then true else holds d old) = put_holds (view x).1 n old new (λ z. omega (arith, some x, z)) table puts d ne in
      elim (cases_eq (view x).1 d) [
        | inl is ↦
            let coming : has_denominator view d (x ∷ rest) ≡ true = bool_equal (view x).1 d true (has_denominator view d rest) is in
            if_held (holds d new) (has_denominator view d rest) (now ∙ bool_equal (view x).1 d true (holds d old) is)
            ∙ sym (ap (λ (b : Bool). if holds d old then true else b) coming ∙ either (holds d old))
        | inr other ↦
            ap (λ (b : Bool). if b then true else has_denominator view d rest) (now ∙ bool_differ (view x).1 d true (holds d old) other)
            ∙ sym (ap (λ (b : Bool). if holds d old then true else b) (bool_differ (view x).1 d true (has_denominator view d rest) other))
      ]
    where
      either : (b : Bool) → (if b then true else true) ≡ true
      either true = refl
      either false = refl

  pub held_after : (xs : List A) (k : ℕ) (x : A) (old new : List Slot) (n : ℤ) → k < length xs → x ≡ get_or xs k x → IsTable old → Puts (view x).1 n old new
      → HoldsSoFar view xs (drop k xs) old → HoldsSoFar view xs (drop (k + 1) xs) new
  held_after xs k x old new n within is table puts before = record {
    each = λ d ne. one_held x (drop (k + 1) xs) old new n d ne table puts ∙ ap (held_or_coming view d old) (sym (item_first view some xs k x within is)) ∙ before.each d ne;
  }

pub held_ends : {A : Type 0} (view : A → ℤ × ℕ) (xs : List A) (k : ℕ) (slots : List Slot) → length xs ≤ k → HoldsSoFar view xs (drop k xs) slots → HoldsItems view xs slots
held_ends view xs k slots past so_far = record {
  each = λ d ne. sym (or_false (holds d slots)) ∙ ap (held_or_coming view d slots) (sym (drop_all k xs past)) ∙ so_far.each d ne;
}
  where
    or_false : (b : Bool) → (if b then true else false) ≡ b
    or_false true = refl
    or_false false = refl

-- when no item is left, the taken slots are as many as the denominators
pub taken_at_end : {A : Type 0} (view : A → ℤ × ℕ) (some : (x : A) → 0 < (view x).1) (xs : List A) (k : ℕ) (slots : List Slot) (room : ℕ) → length xs ≤ k → length slots ≡ room
    → free_of slots + denominators_of view xs ≡ room + new_items view some (held_in slots) (drop k xs) → taken_of slots ≡ denominators_of view xs
taken_at_end view some xs k slots room past same counted =
    omega (arith, same, free_and_taken slots, counted, ap (new_items view some (held_in slots)) (drop_all k xs past))

-- ---- the common denominator of tables that hold the same denominators

held_multiple : (slots : List Slot) (m d : ℕ) → d ≢ 0 → IsMultipleOfEach slots m → holds d slots ≡ true → d ∣ m
held_multiple [] m d ne h held = cc
held_multiple (slot ∷ rest) m d ne h held = elim (cases_eq slot.denom d) [
  | inl is ↦ subst (λ (e : ℕ). e ∣ m) is (h.0 (λ z. ne (sym is ∙ z)))
  | inr other ↦ held_multiple rest m d ne h.1 (sym (bool_differ slot.denom d true (holds d rest) other) ∙ held)
]

held_behind : (slot : Slot) (rest : List Slot) (d : ℕ) → holds d rest ≡ true → holds d (slot ∷ rest) ≡ true
held_behind slot rest d held = elim (cases_eq slot.denom d) [
  | inl is ↦ bool_equal slot.denom d true (holds d rest) is
  | inr other ↦ bool_differ slot.denom d true (holds d rest) other ∙ held
]

multiple_of_held : (slots : List Slot) (m : ℕ) → ((d : ℕ) → d ≢ 0 → holds d slots ≡ true → d ∣ m) → IsMultipleOfEach slots m
multiple_of_held [] m h = tt
multiple_of_held (slot ∷ rest) m h =
    ((λ ne. h slot.denom ne (bool_equal slot.denom slot.denom true (holds slot.denom rest) refl)), multiple_of_held rest m (λ d ne held. h d ne (held_behind slot rest d held)))

multiple_moved : (left right : List Slot) (m : ℕ) → ((d : ℕ) → d ≢ 0 → holds d left ≡ holds d right) → IsMultipleOfEach left m → IsMultipleOfEach right m
multiple_moved left right m same h = multiple_of_held right m (λ d ne held. held_multiple left m d ne h (same d ne ∙ held))

common_moved : (left right : List Slot) (l : ℕ) → ((d : ℕ) → d ≢ 0 → holds d left ≡ holds d right) → IsCommonOf left l → IsCommonOf right l
common_moved left right l same is = record {
  positive = is.positive;
  multiple = multiple_moved left right l same is.multiple;
  least = λ m h. is.least m (multiple_moved right left m (λ d ne. sym (same d ne)) h);
}

pub long_items : {A : Type 0} (view : A → ℤ × ℕ) (items : List A) (slots : List Slot) (bound : ℕ) → HoldsItems view items slots → HasLongCommon slots bound → HasLongCommon (table_of view items) bound
long_items view items slots bound held long = record {
  common = long.common;
  is = common_moved slots (table_of view items) long.common (λ d ne. held.each d ne ∙ sym (holds_table view d items)) long.is;
  long = long.long;
}

-- ---- the denominators and the items

count_again : (b : Bool) (n : ℕ) → b ≡ true → (if b then n else n + 1) ≡ n
count_again b n h = subst (λ (t : Bool). (if t then n else n + 1) ≡ n) (sym h) refl

count_once : (b : Bool) (n : ℕ) → b ≡ false → (if b then n else n + 1) ≡ n + 1
count_once b n h = subst (λ (t : Bool). (if t then n else n + 1) ≡ n + 1) (sym h) refl

pub few_denominators : {A : Type 0} (view : A → ℤ × ℕ) (xs : List A) → denominators_of view xs ≤ length xs
few_denominators view [] = omega arith
few_denominators view (x ∷ xs) = elim (bool_cases (has_denominator view (view x).1 xs)) [
  | inl more ↦ omega (arith, few_denominators view xs, count_again (has_denominator view (view x).1 xs) (denominators_of view xs) more)
  | inr last ↦ omega (arith, few_denominators view xs, count_once (has_denominator view (view x).1 xs) (denominators_of view xs) last)
]

-- so many slots are enough for the items, and so is the room for them
pub enough_slots : {A : Type 0} (view : A → ℤ × ℕ) (xs : List A) (slots : ℕ) → length xs ≤ slots → slots < denominators_of view xs → ⊥
enough_slots view xs slots enough few = omega (arith, enough, few, few_denominators view xs)

pub enough_room : {A : Type 0} (view : A → ℤ × ℕ) (xs : List A) (slots : ℕ) → length xs ≤ slots → digits_for slots < digits_for (denominators_of view xs) → ⊥
enough_room view xs slots enough few = no_fewer slots (denominators_of view xs) most_digits (omega (arith, enough, few_denominators view xs)) few
  where
    no_fewer : (a b most : ℕ) → b ≤ a → 4 * max 1 (min a most) + 6 < 4 * max 1 (min b most) + 6 → ⊥
    no_fewer a b most at_most less = omega (arith, at_most, less)
