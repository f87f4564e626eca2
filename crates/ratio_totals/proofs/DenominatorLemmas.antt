-- How many denominators of a list are new to a table, while its items go in one after another.
use Rattle.std.specs.Prelude.{◌≡◌, ◌≢◌, ◌<◌, ◌+◌, ◌==◌, ℕ, ℤ, Bool, true, false, List, [], ◌∷◌, if◌then◌else◌, length, slice_set}
use Rattle.std.proofs.Common.{refl, sym, ap, subst, arith, inl, inr, ◌∙◌}
use Rattle.std.proofs.lemmas.Bool.{cases_eq}
use Rattle.std.proofs.lemmas.List.{get_or-set_other, get_or-set_same, length-set}
use Rattle.ratio_slots.proofs.CountLemmas.{HoldsAtIndex, bool_cases, bool_differ, bool_equal, empty_place, free_same, free_taken, full_free, held_place, holds_index, holds_kept, index_holds, no_place}
use Rattle.ratio_slots.specs.Merging.{free_of, holds}
use Rattle.ratio_slots.specs.Slots.{HasNoPlaceFor, IsPlaceOf, IsTable, empty_slot, slot_at}
use Rattle.ratio_slots.specs.Sums.{Puts, grown}
use Rattle.ratio_slots.specs.declared.slots.Slot.{Slot}
use Rattle.ratio_totals.specs.Items.{denominators_of, has_denominator}

if_true : (b : Bool) (x y : ℕ) → b ≡ true → (if b then x else y) ≡ x
if_true b x y h = subst (λ (t : Bool). (if t then x else y) ≡ x) (sym h) refl

if_false : (b : Bool) (x y : ℕ) → b ≡ false → (if b then x else y) ≡ y
if_false b x y h = subst (λ (t : Bool). (if t then x else y) ≡ y) (sym h) refl

-- 1 for true
abbrev one_if : Bool → ℕ
one_if true = 1
one_if false = 0

one_true : (b : Bool) → b ≡ true → one_if b ≡ 1
one_true b h = ap one_if h

one_false : (b : Bool) → b ≡ false → one_if b ≡ 0
one_false b h = ap one_if h

-- ---- the denominators of a list that are not held

module _ {A : Type 0} (view : A → ℤ × ℕ) (some : (x : A) → 0 < (view x).1) where
  -- how many different denominators the items have that are not held
  abbrev pub new_items : (ℕ → Bool) → List A → ℕ
  new_items held [] = 0
  new_items held (x ∷ xs) = if held (view x).1 then new_items held xs else (if has_denominator view (view x).1 xs then new_items held xs else new_items held xs + 1)

  skipped : (held : ℕ → Bool) (x : A) (xs : List A) → held (view x).1 ≡ true → new_items held (x ∷ xs) ≡ new_items held xs
  skipped held x xs h = if_true (held (view x).1) _ _ h

  repeated : (held : ℕ → Bool) (x : A) (xs : List A) → held (view x).1 ≡ false → has_denominator view (view x).1 xs ≡ true → new_items held (x ∷ xs) ≡ new_items held xs
  repeated held x xs h more = if_false (held (view x).1) _ _ h ∙ if_true (has_denominator view (view x).1 xs) _ _ more

  counted : (held : ℕ → Bool) (x : A) (xs : List A) → held (view x).1 ≡ false → has_denominator view (view x).1 xs ≡ false → new_items held (x ∷ xs) ≡ new_items held xs + 1
  counted held x xs h last = if_false (held (view x).1) _ _ h ∙ if_false (has_denominator view (view x).1 xs) _ _ last

  nonzero : (x : A) → (view x).1 ≢ 0
  nonzero x z = omega (arith, some x, z)

  -- nothing is held: each denominator counts
  pub all_new : (held : ℕ → Bool) → ((e : ℕ) → e ≢ 0 → held e ≡ false) → (xs : List A) → new_items held xs ≡ denominators_of view xs
  all_new held none [] = refl
  all_new held none (x ∷ xs) =
      let ih = all_new held none xs in
      elim (bool_cases (has_denominator view (view x).1 xs)) [
        | inl more ↦ repeated held x xs (none _ (nonzero x)) more ∙ ih ∙ sym (if_true (has_denominator view (view x).1 xs) _ _ more)
        | inr last ↦ counted held x xs (none _ (nonzero x)) last ∙ ap (λ (n : ℕ). n + 1) ih ∙ sym (if_false (has_denominator view (view x).1 xs) _ _ last)
      ]

  module _ (old new : ℕ → Bool) (d : ℕ) (now : new d ≡ true) (others : (e : ℕ) → e ≢ 0 → e ≢ d → new e ≡ old e) where
    -- d was held before: nothing changed
    pub same_new : old d ≡ true → (xs : List A) → new_items old xs ≡ new_items new xs
    same_new before [] = refl
    same_new before (x ∷ xs) =
        let ih : new_items old xs ≡ new_items new xs = same_new before xs in
        let alike : new (view x).1 ≡ old (view x).1 = elim (cases_eq (view x).1 d) [
          | inl e ↦ ap new e ∙ now ∙ sym before ∙ ap old (sym e)
          | inr ne ↦ others (view x).1 (nonzero x) ne
        ] in
        elim (bool_cases (old (view x).1)) [
          | inl t ↦ skipped old x xs t ∙ ih ∙ sym (skipped new x xs (alike ∙ t))
          | inr f ↦ elim (bool_cases (has_denominator view (view x).1 xs)) [
            | inl more ↦ repeated old x xs f more ∙ ih ∙ sym (repeated new x xs (alike ∙ f) more)
            | inr last ↦ counted old x xs f last ∙ ap (λ (n : ℕ). n + 1) ih ∙ sym (counted new x xs (alike ∙ f) last)
          ]
        ]

    -- d was new: it counts once less, if it is in the list
    pub one_less : old d ≡ false → (xs : List A) → new_items old xs ≡ new_items new xs + one_if (has_denominator view d xs)
    one_less before [] = refl
    one_less before (x ∷ xs) =
        let ih : new_items old xs ≡ new_items new xs + one_if (has_denominator view d xs) = one_less before xs in
        elim (cases_eq (view x).1 d) [
          | inl e ↦
              let here : one_if (has_denominator view d (x ∷ xs)) ≡ 1 = one_true _ (bool_equal (view x).1 d true (has_denominator view d xs) e) in
              let gone : new_items new (x ∷ xs) ≡ new_items new xs = skipped new x xs (ap new e ∙ now) in
              let was : old (view x).1 ≡ false = ap old e ∙ before in
              elim (bool_cases (has_denominator view d xs)) [
                | inl more ↦ omega (arith, ih, here, gone, one_true _ more, repeated old x xs was (ap (λ (n : ℕ). has_denominator view n xs) e ∙ more))
                | inr last ↦ omega (arith, ih, here, gone, one_false _ last, counted old x xs was (ap (λ (n : ℕ). has_denominator view n xs) e ∙ last))
              ]
          | inr ne ↦
              let there : one_if (has_denominator view d (x ∷ xs)) ≡ one_if (has_denominator view d xs) = ap one_if (bool_differ (view x).1 d true (has_denominator view d xs) ne) in
              let alike : new (view x).1 ≡ old (view x).1 = others (view x).1 (nonzero x) ne in
              elim (bool_cases (old (view x).1)) [
                | inl t ↦ omega (arith, ih, there, skipped old x xs t, skipped new x xs (alike ∙ t))
                | inr f ↦ elim (bool_cases (has_denominator view (view x).1 xs)) [
                  | inl more ↦ omega (arith, ih, there, repeated old x xs f more, repeated new x xs (alike ∙ f) more)
                  | inr last ↦ omega (arith, ih, there, counted old x xs f last, counted new x xs (alike ∙ f) last)
                ]
              ]
        ]

-- ---- one item goes into its slot

-- whether the table holds each denominator
abbrev pub held_in : List Slot → ℕ → Bool
held_in slots e = holds e slots

module _ (old : List Slot) (d p : ℕ) (n : ℤ) (table : IsTable old) (some : d ≢ 0) (place : IsPlaceOf old d p) where
  abbrev after : List Slot
  after = slice_set old p (grown d n (slot_at old p))

  held_now : holds d after ≡ true
  held_now =
      index_holds d after p (rw length-set place.within)
      (ap (λ (x : Slot). x.denom) (get_or-set_same old p (grown d n (slot_at old p)) empty_slot place.within))

  was_held : (e : ℕ) → e ≢ d → HoldsAtIndex e after → HoldsAtIndex e old
  was_held e other at = elim (cases_eq at.index p) [
    | inl same ↦ absurd (other (sym at.is ∙ ap (λ (k : ℕ). (slot_at after k).denom) same ∙ ap (λ (x : Slot). x.denom) (get_or-set_same old p (grown d n (slot_at old p)) empty_slot place.within)))
    | inr ne ↦ record {
      index = at.index;
      within = let h : at.index < length after = at.within in rw length-set at h;
      is = sym (ap (λ (x : Slot). x.denom) (get_or-set_other old p at.index (grown d n (slot_at old p)) empty_slot ne)) ∙ at.is;
    }
  ]

  held_others : (e : ℕ) → e ≢ 0 → e ≢ d → holds e after ≡ holds e old
  held_others e taken other = elim (bool_cases (holds e old)) [
    | inl t ↦ holds_kept old d p e (grown d n (slot_at old p)) refl place.within place.here taken t ∙ sym t
    | inr f ↦ elim (bool_cases (holds e after)) [
      | inl now ↦ absurd (let back : HoldsAtIndex e old = was_held e other (holds_index e after now) in let t : holds e old ≡ true = index_holds e old back.index back.within back.is in cc)
      | inr none ↦ none ∙ sym f
    ]
  ]

  module _ {A : Type 0} (view : A → ℤ × ℕ) (positive : (x : A) → 0 < (view x).1) (x : A) (xs : List A) (is : (view x).1 ≡ d) where
    new_place : (slot_at old p).denom ≡ 0 → free_of old + new_items view positive (held_in after) xs ≡ free_of after + new_items view positive (held_in old) (x ∷ xs)
    new_place z =
        let before : holds d old ≡ false = empty_place old d p table some place z in
        let free : free_of old ≡ free_of after + 1 = free_taken old p (grown d n (slot_at old p)) place.within z some in
        let less = one_less view positive (held_in old) (held_in after) d held_now held_others before xs in
        let was : holds (view x).1 old ≡ false = ap (held_in old) is ∙ before in
        elim (bool_cases (has_denominator view d xs)) [
          | inl more ↦ omega (arith, free, less, one_true _ more, repeated view positive (held_in old) x xs was (ap (λ (k : ℕ). has_denominator view k xs) is ∙ more))
          | inr last ↦ omega (arith, free, less, one_false _ last, counted view positive (held_in old) x xs was (ap (λ (k : ℕ). has_denominator view k xs) is ∙ last))
        ]

    old_place : (slot_at old p).denom ≢ 0 → free_of old + new_items view positive (held_in after) xs ≡ free_of after + new_items view positive (held_in old) (x ∷ xs)
    old_place full =
        let before : holds d old ≡ true = held_place old d p place full in
        omega (
          arith,
          free_same old p (grown d n (slot_at old p)) place.within full some,
          same_new view positive (held_in old) (held_in after) d held_now held_others before xs,
          skipped view positive (held_in old) x xs (ap (held_in old) is ∙ before),
        )

    -- the free slots and the new denominators change together
    pub item_in : free_of old + new_items view positive (held_in after) xs ≡ free_of after + new_items view positive (held_in old) (x ∷ xs)
    item_in = elim (cases_eq (slot_at old p).denom 0) [ inl z ↦ new_place z | inr full ↦ old_place full ]

-- a call that puts something over d: the table holds d, and what it held
pub put_holds : (d : ℕ) (n : ℤ) (old new : List Slot) → d ≢ 0 → IsTable old → Puts d n old new → (e : ℕ) → e ≢ 0 → holds e new ≡ (if d == e then true else holds e old)
put_holds d n old new some table puts e taken = elim (cases_eq d e) [
  | inl is ↦
      let here : holds d new ≡ true = rw puts.written (held_now old d puts.index n table some puts.place) in
      subst (λ (k : ℕ). holds k new ≡ true) is here ∙ sym (bool_equal d e true (holds e old) is)
  | inr other ↦
      let kept : holds e new ≡ holds e old = rw puts.written (held_others old d puts.index n table some puts.place e taken (λ is. other (sym is))) in
      kept ∙ sym (bool_differ d e true (holds e old) other)
]

-- the same for a call that puts an item
pub item_put : {A : Type 0} (view : A → ℤ × ℕ) (positive : (x : A) → 0 < (view x).1) (x : A) (xs : List A) (old new : List Slot) (n : ℤ) → IsTable old → Puts (view x).1 n old new
    → free_of old + new_items view positive (held_in new) xs ≡ free_of new + new_items view positive (held_in old) (x ∷ xs)
item_put view positive x xs old new n table puts =
    rw puts.written (item_in old (view x).1 puts.index n table (λ z. omega (arith, positive x, z)) puts.place view positive x xs refl)

-- if no slot is left for an item, its denominator is new, and no slot is free
pub none_left : {A : Type 0} (view : A → ℤ × ℕ) (positive : (x : A) → 0 < (view x).1) (x : A) (xs : List A) (slots : List Slot) → HasNoPlaceFor slots (view x).1
    → free_of slots < new_items view positive (held_in slots) (x ∷ xs)
none_left view positive x xs slots none =
    let full : free_of slots ≡ 0 = full_free slots (λ k within z. none.all_taken k within (λ taken. absurd (taken z))) in
    let new : holds (view x).1 slots ≡ false = no_place slots (view x).1 none in
    elim (bool_cases (has_denominator view (view x).1 xs)) [
      | inl more ↦ omega (arith, full, seen view positive (held_in slots) (view x).1 new xs more, repeated view positive (held_in slots) x xs new more)
      | inr last ↦ omega (arith, full, counted view positive (held_in slots) x xs new last)
    ]
  where
    -- a denominator of the list that is not held counts
    seen : {A : Type 0} (view : A → ℤ × ℕ) (positive : (x : A) → 0 < (view x).1) (held : ℕ → Bool) (d : ℕ) → held d ≡ false → (xs : List A) → has_denominator view d xs ≡ true → 0 < new_items view positive held xs
    seen view positive held d new [] in_list = cc
    seen view positive held d new (y ∷ ys) in_list = elim (bool_cases (has_denominator view (view y).1 ys)) [
      | inl more ↦ elim (bool_cases (held (view y).1)) [
        | inl t ↦ elim (cases_eq (view y).1 d) [
          | inl e ↦ absurd (let f : held (view y).1 ≡ false = ap held e ∙ new in cc)
          | inr ne ↦ omega (arith, skipped view positive held y ys t, seen view positive held d new ys (sym (bool_differ (view y).1 d true (has_denominator view d ys) ne) ∙ in_list))
        ]
        | inr f ↦ omega (arith, repeated view positive held y ys f more, seen view positive held (view y).1 f ys more)
      ]
      | inr last ↦ elim (bool_cases (held (view y).1)) [
        | inl t ↦ elim (cases_eq (view y).1 d) [
          | inl e ↦ absurd (let f : held (view y).1 ≡ false = ap held e ∙ new in cc)
          | inr ne ↦ omega (arith, skipped view positive held y ys t, seen view positive held d new ys (sym (bool_differ (view y).1 d true (has_denominator view d ys) ne) ∙ in_list))
        ]
        | inr f ↦ omega (arith, counted view positive held y ys f last)
      ]
    ]
