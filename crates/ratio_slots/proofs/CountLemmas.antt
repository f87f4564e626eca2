-- What a table holds, how many slots are free, and how many denominators of another table are new.
use Rattle.std.specs.Prelude.{ℤ, ◌≡◌, ◌≢◌, ◌≤◌, ◌<◌, ◌+◌, ◌==◌, ◌⊎◌, Bool, true, false, ℕ, zero, suc, List, [], ◌∷◌, length, slice_set, drop, if◌then◌else◌}
use Rattle.std.proofs.Common.{sym, ap, subst, ◌∙◌, inl, inr, arith, refl}
use Rattle.std.proofs.Common.{add-one, drop-cons}
use Rattle.std.proofs.lemmas.Bool.{cases_eq}
use Rattle.std.proofs.lemmas.Bool.Decides.{nat_tests}
use Rattle.std.proofs.lemmas.List.{get_or-set_other, get_or-set_same, length-set}
use Rattle.ratio_slots.proofs.Places.{denominators_differ, place_unique}
use Rattle.ratio_slots.specs.Merging.{AreApart, free_of, holds, new_of}
use Rattle.ratio_slots.specs.Slots.{HasNoPlaceFor, IsOpenTo, IsPlaceOf, IsTable, empty_slot, slot_at}
use Rattle.ratio_slots.specs.declared.slots.Slot.{Slot}

-- ---- tests

pub bool_equal : (a d : ℕ) (x y : Bool) → a ≡ d → (if a == d then x else y) ≡ x
bool_equal a d x y h = grind (arith, nat_tests)

pub bool_differ : (a d : ℕ) (x y : Bool) → a ≢ d → (if a == d then x else y) ≡ y
bool_differ a d x y h = grind (arith, nat_tests)

nat_equal : (a d x y : ℕ) → a ≡ d → (if a == d then x else y) ≡ x
nat_equal a d x y h = grind (arith, nat_tests)

nat_differ : (a d x y : ℕ) → a ≢ d → (if a == d then x else y) ≡ y
nat_differ a d x y h = grind (arith, nat_tests)

if_true : (b : Bool) (x y : ℕ) → b ≡ true → (if b then x else y) ≡ x
if_true b x y h = subst (λ (t : Bool). (if t then x else y) ≡ x) (sym h) refl

if_false : (b : Bool) (x y : ℕ) → b ≡ false → (if b then x else y) ≡ y
if_false b x y h = subst (λ (t : Bool). (if t then x else y) ≡ y) (sym h) refl

pub bool_cases : (b : Bool) → (b ≡ true) ⊎ (b ≡ false)
bool_cases true = inl refl
bool_cases false = inr refl

-- ---- what a table holds

pub record HoldsAtIndex (d : ℕ) (slots : List Slot) : Type 0 where
  pub index : ℕ
  pub within : index < length slots
  pub is : (slot_at slots index).denom ≡ d

index_of_first : (d : ℕ) (slot : Slot) (rest : List Slot) → slot.denom ≡ d → HoldsAtIndex d (slot ∷ rest)
index_of_first d slot rest e = record { index = 0; within = omega arith; is = e }

index_behind : (d : ℕ) (slot : Slot) (rest : List Slot) → HoldsAtIndex d rest → HoldsAtIndex d (slot ∷ rest)
index_behind d slot rest h = record { index = suc h.index; within = omega (arith, h.within); is = h.is }

pub holds_index : (d : ℕ) (slots : List Slot) → holds d slots ≡ true → HoldsAtIndex d slots
holds_index d [] h = cc
holds_index d (slot ∷ rest) h =
    elim (cases_eq slot.denom d) [
      | inl e ↦ index_of_first d slot rest e
      | inr ne ↦ index_behind d slot rest (holds_index d rest (sym (bool_differ slot.denom d true (holds d rest) ne) ∙ h))
    ]

pub index_holds : (d : ℕ) (slots : List Slot) (k : ℕ) → k < length slots → (slot_at slots k).denom ≡ d → holds d slots ≡ true
index_holds d [] k h e = absurd (omega (arith, h))
index_holds d (slot ∷ rest) zero h e = bool_equal slot.denom d true (holds d rest) e
index_holds d (slot ∷ rest) (suc k) h e =
    elim (cases_eq slot.denom d) [
      | inl is ↦ bool_equal slot.denom d true (holds d rest) is
      | inr ne ↦ bool_differ slot.denom d true (holds d rest) ne ∙ index_holds d rest k (omega (arith, h)) e
    ]

empty_place_held : (slots : List Slot) (d p : ℕ) → IsTable slots → d ≢ 0 → IsPlaceOf slots d p → (slot_at slots p).denom ≡ 0 → HoldsAtIndex d slots → ⊥
empty_place_held slots d p table taken place z h =
    let same : h.index ≡ p = place_unique slots d h.index p
    (subst (λ (x : ℕ). IsPlaceOf slots x h.index) h.is (table.place h.index h.within (λ zero_there. taken (sym h.is ∙ zero_there)))) place in
    taken (sym h.is ∙ ap (λ (x : ℕ). (slot_at slots x).denom) same ∙ z)

-- the place of d is empty, and so no slot holds d
pub empty_place : (slots : List Slot) (d p : ℕ) → IsTable slots → d ≢ 0 → IsPlaceOf slots d p → (slot_at slots p).denom ≡ 0 → holds d slots ≡ false
empty_place slots d p table taken place z =
    elim (bool_cases (holds d slots)) [
      | inl t ↦ absurd (empty_place_held slots d p table taken place z (holds_index d slots t))
      | inr f ↦ f
    ]

pub no_place : (slots : List Slot) (d : ℕ) → HasNoPlaceFor slots d → holds d slots ≡ false
no_place slots d none =
    elim (bool_cases (holds d slots)) [
      | inl t ↦ absurd (let h : HoldsAtIndex d slots = holds_index d slots t in none.all_taken h.index h.within (λ _. h.is))
      | inr f ↦ f
    ]

holds_kept_at : (slots : List Slot) (d p e : ℕ) (s : Slot) → s.denom ≡ d → p < length slots → IsOpenTo d (slot_at slots p) → e ≢ 0
    → HoldsAtIndex e slots → holds e (slice_set slots p s) ≡ true
holds_kept_at slots d p e s is within here taken h =
    elim (cases_eq h.index p) [
      | inl same ↦
          let there : (slot_at slots p).denom ≡ e = ap (λ (x : ℕ). (slot_at slots x).denom) (sym same) ∙ h.is in
          index_holds e (slice_set slots p s) p (rw length-set within)
          (ap (λ (x : Slot). x.denom) (get_or-set_same slots p s empty_slot within) ∙ is ∙ sym (here (λ z. taken (sym there ∙ z))) ∙ there)
      | inr ne ↦ index_holds e (slice_set slots p s) h.index (rw length-set h.within)
          (ap (λ (x : Slot). x.denom) (get_or-set_other slots p h.index s empty_slot ne) ∙ h.is)
    ]

-- a write of d at an open slot keeps what the table holds
pub holds_kept : (slots : List Slot) (d p e : ℕ) (s : Slot) → s.denom ≡ d → p < length slots → IsOpenTo d (slot_at slots p) → e ≢ 0
    → holds e slots ≡ true → holds e (slice_set slots p s) ≡ true
holds_kept slots d p e s is within here taken h = holds_kept_at slots d p e s is within here taken (holds_index e slots h)

-- ---- free slots

pub full_free : (slots : List Slot) → ((k : ℕ) → k < length slots → (slot_at slots k).denom ≢ 0) → free_of slots ≡ 0
full_free [] h = refl
full_free (slot ∷ rest) h =
    nat_differ slot.denom 0 (free_of rest + 1) (free_of rest) (h 0 (omega arith)) ∙ full_free rest (λ k lt. h (suc k) (omega (arith, lt)))

pub free_taken : (slots : List Slot) (p : ℕ) (s : Slot) → p < length slots → (slot_at slots p).denom ≡ 0 → s.denom ≢ 0
    → free_of slots ≡ free_of (slice_set slots p s) + 1
free_taken [] p s h z taken = absurd (omega (arith, h))
free_taken (slot ∷ rest) zero s h z taken =
    nat_equal slot.denom 0 _ _ z ∙ ap (λ (x : ℕ). x + 1) (sym (nat_differ s.denom 0 (free_of rest + 1) (free_of rest) taken))
free_taken (slot ∷ rest) (suc p) s h z taken =
    let ih : free_of rest ≡ free_of (slice_set rest p s) + 1 = free_taken rest p s (omega (arith, h)) z taken in
    elim (cases_eq slot.denom 0) [
      | inl e ↦ nat_equal slot.denom 0 _ _ e ∙ ap (λ (x : ℕ). x + 1) ih ∙ ap (λ (x : ℕ). x + 1) (sym (nat_equal slot.denom 0 (free_of (slice_set rest p s) + 1) (free_of (slice_set rest p s)) e))
      | inr ne ↦ nat_differ slot.denom 0 _ _ ne ∙ ih ∙ ap (λ (x : ℕ). x + 1) (sym (nat_differ slot.denom 0 (free_of (slice_set rest p s) + 1) (free_of (slice_set rest p s)) ne))
    ]

pub free_same : (slots : List Slot) (p : ℕ) (s : Slot) → p < length slots → (slot_at slots p).denom ≢ 0 → s.denom ≢ 0
    → free_of slots ≡ free_of (slice_set slots p s)
free_same [] p s h z taken = refl
free_same (slot ∷ rest) zero s h z taken =
    nat_differ slot.denom 0 _ _ z ∙ sym (nat_differ s.denom 0 (free_of rest + 1) (free_of rest) taken)
free_same (slot ∷ rest) (suc p) s h z taken =
    let ih : free_of rest ≡ free_of (slice_set rest p s) = free_same rest p s (omega (arith, h)) z taken in
    ap (λ (x : ℕ). if slot.denom == 0 then x + 1 else x) ih

-- ---- new denominators

pub new_skip : (slots : List Slot) (slot : Slot) (rest : List Slot) → slot.denom ≡ 0 → new_of slots (slot ∷ rest) ≡ new_of slots rest
new_skip slots slot rest z = nat_equal slot.denom 0 _ _ z

pub new_held : (slots : List Slot) (slot : Slot) (rest : List Slot) → slot.denom ≢ 0 → holds slot.denom slots ≡ true → new_of slots (slot ∷ rest) ≡ new_of slots rest
new_held slots slot rest taken h = nat_differ slot.denom 0 _ _ taken ∙ if_true (holds slot.denom slots) _ _ h

pub new_one : (slots : List Slot) (slot : Slot) (rest : List Slot) → slot.denom ≢ 0 → holds slot.denom slots ≡ false → new_of slots (slot ∷ rest) ≡ new_of slots rest + 1
new_one slots slot rest taken h = nat_differ slot.denom 0 _ _ taken ∙ if_false (holds slot.denom slots) _ _ h

pub new_at_least : (slots : List Slot) (slot : Slot) (rest : List Slot) → new_of slots rest ≤ new_of slots (slot ∷ rest)
new_at_least slots slot rest =
    elim (cases_eq slot.denom 0) [
      | inl z ↦ omega (arith, new_skip slots slot rest z)
      | inr taken ↦ elim (bool_cases (holds slot.denom slots)) [
        | inl t ↦ omega (arith, new_held slots slot rest taken t)
        | inr f ↦ omega (arith, new_one slots slot rest taken f)
      ]
    ]

-- a table that holds more leaves no more that is new
pub new_fewer : (old new rest : List Slot) → ((e : ℕ) → e ≢ 0 → holds e old ≡ true → holds e new ≡ true) → new_of new rest ≤ new_of old rest
new_fewer old new [] more = omega arith
new_fewer old new (slot ∷ rest) more =
    let ih : new_of new rest ≤ new_of old rest = new_fewer old new rest more in
    elim (cases_eq slot.denom 0) [
      | inl z ↦ omega (arith, ih, new_skip old slot rest z, new_skip new slot rest z)
      | inr taken ↦ elim (bool_cases (holds slot.denom old)) [
        | inl t ↦ omega (arith, ih, new_held old slot rest taken t, new_held new slot rest taken (more slot.denom taken t))
        | inr f ↦ elim (bool_cases (holds slot.denom new)) [
          | inl t ↦ omega (arith, ih, new_one old slot rest taken f, new_held new slot rest taken t)
          | inr g ↦ omega (arith, ih, new_one old slot rest taken f, new_one new slot rest taken g)
        ]
      ]
    ]

-- two tables that hold the same of the rest have the same new denominators there
pub new_alike : (a b rest : List Slot) → ((e : ℕ) → e ≢ 0 → holds e rest ≡ true → holds e a ≡ holds e b) → new_of a rest ≡ new_of b rest
new_alike a b [] same = refl
new_alike a b (slot ∷ rest) same =
    let ih : new_of a rest ≡ new_of b rest = new_alike a b rest (λ e ne h. same e ne (held_behind e slot rest h)) in
    elim (cases_eq slot.denom 0) [
      | inl z ↦ new_skip a slot rest z ∙ ih ∙ sym (new_skip b slot rest z)
      | inr taken ↦
          let here : holds slot.denom a ≡ holds slot.denom b = same slot.denom taken (bool_equal slot.denom slot.denom true (holds slot.denom rest) refl) in
          elim (bool_cases (holds slot.denom a)) [
            | inl t ↦ new_held a slot rest taken t ∙ ih ∙ sym (new_held b slot rest taken (sym here ∙ t))
            | inr f ↦ new_one a slot rest taken f ∙ ap (λ (n : ℕ). n + 1) ih ∙ sym (new_one b slot rest taken (sym here ∙ f))
          ]
    ]
  where
    held_behind : (e : ℕ) (first : Slot) (others : List Slot) → holds e others ≡ true → holds e (first ∷ others) ≡ true
    held_behind e first others h =
        elim (cases_eq first.denom e) [
          | inl is ↦ bool_equal first.denom e true (holds e others) is
          | inr ne ↦ bool_differ first.denom e true (holds e others) ne ∙ h
        ]

-- ---- the denominators of a table are apart

first_again : (slot : Slot) (rest : List Slot)
    → ((i j : ℕ) → i < length (slot ∷ rest) → j < length (slot ∷ rest) → (slot_at (slot ∷ rest) i).denom ≢ 0 → (slot_at (slot ∷ rest) i).denom ≡ (slot_at (slot ∷ rest) j).denom → i ≡ j)
    → slot.denom ≢ 0 → HoldsAtIndex slot.denom rest → ⊥
first_again slot rest h taken at =
    let e : 0 ≡ suc at.index = h 0 (suc at.index) (omega arith) (omega (arith, at.within)) taken (sym at.is) in omega (arith, e)

pub apart_by_index : (slots : List Slot) → ((i j : ℕ) → i < length slots → j < length slots → (slot_at slots i).denom ≢ 0 → (slot_at slots i).denom ≡ (slot_at slots j).denom → i ≡ j)
    → AreApart slots
apart_by_index [] h = tt
apart_by_index (slot ∷ rest) h = (
  (λ taken. elim (bool_cases (holds slot.denom rest)) [
    | inl t ↦ absurd (first_again slot rest h taken (holds_index slot.denom rest t))
    | inr f ↦ f
  ]),
  apart_by_index rest (λ i j hi hj taken e. let s : suc i ≡ suc j = h (suc i) (suc j) (omega (arith, hi)) (omega (arith, hj)) taken e in omega (arith, s)),
)

pub table_apart : (slots : List Slot) → IsTable slots → AreApart slots
table_apart slots table = apart_by_index slots (denominators_differ slots table)

-- ---- slot by slot

pub rest_at : (slots : List Slot) (i : ℕ) → i < length slots → drop i slots ≡ slot_at slots i ∷ drop (i + 1) slots
rest_at slots i h = rw (add-one, drop-cons slots i empty_slot)

pub free_cons : (slot : Slot) (rest : List Slot) → free_of (slot ∷ rest) ≡ free_of (slot ∷ []) + free_of rest
free_cons slot rest =
    elim (cases_eq slot.denom 0) [
      | inl z ↦ omega (arith, nat_equal slot.denom 0 (free_of rest + 1) (free_of rest) z, nat_equal slot.denom 0 (0 + 1) 0 z)
      | inr ne ↦ omega (arith, nat_differ slot.denom 0 (free_of rest + 1) (free_of rest) ne, nat_differ slot.denom 0 (0 + 1) 0 ne)
    ]

pub held_place : (slots : List Slot) (d p : ℕ) → IsPlaceOf slots d p → (slot_at slots p).denom ≢ 0 → holds d slots ≡ true
held_place slots d p place full = index_holds d slots p place.within (place.here full)

-- ---- a slot as it was read

pub slot_is : (slot : Slot) (d : ℕ) (n : ℤ) → d ≡ slot.denom → n ≡ slot.numer → record { denom = d; numer = n } ≡ slot
slot_is slot d n denom_is numer_is = rw (denom_is, numer_is) refl
