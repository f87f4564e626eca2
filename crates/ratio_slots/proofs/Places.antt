-- Where searches end: the place of a denominator is one, and a write there leaves a table.
use Rattle.std.specs.Prelude.{◌≡◌, ◌≢◌, ◌≤◌, ◌<◌, ◌⊎◌, ℕ, List, length, slice_set}
use Rattle.std.proofs.Common.{sym, ap, subst, ◌∙◌, inl, inr, arith}
use Rattle.std.proofs.lemmas.Bool.{cases_eq, cases_lt, cases_order}
use Rattle.std.proofs.lemmas.List.{get_or-set_other, get_or-set_same, length-set}
use Rattle.ratio_slots.specs.Slots.{ComesBefore, IsOpenTo, IsPlaceOf, IsTable, empty_slot, home_of, slot_at}
use Rattle.ratio_slots.specs.declared.slots.Slot.{Slot}

-- ---- what comes before an index

before_upper : (start k i : ℕ) → start ≤ i → ComesBefore start k i → (start ≤ k) × (k < i)
before_upper start k i h b =
    elim b.order [ inl p ↦ p | inr q ↦ elim q [ inl r ↦ absurd (omega (arith, r)) | inr r ↦ absurd (omega (arith, r)) ] ]

before_lower : (start k i : ℕ) → i < start → ComesBefore start k i → (start ≤ k) ⊎ (k < i)
before_lower start k i h b =
    elim b.order [ inl p ↦ inl p.0 | inr q ↦ elim q [ inl r ↦ inl r.1 | inr r ↦ inr r.1 ] ]

-- ---- open slots

-- an open slot is empty, or it holds d
pub open_cases : (d : ℕ) (slot : Slot) → IsOpenTo d slot → (slot.denom ≡ 0) ⊎ (slot.denom ≡ d)
open_cases d slot h = elim (cases_eq slot.denom 0) [ inl z ↦ inl z | inr full ↦ inr (h full) ]

-- ---- the search finds the place

pub place_upper : (slots : List Slot) (d i start : ℕ) → start ≡ home_of d (length slots) → start ≤ i → i < length slots
    → IsOpenTo d (slot_at slots i)
    → ((k : ℕ) → start ≤ k → k < i → ¬ (IsOpenTo d (slot_at slots k)))
    → IsPlaceOf slots d i
place_upper slots d i start e h within here none = record {
  within = within;
  here = here;
  first = λ k lt b. let p : (start ≤ k) × (k < i) = before_upper start k i h (subst (λ (s : ℕ). ComesBefore s k i) (sym e) b) in none k p.0 p.1;
}

-- the slot where the search begins is open
pub place_first : (slots : List Slot) (d start : ℕ) → start ≡ home_of d (length slots) → start < length slots
    → IsOpenTo d (slot_at slots start)
    → IsPlaceOf slots d start
place_first slots d start e within here = place_upper slots d start start e (omega arith) within here (λ k low high. absurd (omega (arith, low, high)))

pub place_lower : (slots : List Slot) (d i start : ℕ) → start ≡ home_of d (length slots) → i < start → start ≤ length slots
    → IsOpenTo d (slot_at slots i)
    → ((k : ℕ) → start ≤ k → k < length slots → ¬ (IsOpenTo d (slot_at slots k)))
    → ((k : ℕ) → k < i → ¬ (IsOpenTo d (slot_at slots k)))
    → IsPlaceOf slots d i
place_lower slots d i start e h end here upper lower = record {
  within = omega arith;
  here = here;
  first = λ k lt b. elim (before_lower start k i h (subst (λ (s : ℕ). ComesBefore s k i) (sym e) b)) [ inl p ↦ upper k p lt | inr p ↦ lower k p ];
}

-- ---- the place is one

before_either : (start i j : ℕ) → i < j → (ComesBefore start i j) ⊎ (ComesBefore start j i)
before_either start i j h =
    elim (cases_lt i start) [
      | inl p ↦ elim (cases_lt j start) [
        | inl q ↦ inl (record { order = inr (inr (q, h)) })
        | inr q ↦ inr (record { order = inr (inl (p, q)) })
      ]
      | inr p ↦ inl (record { order = inl (p, h) })
    ]

places_apart : (slots : List Slot) (d i j : ℕ) → IsPlaceOf slots d i → IsPlaceOf slots d j → i < j → ⊥
places_apart slots d i j p q h =
    elim (before_either (home_of d (length slots)) i j h) [ inl b ↦ q.first i p.within b p.here | inr b ↦ p.first j q.within b q.here ]

-- the search for a denominator has one end
pub place_unique : (slots : List Slot) (d i j : ℕ) → IsPlaceOf slots d i → IsPlaceOf slots d j → i ≡ j
place_unique slots d i j p q =
    elim (cases_order i j) [
      | inl e ↦ e
      | inr r ↦ elim r [ inl h ↦ absurd (places_apart slots d i j p q h) | inr h ↦ absurd (places_apart slots d j i q p h) ]
    ]

-- no denominator is in a table twice
pub denominators_differ : (slots : List Slot) → IsTable slots → (i j : ℕ) → i < length slots → j < length slots
    → (slot_at slots i).denom ≢ 0 → (slot_at slots i).denom ≡ (slot_at slots j).denom → i ≡ j
denominators_differ slots table i j hi hj taken e =
    place_unique slots (slot_at slots i).denom i j (table.place i hi taken)
    (subst (λ (d : ℕ). IsPlaceOf slots d j) (sym e) (table.place j hj (λ z. taken (e ∙ z))))

-- ---- a write where the search ends leaves a table

not_before_itself : (start i : ℕ) → ComesBefore start i i → ⊥
not_before_itself start i b =
    elim b.order [ inl p ↦ omega (arith, p) | inr q ↦ elim q [ inl r ↦ omega (arith, r) | inr r ↦ omega (arith, r) ] ]

open_along : (d : ℕ) (s t : Slot) → s ≡ t → IsOpenTo d s → IsOpenTo d t
open_along d s t e h = subst (λ (x : Slot). IsOpenTo d x) e h

same_length : (slots : List Slot) (i d k j : ℕ) (s : Slot) → ComesBefore (home_of d (length (slice_set slots i s))) k j → ComesBefore (home_of d (length slots)) k j
same_length slots i d k j s b = subst (λ (n : ℕ). ComesBefore (home_of d n) k j) (length-set slots i s) b

place_written : (slots : List Slot) (d i : ℕ) (s : Slot) → s.denom ≡ d → IsPlaceOf slots d i → IsPlaceOf (slice_set slots i s) d i
place_written slots d i s is p = record {
  within = rw length-set p.within;
  here = open_along d s (slot_at (slice_set slots i s) i) (sym (get_or-set_same slots i s empty_slot p.within)) (λ full. is);
  first = λ k lt b here.
      elim (cases_eq k i) [
        | inl e ↦ not_before_itself (home_of d (length slots)) i (subst (λ (x : ℕ). ComesBefore (home_of d (length slots)) x i) e (same_length slots i d k i s b))
        | inr ne ↦ p.first k (rw length-set at lt) (same_length slots i d k i s b) (open_along d _ _ (get_or-set_other slots i k s empty_slot ne) here)
      ];
}

-- the slot i is open to d, so it is open to e, if it is empty or e is d
open_to_both : (d e : ℕ) (s t : Slot) → d ≢ 0 → t.denom ≡ d → IsOpenTo d s → IsOpenTo e t → IsOpenTo e s
open_to_both d e s t taken is h g full = h full ∙ sym is ∙ g (λ z. taken (sym is ∙ z))

place_kept : (slots : List Slot) (d i e k : ℕ) (s : Slot) → s.denom ≡ d → d ≢ 0 → IsPlaceOf slots d i → k ≢ i → IsPlaceOf slots e k → IsPlaceOf (slice_set slots i s) e k
place_kept slots d i e k s is taken p ne q = record {
  within = rw length-set q.within;
  here = open_along e _ _ (sym (get_or-set_other slots i k s empty_slot ne)) q.here;
  first = λ j lt b here.
      elim (cases_eq j i) [
        | inl z ↦ q.first i p.within (subst (λ (x : ℕ). ComesBefore (home_of e (length slots)) x k) z (same_length slots i e j k s b))
            (open_to_both d e (slot_at slots i) s taken is p.here
            (open_along e _ _ (subst (λ (x : ℕ). slot_at (slice_set slots i s) x ≡ s) (sym z) (get_or-set_same slots i s empty_slot p.within)) here))
        | inr z ↦ q.first j (rw length-set at lt) (same_length slots i e j k s b) (open_along e _ _ (get_or-set_other slots i j s empty_slot z) here)
      ];
}

-- writing d into the slot where the search for d ends leaves a table
pub table_written : (slots : List Slot) (d i : ℕ) (s : Slot) → IsTable slots → s.denom ≡ d → d ≢ 0 → IsPlaceOf slots d i → IsTable (slice_set slots i s)
table_written slots d i s table is taken p = record {
  place = λ k lt full.
      elim (cases_eq k i) [
        | inl e ↦
            let here : slot_at (slice_set slots i s) k ≡ s = subst (λ (x : ℕ). slot_at (slice_set slots i s) x ≡ s) (sym e) (get_or-set_same slots i s empty_slot p.within) in
            subst (λ (x : ℕ). IsPlaceOf (slice_set slots i s) (slot_at (slice_set slots i s) k).denom x) (sym e)
            (subst (λ (x : ℕ). IsPlaceOf (slice_set slots i s) x i) (sym (ap (λ (x : Slot). x.denom) here ∙ is)) (place_written slots d i s is p))
        | inr ne ↦
            let same : slot_at (slice_set slots i s) k ≡ slot_at slots k = get_or-set_other slots i k s empty_slot ne in
            subst (λ (x : Slot). IsPlaceOf (slice_set slots i s) x.denom k) (sym same)
            (place_kept slots d i (slot_at slots k).denom k s is taken p ne
            (table.place k (rw length-set at lt) (subst (λ (x : Slot). x.denom ≢ 0) same full)))
      ];
  empty = λ k lt none.
      elim (cases_eq k i) [
        | inl e ↦
            let here : slot_at (slice_set slots i s) k ≡ s = subst (λ (x : ℕ). slot_at (slice_set slots i s) x ≡ s) (sym e) (get_or-set_same slots i s empty_slot p.within) in
            absurd (taken (sym is ∙ sym (ap (λ (x : Slot). x.denom) here) ∙ none))
        | inr ne ↦
            let same : slot_at (slice_set slots i s) k ≡ slot_at slots k = get_or-set_other slots i k s empty_slot ne in
            ap (λ (x : Slot). x.numer) same ∙ table.empty k (rw length-set at lt) (subst (λ (x : Slot). x.denom ≡ 0) same none)
      ];
}
