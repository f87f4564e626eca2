-- One step of pouring a table into another.
use Rattle.std.specs.Prelude.{◌≡◌, ◌≢◌, ◌≤◌, ◌<◌, ◌+◌, ◌-◌, ◌*◌, ◌^◌, ◌+ℤ◌, true, false, ℕ, suc, ℤ, pos, List, [], ◌∷◌, length, slice_set, drop, unsigned_abs, if◌then◌else◌, Bool}
use Rattle.std.proofs.Common.{sym, subst, ◌∙◌, inl, inr, arith, refl, ap}
use Rattle.std.proofs.lemmas.Bool.{cases_eq}
use Rattle.std.proofs.lemmas.Bool.Decides.{nat_tests}
use Rattle.std.proofs.lemmas.Int.{ints}
use Rattle.ratio_slots.proofs.KeptLemmas.{abs_sum, held_of}
use Rattle.std.proofs.lemmas.List.{length-set, drop_all, get_or-set_other, get_or-set_same}
use Rattle.ratio_slots.proofs.CountLemmas.{HoldsAtIndex, holds_index, bool_differ, bool_equal, empty_place, free_same, free_taken, full_free, holds_kept, held_place, new_alike, new_at_least, new_fewer, new_held, new_one, new_skip, no_place, rest_at, slot_is, table_apart, index_holds}
use Rattle.ratio_slots.proofs.Places.{table_written}
use Rattle.ratio_slots.proofs.MergeSums.{sum_all_came, sum_pours, sum_skips}
use Rattle.ratio_slots.proofs.SumLemmas.{grows_at, sum_grows}
use Rattle.ratio_slots.specs.Merging.{AddsEach, HoldsBoth, one_holds, CanMerge, IsPouring, SumAdds, TakesSlots, free_of, holds, new_of}
use Rattle.ratio_slots.specs.Slots.{HasNoPlaceFor, IsPlaceOf, IsTable, empty_slot, slot_at}
use Rattle.ratio_slots.specs.Sums.{Has128Bits, grown, numerator_at, numerator_over}
use Rattle.ratio_slots.specs.Totals.{IsKept}
use Rattle.ratio_slots.specs.declared.slots.Slot.{Slot}

-- ---- the beginning

more_weight : (w m : ℕ) (a : ℤ) → unsigned_abs a ≤ w * (2 ^ 64 - 1) → unsigned_abs a ≤ (w + m) * (2 ^ 64 - 1)
more_weight w m a h = omega (arith, h)

pub pouring_begins : (slots other : List Slot) (w m : ℕ) (c d : ℤ) → IsKept slots w c → IsKept other m d → CanMerge slots w other m → IsPouring slots other slots other w m
pouring_begins slots other w m c d kept more can = record {
  table = kept.table;
  numerators = λ e ne. refl;
  sum = refl;
  held = λ e ne. refl;
  room = can.room;
  free = refl;
  bounded = λ k. more_weight w m (slot_at slots k).numer (kept.bounded k);
  fresh = λ k h. kept.bounded k;
  apart = table_apart other more.table;
  small = more.bounded;
}

-- ---- what the tables hold

skip_held : (now : List Slot) (slot : Slot) (rest : List Slot) (e : ℕ) → e ≢ 0 → slot.denom ≡ 0 → one_holds e now rest ≡ one_holds e now (slot ∷ rest)
skip_held now slot rest e ne z =
    ap (λ (b : Bool). if holds e now then true else b) (sym (bool_differ slot.denom e true (holds e rest) (λ same. ne (sym same ∙ z))))

either_true : (b : Bool) → (if b then true else true) ≡ true
either_true true = refl
either_true false = refl

first_true : (a b : Bool) → a ≡ true → (if a then true else b) ≡ true
first_true a b h = subst (λ (t : Bool). (if t then true else b) ≡ true) (sym h) refl

same_bool : (a b : Bool) → (a ≡ true → b ≡ true) → (b ≡ true → a ≡ true) → a ≡ b
same_bool true b f g = sym (f refl)
same_bool false true f g = g refl
same_bool false false f g = refl

held_before_at : (now : List Slot) (d p e : ℕ) (s : Slot) → s.denom ≡ d → d ≢ e → p < length now → HoldsAtIndex e (slice_set now p s) → holds e now ≡ true
held_before_at now d p e s is apart within h =
    elim (cases_eq h.index p) [
      | inl same ↦ absurd (apart (sym is ∙ sym (ap (λ (x : Slot). x.denom) (get_or-set_same now p s empty_slot within)) ∙ ap (λ (x : ℕ). (slot_at (slice_set now p s) x).denom) (sym same) ∙ h.is))
      | inr ne ↦ index_holds e now h.index (rw length-set at h.within) (sym (ap (λ (x : Slot). x.denom) (get_or-set_other now p h.index s empty_slot ne)) ∙ h.is)
    ]

step_held : (now : List Slot) (slot : Slot) (rest : List Slot) (n : ℤ) (p e : ℕ) → slot.denom ≢ 0 → e ≢ 0 → IsPlaceOf now slot.denom p
    → one_holds e (slice_set now p (grown slot.denom n (slot_at now p))) rest ≡ one_holds e now (slot ∷ rest)
step_held now slot rest n p e taken ne place =
    let s : Slot = grown slot.denom n (slot_at now p) in
    let written : length (slice_set now p s) ≡ length now = length-set now p s in
    elim (cases_eq slot.denom e) [
      | inl same ↦
          first_true _ _ (index_holds e (slice_set now p s) p (omega (arith, written, place.within)) (ap (λ (x : Slot). x.denom) (get_or-set_same now p s empty_slot place.within) ∙ same))
          ∙ sym (ap (λ (b : Bool). if holds e now then true else b) (bool_equal slot.denom e true (holds e rest) same) ∙ either_true (holds e now))
      | inr apart ↦
          ap (λ (b : Bool). if b then true else holds e rest)
          (same_bool (holds e (slice_set now p s)) (holds e now) (λ h. held_before_at now slot.denom p e s refl apart place.within (holds_index e (slice_set now p s) h))
          (λ h. holds_kept now slot.denom p e s refl place.within place.here ne h))
          ∙ ap (λ (b : Bool). if holds e now then true else b) (sym (bool_differ slot.denom e true (holds e rest) apart))
    ]

end_held : (b : Bool) → b ≡ (if b then true else false)
end_held true = refl
end_held false = refl

-- ---- an empty slot of the other table

skip_over : (e d : ℕ) (n : ℤ) → e ≢ 0 → d ≡ 0 → numerator_over e d n ≡ pos 0
skip_over e d n ne z = grind (arith, nat_tests)

skip_sum : (a b x r : ℤ) → a +ℤ (x +ℤ r) ≡ b → x ≡ pos 0 → a +ℤ r ≡ b
skip_sum a b x r h z = omega (arith, ints, h, z)

rest_holds : (d : ℕ) (slot : Slot) (rest : List Slot) → holds d rest ≡ true → holds d (slot ∷ rest) ≡ true
rest_holds d slot rest h =
    elim (cases_eq slot.denom d) [
      | inl e ↦ bool_equal slot.denom d true (holds d rest) e
      | inr ne ↦ bool_differ slot.denom d true (holds d rest) ne ∙ h
    ]

pub pouring_skips : (start other now : List Slot) (slot : Slot) (rest : List Slot) (w m : ℕ) → IsPouring start other now (slot ∷ rest) w m → slot.denom ≡ 0 → IsPouring start other now rest w m
pouring_skips start other now slot rest w m p z = record {
  table = p.table;
  numerators = λ e ne. skip_sum (numerator_at e now) _ _ (numerator_at e rest) (p.numerators e ne) (skip_over e slot.denom slot.numer ne z);
  sum = sum_skips start other now slot rest z p.sum;
  held = λ e ne. skip_held now slot rest e ne z ∙ p.held e ne;
  room = omega (arith, p.room, new_skip now slot rest z);
  free = omega (arith, p.free, new_skip now slot rest z);
  bounded = p.bounded;
  fresh = λ k h. p.fresh k (rest_holds (slot_at now k).denom slot rest h);
  apart = p.apart.1;
  small = λ k. p.small (suc k);
}

-- ---- a taken slot of the other table

-- there is a place for it
full_refuted : (now : List Slot) (slot : Slot) (rest : List Slot) → slot.denom ≢ 0 → HasNoPlaceFor now slot.denom → new_of now (slot ∷ rest) ≤ free_of now → ⊥
full_refuted now slot rest taken none room = omega (
  arith,
  room,
  new_one now slot rest taken (no_place now slot.denom none),
  full_free now (λ k lt z. none.all_taken k lt (λ full. absurd (full z))),
)

pub pouring_has_place : (start other now : List Slot) (slot : Slot) (rest : List Slot) (w m : ℕ) → IsPouring start other now (slot ∷ rest) w m → slot.denom ≢ 0 → HasNoPlaceFor now slot.denom → ⊥
pouring_has_place start other now slot rest w m p taken none = full_refuted now slot rest taken none p.room

step_sum : (a n x r b : ℤ) → a +ℤ (x +ℤ r) ≡ b → n ≡ a +ℤ x → n +ℤ r ≡ b
step_sum a n x r b h e = omega (arith, ints, h, e)

room_step : (now : List Slot) (slot : Slot) (rest : List Slot) (p : ℕ) (n : ℤ) → IsTable now → slot.denom ≢ 0 → IsPlaceOf now slot.denom p
    → new_of now (slot ∷ rest) ≤ free_of now
    → new_of (slice_set now p (grown slot.denom n (slot_at now p))) rest ≤ free_of (slice_set now p (grown slot.denom n (slot_at now p)))
room_step now slot rest p n table taken place room =
    let s : Slot = grown slot.denom n (slot_at now p) in
    let fewer : new_of (slice_set now p s) rest ≤ new_of now rest = new_fewer now (slice_set now p s) rest (λ e ne h. holds_kept now slot.denom p e s refl place.within place.here ne h) in
    elim (cases_eq (slot_at now p).denom 0) [
      | inl z ↦ omega (arith, fewer, room, new_one now slot rest taken (empty_place now slot.denom p table taken place z), free_taken now p s place.within z taken)
      | inr full ↦ omega (arith, fewer, room, new_at_least now slot rest, free_same now p s place.within full taken)
    ]

held_after : (now : List Slot) (d p e : ℕ) (s : Slot) → s.denom ≡ d → d ≢ e → e ≢ 0 → IsPlaceOf now d p → holds e (slice_set now p s) ≡ holds e now
held_after now d p e s is apart ne place =
    same_bool (holds e (slice_set now p s)) (holds e now) (λ h. held_before_at now d p e s is apart place.within (holds_index e (slice_set now p s) h))
    (λ h. holds_kept now d p e s is place.within place.here ne h)

absent_differs : (rest : List Slot) (d e : ℕ) → holds d rest ≡ false → holds e rest ≡ true → d ≢ e
absent_differs rest d e absent held same = let f : false ≡ true = sym absent ∙ ap (λ (x : ℕ). holds x rest) same ∙ held in cc

free_step : (now : List Slot) (slot : Slot) (rest : List Slot) (p : ℕ) (n : ℤ) → IsTable now → slot.denom ≢ 0 → IsPlaceOf now slot.denom p → holds slot.denom rest ≡ false
    → (more all : ℕ) → free_of now + more ≡ all + new_of now (slot ∷ rest)
    → free_of (slice_set now p (grown slot.denom n (slot_at now p))) + more ≡ all + new_of (slice_set now p (grown slot.denom n (slot_at now p))) rest
free_step now slot rest p n table taken place absent more all before =
    let s : Slot = grown slot.denom n (slot_at now p) in
    let same : new_of (slice_set now p s) rest ≡ new_of now rest =
    new_alike (slice_set now p s) now rest (λ e ne h. held_after now slot.denom p e s refl (absent_differs rest slot.denom e absent h) ne place) in
    elim (cases_eq (slot_at now p).denom 0) [
      | inl z ↦ omega (arith, same, before, new_one now slot rest taken (empty_place now slot.denom p table taken place z), free_taken now p s place.within z taken)
      | inr full ↦ omega (arith, same, before, new_held now slot rest taken (held_place now slot.denom p place full), free_same now p s place.within full taken)
    ]

-- the numerator at the place is not yet larger than before the pouring
fresh_here : (start other now : List Slot) (slot : Slot) (rest : List Slot) (w m p : ℕ) → IsPouring start other now (slot ∷ rest) w m → IsPlaceOf now slot.denom p → unsigned_abs (slot_at now p).numer ≤ w * (2 ^ 64 - 1)
fresh_here start other now slot rest w m p pouring place =
    elim (cases_eq (slot_at now p).denom 0) [
      | inl z ↦ subst (λ (x : ℤ). unsigned_abs x ≤ w * (2 ^ 64 - 1)) (sym (pouring.table.empty p place.within z)) (omega arith)
      | inr full ↦ pouring.fresh p (bool_equal slot.denom (slot_at now p).denom true (holds (slot_at now p).denom rest) (sym (place.here full)))
    ]

both_weights : (w m : ℕ) (a b : ℤ) → unsigned_abs a ≤ w * (2 ^ 64 - 1) → unsigned_abs b ≤ m * (2 ^ 64 - 1) → unsigned_abs (a +ℤ b) ≤ (w + m) * (2 ^ 64 - 1)
both_weights w m a b h k = omega (arith, ints, h, k)

pub pouring_sum_small : (start other now : List Slot) (slot : Slot) (rest : List Slot) (w m p : ℕ) → IsPouring start other now (slot ∷ rest) w m → IsPlaceOf now slot.denom p
    → unsigned_abs ((slot_at now p).numer +ℤ slot.numer) ≤ (w + m) * (2 ^ 64 - 1)
pouring_sum_small start other now slot rest w m p pouring place =
    both_weights w m (slot_at now p).numer slot.numer (fresh_here start other now slot rest w m p pouring place) (pouring.small 0)

true_false : true ≡ false → ⊥
true_false e = cc

pub pouring_steps : (start other now : List Slot) (slot : Slot) (rest : List Slot) (w m p : ℕ) → IsPouring start other now (slot ∷ rest) w m → slot.denom ≢ 0 → IsPlaceOf now slot.denom p
    → IsPouring start other (slice_set now p (grown slot.denom slot.numer (slot_at now p))) rest w m
pouring_steps start other now slot rest w m p pouring taken place =
    let s : Slot = grown slot.denom slot.numer (slot_at now p) in
    let there : slot_at (slice_set now p s) p ≡ s = get_or-set_same now p s empty_slot place.within in
    record {
      table = table_written now slot.denom p s pouring.table refl taken place;
      numerators = λ e ne. step_sum (numerator_at e now) _ _ (numerator_at e rest) _ (pouring.numerators e ne) ((grows_at now p slot.denom slot.numer pouring.table place).each e ne);
      sum = sum_pours start other now (slice_set now p s) slot rest taken pouring.sum (sum_grows now p slot.denom slot.numer taken pouring.table place);
      held = λ e ne. step_held now slot rest slot.numer p e taken ne place ∙ pouring.held e ne;
      room = room_step now slot rest p slot.numer pouring.table taken place pouring.room;
      free = free_step now slot rest p slot.numer pouring.table taken place (pouring.apart.0 taken) (new_of start other) (free_of start) pouring.free;
      bounded = λ k. elim (cases_eq k p) [
        | inl e ↦ subst (λ (x : Slot). unsigned_abs x.numer ≤ (w + m) * (2 ^ 64 - 1)) (sym (subst (λ (x : ℕ). slot_at (slice_set now p s) x ≡ s) (sym e) there))
            (pouring_sum_small start other now slot rest w m p pouring place)
        | inr ne ↦ subst (λ (x : Slot). unsigned_abs x.numer ≤ (w + m) * (2 ^ 64 - 1)) (sym (get_or-set_other now p k s empty_slot ne)) (pouring.bounded k)
      ];
      fresh = λ k h. elim (cases_eq k p) [
        | inl e ↦
            let here : slot_at (slice_set now p s) k ≡ s = subst (λ (x : ℕ). slot_at (slice_set now p s) x ≡ s) (sym e) there in
            absurd (true_false (sym (subst (λ (x : Slot). holds x.denom rest ≡ true) here h) ∙ pouring.apart.0 taken))
        | inr ne ↦
            let same : slot_at (slice_set now p s) k ≡ slot_at now k = get_or-set_other now p k s empty_slot ne in
            subst (λ (x : Slot). unsigned_abs x.numer ≤ w * (2 ^ 64 - 1)) (sym same)
            (pouring.fresh k (rest_holds (slot_at now k).denom slot rest (subst (λ (x : Slot). holds x.denom rest ≡ true) same h)))
      ];
      apart = pouring.apart.1;
      small = λ k. pouring.small (suc k);
    }

-- ---- the loop

slot_to_come : (start other now : List Slot) (w m i : ℕ) → i < length other → IsPouring start other now (drop i other) w m → IsPouring start other now (slot_at other i ∷ drop (i + 1) other) w m
slot_to_come start other now w m i h p = subst (λ (rest : List Slot). IsPouring start other now rest w m) (rest_at other i h) p

-- ---- the end

end_sum : (a b : ℤ) → a +ℤ pos 0 ≡ b → a ≡ b
end_sum a b h = omega (arith, ints, h)

all_came : (start other now : List Slot) (w m i : ℕ) → length other ≤ i → IsPouring start other now (drop i other) w m → IsPouring start other now [] w m
all_came start other now w m i h p = subst (λ (rest : List Slot). IsPouring start other now rest w m) (drop_all i other h) p

pub pouring_ends : (start other now : List Slot) (w m i : ℕ) → length other ≤ i → IsPouring start other now (drop i other) w m → AddsEach start other now
pouring_ends start other now w m i h p = record { each = λ e ne. end_sum _ _ ((all_came start other now w m i h p).numerators e ne) }

pub sum_ends : (start other now : List Slot) (w m i : ℕ) → length other ≤ i → IsPouring start other now (drop i other) w m → SumAdds start other now
sum_ends start other now w m i h p = record { same = sum_all_came start other now (all_came start other now w m i h p).sum }

pub free_ends : (start other now : List Slot) (w m i : ℕ) → length other ≤ i → IsPouring start other now (drop i other) w m → TakesSlots start other now
free_ends start other now w m i h p = record { free = omega (arith, (all_came start other now w m i h p).free) }

pub held_ends : (start other now : List Slot) (w m i : ℕ) → length other ≤ i → IsPouring start other now (drop i other) w m → HoldsBoth start other now
held_ends start other now w m i h p = record { each = λ e ne. end_held (holds e now) ∙ (all_came start other now w m i h p).held e ne }

pub poured_kept : (start other now : List Slot) (w m i : ℕ) (c d : ℤ) → length other ≤ i → IsPouring start other now (drop i other) w m → IsKept start w c → IsKept other m d → CanMerge start w other m → IsKept now (w + m) (c +ℤ d)
poured_kept start other now w m i c d h p kept more can = record {
  table = p.table;
  bounded = p.bounded;
  counted = abs_sum c d w m kept.counted more.counted;
  light = can.light;
}

-- ---- the numbers of 128 bits

pub pour_held : (start other now : List Slot) (slot : Slot) (rest : List Slot) (w m p : ℕ) → IsPouring start other now (slot ∷ rest) w m → CanMerge start w other m → IsPlaceOf now slot.denom p
    → Has128Bits ((slot_at now p).numer +ℤ slot.numer)
pour_held start other now slot rest w m p pouring can place =
    held_of _ (omega (arith, pouring_sum_small start other now slot rest w m p pouring place, can.light))

-- ---- the slot to come, as it was read

pub slot_read : (start other now : List Slot) (w m i d : ℕ) (n : ℤ) → d ≡ (slot_at other i).denom → n ≡ (slot_at other i).numer → i < length other → IsPouring start other now (drop i other) w m
    → IsPouring start other now (record { denom = d; numer = n } ∷ drop (i + 1) other) w m
slot_read start other now w m i d n denom_is numer_is h p =
    subst (λ (slot : Slot). IsPouring start other now (slot ∷ drop (i + 1) other) w m) (sym (slot_is (slot_at other i) d n denom_is numer_is)) (slot_to_come start other now w m i h p)
