-- What is read from a table, and a table moved into another room.
use Rattle.std.specs.Prelude.{◌≡◌, ◌≢◌, ◌≤◌, ◌<◌, ◌+◌, ◌==◌, ◌+ℤ◌, true, false, ℕ, zero, suc, ℤ, pos, List, [], ◌∷◌, length, if◌then◌else◌}
use Rattle.std.proofs.Common.{sym, ap, subst, ◌∙◌, inl, inr, arith, refl}
use Rattle.std.proofs.lemmas.Bool.{cases_eq}
use Rattle.std.proofs.lemmas.Bool.Decides.{nat_tests}
use Rattle.std.proofs.lemmas.Int.{ints}
use Rattle.ratio_slots.proofs.CountLemmas.{HoldsAtIndex, bool_cases, bool_differ, bool_equal, empty_place, holds_index, index_holds, new_one, new_skip, no_place, table_apart}
use Rattle.ratio_slots.specs.Merging.{AddsEach, AreApart, IsMergeRefusedFor, free_of, holds, new_of, taken_of}
use Rattle.ratio_slots.specs.Slots.{HasNoPlaceFor, IsPlaceOf, IsTable, slot_at}
use Rattle.ratio_slots.specs.Sums.{numerator_at, numerator_over}
use Rattle.ratio_slots.specs.TotalLaws.{SameNumerators}
use Rattle.ratio_slots.specs.Totals.{HasNoFraction, most_weight}
use Rattle.ratio_slots.specs.declared.tally.Refusal.{Refusal}
use Rattle.ratio_slots.specs.declared.tally.Refusal.TheVariants.{MoreRoom, TooMany}
use Rattle.ratio_slots.specs.declared.slots.Slot.{Slot}

-- ---- the numerator over a denominator

pub over_other : (e d : ℕ) (n : ℤ) → d ≢ e → numerator_over e d n ≡ pos 0
over_other e d n ne = grind (arith, nat_tests)

pub over_itself : (e d : ℕ) (n : ℤ) → d ≡ e → numerator_over e d n ≡ n
over_itself e d n same = grind (arith, nat_tests)

first_zero : (a b : ℤ) → a ≡ pos 0 → b ≡ pos 0 → a +ℤ b ≡ pos 0
first_zero a b e f = omega (arith, ints, e, f)

pub first_alone : (a b n : ℤ) → a ≡ n → b ≡ pos 0 → a +ℤ b ≡ n
first_alone a b n e f = omega (arith, ints, e, f)

pub second_alone : (a b n : ℤ) → a ≡ pos 0 → b ≡ n → a +ℤ b ≡ n
second_alone a b n e f = omega (arith, ints, e, f)

true_false : true ≡ false → ⊥
true_false e = cc

pub numerator_absent : (slots : List Slot) (d : ℕ) → holds d slots ≡ false → numerator_at d slots ≡ pos 0
numerator_absent [] d h = refl
numerator_absent (slot ∷ rest) d h =
    elim (cases_eq slot.denom d) [
      | inl e ↦ absurd (true_false (sym (bool_equal slot.denom d true (holds d rest) e) ∙ h))
      | inr ne ↦ first_zero _ _ (over_other d slot.denom slot.numer ne) (numerator_absent rest d (sym (bool_differ slot.denom d true (holds d rest) ne) ∙ h))
    ]

pub numerator_present : (slots : List Slot) (d k : ℕ) → AreApart slots → d ≢ 0 → k < length slots → (slot_at slots k).denom ≡ d → numerator_at d slots ≡ (slot_at slots k).numer
numerator_present [] d k apart taken h e = absurd (omega (arith, h))
numerator_present (slot ∷ rest) d zero apart taken h e =
    first_alone _ _ _ (over_itself d slot.denom slot.numer e)
    (numerator_absent rest d (subst (λ (x : ℕ). holds x rest ≡ false) e (apart.0 (λ z. taken (sym e ∙ z)))))
numerator_present (slot ∷ rest) d (suc k) apart taken h e =
    let ih : numerator_at d rest ≡ (slot_at rest k).numer = numerator_present rest d k apart.1 taken (omega (arith, h)) e in
    elim (cases_eq slot.denom d) [
      | inl same ↦ absurd (true_false (sym (index_holds d rest k (omega (arith, h)) e) ∙ subst (λ (x : ℕ). holds x rest ≡ false) same (apart.0 (λ z. taken (sym same ∙ z)))))
      | inr ne ↦ second_alone _ _ _ (over_other d slot.denom slot.numer ne) ih
    ]

pub numerator_empty_place : (slots : List Slot) (d p : ℕ) → IsTable slots → d ≢ 0 → IsPlaceOf slots d p → (slot_at slots p).denom ≡ 0 → (slot_at slots p).numer ≡ numerator_at d slots
numerator_empty_place slots d p table taken place z = table.empty p place.within z ∙ sym (numerator_absent slots d (empty_place slots d p table taken place z))

pub numerator_at_place : (slots : List Slot) (d p : ℕ) → IsTable slots → d ≢ 0 → IsPlaceOf slots d p → (slot_at slots p).numer ≡ numerator_at d slots
numerator_at_place slots d p table taken place =
    elim (cases_eq (slot_at slots p).denom 0) [
      | inl z ↦ numerator_empty_place slots d p table taken place z
      | inr full ↦ sym (numerator_present slots d p (table_apart slots table) taken place.within (place.here full))
    ]

pub numerator_no_place : (slots : List Slot) (d : ℕ) → HasNoPlaceFor slots d → pos 0 ≡ numerator_at d slots
numerator_no_place slots d none = sym (numerator_absent slots d (no_place slots d none))

-- ---- an empty room

none_held : (slots : List Slot) (d : ℕ) → HasNoFraction slots → d ≢ 0 → HoldsAtIndex d slots → ⊥
none_held slots d none taken h = taken (sym h.is ∙ ap (λ (s : Slot). s.denom) (none.each h.index h.within))

pub empty_holds : (slots : List Slot) (d : ℕ) → HasNoFraction slots → d ≢ 0 → holds d slots ≡ false
empty_holds slots d none taken =
    elim (bool_cases (holds d slots)) [ inl t ↦ absurd (none_held slots d none taken (holds_index d slots t)) | inr f ↦ f ]

nat_equal_to : (a d x y : ℕ) → a ≡ d → (if a == d then x else y) ≡ x
nat_equal_to a d x y h = grind (arith, nat_tests)

nat_differ_from : (a d x y : ℕ) → a ≢ d → (if a == d then x else y) ≡ y
nat_differ_from a d x y h = grind (arith, nat_tests)

pub all_new : (slots other : List Slot) → HasNoFraction slots → new_of slots other ≡ taken_of other
all_new slots [] none = refl
all_new slots (slot ∷ rest) none =
    let ih : new_of slots rest ≡ taken_of rest = all_new slots rest none in
    elim (cases_eq slot.denom 0) [
      | inl z ↦ new_skip slots slot rest z ∙ ih ∙ sym (nat_equal_to slot.denom 0 (taken_of rest) (taken_of rest + 1) z)
      | inr taken ↦ new_one slots slot rest taken (empty_holds slots slot.denom none taken) ∙ ap (λ (x : ℕ). x + 1) ih
          ∙ sym (nat_differ_from slot.denom 0 (taken_of rest) (taken_of rest + 1) taken)
    ]

rest_empty : (slot : Slot) (rest : List Slot) → HasNoFraction (slot ∷ rest) → HasNoFraction rest
rest_empty slot rest none = record { each = λ k lt. none.each (suc k) (omega (arith, lt)) }

all_free_by : (slots : List Slot) → HasNoFraction slots → free_of slots ≡ length slots
all_free_by [] none = refl
all_free_by (slot ∷ rest) none =
    let z : slot.denom ≡ 0 = ap (λ (s : Slot). s.denom) (none.each 0 (omega arith)) in
    let ih : free_of rest ≡ length rest = all_free_by rest (rest_empty slot rest none) in
    nat_equal_to slot.denom 0 (free_of rest + 1) (free_of rest) z ∙ omega (arith, ih)

pub all_free : (slots : List Slot) → HasNoFraction slots → free_of slots ≡ length slots
all_free slots none = all_free_by slots none

pub empty_numerators : (slots : List Slot) (d : ℕ) → HasNoFraction slots → d ≢ 0 → numerator_at d slots ≡ pos 0
empty_numerators slots d none taken = numerator_absent slots d (empty_holds slots d none taken)

-- ---- a table in another room

moved_numerator : (a b c : ℤ) → c ≡ a +ℤ b → a ≡ pos 0 → b ≡ c
moved_numerator a b c e f = omega (arith, ints, e, f)

pub moved_numerators : (room old new : List Slot) → HasNoFraction room → AddsEach room old new → SameNumerators old new
moved_numerators room old new none adds = record { each = λ e ne. moved_numerator _ _ _ (adds.each e ne) (empty_numerators room e none ne) }

-- an empty room refuses a total only if it has too few slots
pub refused_room : (room other : List Slot) (w m : ℕ) (why : Refusal) → IsMergeRefusedFor room w other m why → w ≡ 0 → m ≤ most_weight → free_of room < new_of room other
refused_room room other w m MoreRoom h light held = h
refused_room room other w m TooMany h light held = absurd (omega (arith, h, light, held))
