-- A table whose numerators are turned: what stays as it is, and what turns.
use Rattle.std.specs.Prelude.{◌≡◌, ◌<◌, ◌≤◌, ◌+◌, ◌*◌, ◌^◌, ◌-◌, ◌==◌, ◌+ℤ◌, true, false, Bool, ℕ, zero, suc, ℤ, pos, neg_ℤ, List, [], ◌∷◌, length, drop, unsigned_abs, if◌then◌else◌}
use Rattle.std.proofs.Common.{sym, subst, ap, ◌∙◌, inl, inr, arith, refl}
use Rattle.std.proofs.lemmas.Bool.{cases_eq}
use Rattle.std.proofs.lemmas.Int.{fits_signed_from_abs, ints}
use mir.Facts.{to_z-of_z}
use mir.Syntax.{w64}
use mir.Val.{of_z, to_z}
use Rattle.ratio_integer.proofs.Whole.{neg-mul, unsigned_abs-neg}
use Rattle.ratio_slots.proofs.KeptLemmas.{abs_sum, machine_sum}
use Rattle.ratio_slots.proofs.PourLemmas.{slot_read}
use Rattle.ratio_slots.proofs.SumLemmas.{sum_empty, sum_taken, with_slot}
use Rattle.ratio_slots.specs.Merging.{CanMerge, HoldsBoth, IsPouring, TakesSlots, holds, new_of}
use Rattle.ratio_slots.specs.Slots.{ComesBefore, IsPlaceOf, IsTable, home_of, slot_at}
use Rattle.ratio_slots.specs.Sums.{numerator_at, numerator_over, sum_of_slots}
use Rattle.ratio_slots.specs.TotalLaws.{MergesUndone, NegatedNumerators, NegatedSums}
use Rattle.ratio_slots.specs.Totals.{IsKept, most_weight}
use Rattle.ratio_slots.specs.Turning.{negated, turned, turned_slots}
use Rattle.ratio_slots.specs.declared.slots.Slot.{Slot}

-- ---- one number

turned_size : (out : Bool) (n : ℤ) → unsigned_abs (turned out n) ≡ unsigned_abs n
turned_size false n = refl
turned_size true n = unsigned_abs-neg n

-- ---- what stays as it is

pub negated_length : (slots : List Slot) → length (negated slots) ≡ length slots
negated_length [] = refl
negated_length (slot ∷ rest) = ap suc (negated_length rest)

pub turned_length : (out : Bool) (slots : List Slot) → length (turned_slots out slots) ≡ length slots
turned_length false slots = refl
turned_length true slots = negated_length slots

pub negated_denom : (slots : List Slot) (k : ℕ) → (slot_at (negated slots) k).denom ≡ (slot_at slots k).denom
negated_denom [] k = refl
negated_denom (slot ∷ rest) zero = refl
negated_denom (slot ∷ rest) (suc k) = negated_denom rest k

turned_denom : (out : Bool) (slots : List Slot) (k : ℕ) → (slot_at (turned_slots out slots) k).denom ≡ (slot_at slots k).denom
turned_denom false slots k = refl
turned_denom true slots k = negated_denom slots k

negated_new : (slots other : List Slot) → new_of slots (negated other) ≡ new_of slots other
negated_new slots [] = refl
negated_new slots (slot ∷ rest) =
    ap (λ (n : ℕ). if slot.denom == 0 then n else (if holds slot.denom slots then n else n + 1)) (negated_new slots rest)

turned_new : (out : Bool) (slots other : List Slot) → new_of slots (turned_slots out other) ≡ new_of slots other
turned_new false slots other = refl
turned_new true slots other = negated_new slots other

pub negated_holds : (e : ℕ) (slots : List Slot) → holds e (negated slots) ≡ holds e slots
negated_holds e [] = refl
negated_holds e (slot ∷ rest) = ap (λ (b : Bool). if slot.denom == e then true else b) (negated_holds e rest)

turned_holds : (out : Bool) (e : ℕ) (slots : List Slot) → holds e (turned_slots out slots) ≡ holds e slots
turned_holds false e slots = refl
turned_holds true e slots = negated_holds e slots

-- ---- what turns

pub negated_numer : (slots : List Slot) (k : ℕ) → (slot_at (negated slots) k).numer ≡ neg_ℤ (slot_at slots k).numer
negated_numer [] k = refl
negated_numer (slot ∷ rest) zero = refl
negated_numer (slot ∷ rest) (suc k) = negated_numer rest k

turned_numer : (out : Bool) (slots : List Slot) (k : ℕ) → (slot_at (turned_slots out slots) k).numer ≡ turned out (slot_at slots k).numer
turned_numer false slots k = refl
turned_numer true slots k = negated_numer slots k

over_negated : (t : Bool) (n s : ℤ) → (if t then neg_ℤ n else pos 0) +ℤ neg_ℤ s ≡ neg_ℤ ((if t then n else pos 0) +ℤ s)
over_negated true n s = omega (arith, ints)
over_negated false n s = omega (arith, ints)

pub numerators_negated : NegatedNumerators
numerators_negated e [] = refl
numerators_negated e (slot ∷ rest) =
    ap (λ (s : ℤ). numerator_over e slot.denom (neg_ℤ slot.numer) +ℤ s) (numerators_negated e rest) ∙ over_negated (slot.denom == e) slot.numer (numerator_at e rest)

negated_parts : (a b c d : ℤ) → a ≡ neg_ℤ c → b ≡ neg_ℤ d → a +ℤ b ≡ neg_ℤ (c +ℤ d)
negated_parts a b c d e f = omega (arith, ints, e, f)

with_negated : (n : ℤ) (d : ℕ) (p : ℤ × ℕ) → with_slot (neg_ℤ n) d (neg_ℤ p.0, p.1) ≡ (neg_ℤ (with_slot n d p).0, (with_slot n d p).1)
with_negated n d p = ap (λ (z : ℤ). (z, d * p.1)) (negated_parts _ _ _ _ (neg-mul n (pos p.1)) (neg-mul p.0 (pos d)))

pub sums_negated : NegatedSums
sums_negated [] = refl
sums_negated (slot ∷ rest) =
    let first : Slot = record { denom = slot.denom; numer = neg_ℤ slot.numer } in
    elim (cases_eq slot.denom 0) [
      | inl z ↦ sum_empty first (negated rest) z ∙ sums_negated rest ∙ ap (λ (p : ℤ × ℕ). (neg_ℤ p.0, p.1)) (sym (sum_empty slot rest z))
      | inr ne ↦
          sum_taken first (negated rest) ne
          ∙ ap (with_slot (neg_ℤ slot.numer) slot.denom) (sums_negated rest)
          ∙ with_negated slot.numer slot.denom (sum_of_slots rest)
          ∙ ap (λ (p : ℤ × ℕ). (neg_ℤ p.0, p.1)) (sym (sum_taken slot rest ne))
    ]

in_and_out : (a b c x y : ℤ) → b ≡ a +ℤ x → c ≡ b +ℤ y → y ≡ neg_ℤ x → a ≡ c
in_and_out a b c x y e f g = omega (arith, ints, e, f, g)

pub merges_undone : MergesUndone
merges_undone start other merged after p q = record { each = λ e ne. in_and_out _ _ _ _ _ (p.each e ne) (q.each e ne) (numerators_negated e other) }

-- ---- a table stays one

module _ (out : Bool) (slots : List Slot) where
  place_turned : (d i : ℕ) → IsPlaceOf slots d i → IsPlaceOf (turned_slots out slots) d i
  place_turned d i p = record {
    within = omega (arith, p.within, turned_length out slots);
    here = λ full. turned_denom out slots i ∙ p.here (λ z. full (turned_denom out slots i ∙ z));
    first = λ k lt b here. p.first k (omega (arith, lt, turned_length out slots)) (subst (λ (n : ℕ). ComesBefore (home_of d n) k i) (turned_length out slots) b)
        (λ full. sym (turned_denom out slots k) ∙ here (λ z. full (sym (turned_denom out slots k) ∙ z)));
  }

  pub table_turned : IsTable slots → IsTable (turned_slots out slots)
  table_turned t = record {
    place = λ k lt full.
        subst (λ (d : ℕ). IsPlaceOf (turned_slots out slots) d k) (sym (turned_denom out slots k))
        (place_turned (slot_at slots k).denom k (t.place k (omega (arith, lt, turned_length out slots)) (λ z. full (turned_denom out slots k ∙ z))));
    empty = λ k lt z. turned_numer out slots k ∙ ap (turned out) (t.empty k (omega (arith, lt, turned_length out slots)) (sym (turned_denom out slots k) ∙ z)) ∙ turned_zero out;
  }
    where
      turned_zero : (o : Bool) → turned o (pos 0) ≡ pos 0
      turned_zero false = refl
      turned_zero true = refl

  pub kept_turned : (w : ℕ) (c : ℤ) → IsKept slots w c → IsKept (turned_slots out slots) w (turned out c)
  kept_turned w c kept = record {
    table = table_turned kept.table;
    bounded = λ k. subst (λ (n : ℕ). n ≤ w * (2 ^ 64 - 1)) (sym (ap unsigned_abs (turned_numer out slots k) ∙ turned_size out (slot_at slots k).numer)) (kept.bounded k);
    counted = subst (λ (n : ℕ). n ≤ w) (sym (turned_size out c)) kept.counted;
    light = kept.light;
  }

pub can_turned : (out : Bool) (slots other : List Slot) (w m : ℕ) → CanMerge slots w other m → CanMerge slots w (turned_slots out other) m
can_turned out slots other w m can = record { light = can.light; room = omega (arith, can.room, turned_new out slots other) }

pub holds_turned : (out : Bool) (old other new : List Slot) → HoldsBoth old (turned_slots out other) new → HoldsBoth old other new
holds_turned out old other new h = record { each = λ e ne. h.each e ne ∙ ap (λ (b : Bool). if holds e old then true else b) (turned_holds out e other) }

pub takes_turned : (out : Bool) (old other new : List Slot) → TakesSlots old (turned_slots out other) new → TakesSlots old other new
takes_turned out old other new h = record { free = omega (arith, h.free, turned_new out old other) }

-- the slot to come, as it was read and turned
pub turned_read : (start other now : List Slot) (out : Bool) (w m i d : ℕ) (n : ℤ) → d ≡ (slot_at other i).denom → n ≡ turned out (slot_at other i).numer → i < length other
    → IsPouring start (turned_slots out other) now (drop i (turned_slots out other)) w m
    → IsPouring start (turned_slots out other) now (record { denom = d; numer = n } ∷ drop (i + 1) (turned_slots out other)) w m
turned_read start other now out w m i d n denom_is numer_is h p =
    slot_read start (turned_slots out other) now w m i d n (denom_is ∙ sym (turned_denom out other i)) (numer_is ∙ sym (turned_numer out other i)) (omega (arith, h, turned_length out other)) p

-- the new count
pub merged_count : (w m : ℕ) (c d r : ℤ) (out : Bool) → unsigned_abs c ≤ w → unsigned_abs d ≤ m → w + m ≤ most_weight → r ≡ turned out (to_z w64 (of_z w64 d))
    → to_z w64 (of_z w64 (to_z w64 (of_z w64 c) +ℤ to_z w64 (of_z w64 r))) ≡ c +ℤ turned out d
merged_count w m c d r out counted more light is =
    let same : r ≡ turned out d = is ∙ ap (turned out) (to_z-of_z (fits_signed_from_abs w64 d (omega (arith, more, light)))) in
    let size : unsigned_abs r ≤ m = subst (λ (n : ℕ). n ≤ m) (sym (ap unsigned_abs same ∙ turned_size out d)) more in
    machine_sum w64 c r (omega (arith, counted, light)) (omega (arith, size, light)) (omega (arith, abs_sum c r w m counted size, light)) ∙ ap (λ (z : ℤ). c +ℤ z) same
