-- Fractions that are 0, and empty slots, bring nothing to the numerators of a table.
use Rattle.std.specs.Prelude.{◌≡◌, ◌≢◌, ◌≤◌, ◌==◌, ◌+ℤ◌, Bool, true, false, ℕ, zero, suc, ℤ, pos, List, [], ◌∷◌, take, if◌then◌else◌, unsigned_abs}
use Rattle.std.specs.List.{filter}
use Rattle.std.proofs.Common.{sym, ap, subst, ◌∙◌, inl, inr, arith, refl}
use Rattle.std.proofs.lemmas.Bool.{cases_eq}
use Rattle.std.proofs.lemmas.Bool.Decides.{nat_tests}
use Rattle.std.proofs.lemmas.Int.{ints}
use Rattle.ratio_slots.proofs.CountLemmas.{bool_cases}
use Rattle.ratio_slots.proofs.SumLemmas.{over_zero}
use Rattle.ratio_slots.specs.Growth.{LeavesZeros, is_nonzero}
use Rattle.ratio_slots.specs.Slots.{empty_slot, slot_at}
use Rattle.ratio_slots.specs.Sums.{numerator_at, numerator_over}
use Rattle.ratio_slots.specs.TotalLaws.{SameNumerators}
use Rattle.ratio_slots.specs.declared.slots.Slot.{Slot}

zero_numer : (n : ℤ) → unsigned_abs n ≡ 0 → n ≡ pos 0
zero_numer n h = omega (arith, ints, h)

over_empty : (e d : ℕ) (n : ℤ) → e ≢ 0 → d ≡ 0 → numerator_over e d n ≡ pos 0
over_empty e d n ne z = grind (arith, nat_tests)

nothing_first : (a b c : ℤ) → a ≡ pos 0 → b ≡ c → b ≡ a +ℤ c
nothing_first a b c z h = omega (arith, ints, z, h)

-- a slot that holds no fraction but 0 brings nothing
brings_nothing : (e : ℕ) (slot : Slot) → e ≢ 0 → is_nonzero slot ≡ false → numerator_over e slot.denom slot.numer ≡ pos 0
brings_nothing e slot ne h =
    elim (cases_eq slot.denom 0) [
      | inl z ↦ over_empty e slot.denom slot.numer ne z
      | inr taken ↦ elim (cases_eq (unsigned_abs slot.numer) 0) [
        | inl z ↦ ap (λ (n : ℤ). numerator_over e slot.denom n) (zero_numer slot.numer z) ∙ over_zero e slot.denom
        | inr some ↦ absurd (both slot.denom (unsigned_abs slot.numer) taken some h)
      ]
    ]
  where
    both : (d n : ℕ) → d ≢ 0 → n ≢ 0 → (if d == 0 then false else (if n == 0 then false else true)) ≡ false → ⊥
    both d n taken some h = grind (arith, nat_tests)

filtered : (slot : Slot) (rest : List Slot) (b : Bool) → is_nonzero slot ≡ b
    → filter is_nonzero (slot ∷ rest) ≡ (if b then slot ∷ filter is_nonzero rest else filter is_nonzero rest)
filtered slot rest b h =
    subst (λ (t : Bool). filter is_nonzero (slot ∷ rest) ≡ (if t then slot ∷ filter is_nonzero rest else filter is_nonzero rest)) h refl

numerator_left : (e : ℕ) (slots : List Slot) → e ≢ 0 → numerator_at e (filter is_nonzero slots) ≡ numerator_at e slots
numerator_left e [] ne = refl
numerator_left e (slot ∷ rest) ne =
    elim (bool_cases (is_nonzero slot)) [
      | inl t ↦ ap (numerator_at e) (filtered slot rest true t) ∙ ap (λ (n : ℤ). numerator_over e slot.denom slot.numer +ℤ n) (numerator_left e rest ne)
      | inr f ↦ ap (numerator_at e) (filtered slot rest false f) ∙ nothing_first _ _ _ (brings_nothing e slot ne f) (numerator_left e rest ne)
    ]

-- the empty slots behind bring nothing
numerator_first : (e left : ℕ) (slots : List Slot) → e ≢ 0 → ((k : ℕ) → left ≤ k → slot_at slots k ≡ empty_slot) → numerator_at e (take left slots) ≡ numerator_at e slots
numerator_first e zero [] ne behind = refl
numerator_first e (suc left) [] ne behind = refl
numerator_first e zero (slot ∷ rest) ne behind =
    nothing_first _ _ _ (ap (λ (s : Slot). numerator_over e s.denom s.numer) (behind 0 (omega arith)) ∙ over_zero e 0)
    (numerator_first e zero rest ne (λ k h. behind (suc k) (omega arith)))
numerator_first e (suc left) (slot ∷ rest) ne behind =
    ap (λ (n : ℤ). numerator_over e slot.denom slot.numer +ℤ n) (numerator_first e left rest ne (λ k h. behind (suc k) (omega (arith, h))))

pub same_without_zeros : (old new : List Slot) (left : ℕ) → LeavesZeros old new left → SameNumerators old new
same_without_zeros old new left leaves = record {
  each = λ e ne. sym (numerator_left e old ne) ∙ ap (numerator_at e) (sym leaves.first) ∙ numerator_first e left new ne leaves.behind;
}
