-- How a step of a read in steps follows from its beginning and the slots that it joins.
use Rattle.std.specs.Prelude.{◌≡◌, ◌≢◌, ◌+◌, ◌⊎◌, ℕ, zero, suc, List, length, min}
use Rattle.std.proofs.Common.{ap, arith, inl, inr, refl, subst, sym, ◌∙◌}
use Rattle.ratio_slots.specs.Steps.{HoldsJoined, LooksJoined}
use Rattle.ratio_slots.specs.declared.joined.Joined.{Joined}
use Rattle.ratio_slots.specs.declared.slots.Slot.{Slot}
use Rattle.ratio_c.specs.Joining.{HasBegun, IsNew, IsReady, Joins}
use Rattle.ratio_c.proofs.Cases.{where_held, where_not}

zero_or_not : (n : ℕ) → (n ≡ 0) ⊎ (n ≢ 0)
zero_or_not zero = inl refl
zero_or_not (suc n) = inr (λ none. absurd (omega (arith, none)))

new_or_not : (read : Joined) → IsNew read ⊎ (¬ (IsNew read))
new_or_not read = elim (zero_or_not read.done) [
  | inl done ↦ elim (zero_or_not read.digits) [
    | inl digits ↦ inl (record { done = done; digits = digits })
    | inr some ↦ inr (λ new. some new.digits)
  ]
  | inr some ↦ inr (λ new. some new.done)
]

moved : (slots : List Slot) (read from : Joined) (new_room room : List ℕ) → read ≡ from → new_room ≡ room → HoldsJoined slots from room → HoldsJoined slots read new_room
moved slots read from new_room room same same_room held =
    subst (λ (r : Joined). HoldsJoined slots r new_room) (sym same) (subst (λ (xs : List ℕ). HoldsJoined slots from xs) (sym same_room) held)

-- what a step needs to hold, after the read has begun
ready_holds : (slots : List Slot) (from read : Joined) (room new_room : List ℕ) → HasBegun slots from room new_room read → IsReady slots from room → HoldsJoined slots read new_room
ready_holds slots from read room new_room begun ready = elim ready [
  | inl new ↦ (begun.yes new).2
  | inr held ↦ elim (new_or_not from) [
    | inl new ↦ (begun.yes new).2
    | inr not ↦ moved slots read from new_room room (begun.no not).0 (begun.no not).1 held
  ]
]

looks_moved : (slots : List Slot) (read from : Joined) (new_room room : List ℕ) → read ≡ from → new_room ≡ room → LooksJoined slots read new_room → LooksJoined slots from room
looks_moved slots read from new_room room same same_room looks =
    subst (λ (r : Joined). LooksJoined slots r room) same (subst (λ (xs : List ℕ). LooksJoined slots read xs) same_room looks)

-- what a step tested, after the read has begun
looked_before : (slots : List Slot) (from read : Joined) (room middle : List ℕ) → HasBegun slots from room middle read → LooksJoined slots read middle → ¬ (IsNew from) → LooksJoined slots from room
looked_before slots from read room middle begun looks not = looks_moved slots read from middle room (begun.no not).0 (begun.no not).1 looks

-- a step that joined slots
pub step_joins : (slots : List Slot) (most : ℕ) (from read next : Joined) (room middle new_room : List ℕ) → HasBegun slots from room middle read
    → next.done ≡ min (read.done + most) (length slots) → next.digits ≡ read.digits → (HoldsJoined slots read middle → HoldsJoined slots next new_room)
    → LooksJoined slots read middle → Joins slots most from room new_room next
step_joins slots most from read next room middle new_room begun done digits further looks = elim (new_or_not from) [
  | inl new ↦
      let first = begun.yes new in
      record {
        done = done ∙ ap (λ (n : ℕ). min (n + most) (length slots)) (first.0 ∙ sym new.done);
        digits = where_held new (digits ∙ first.2.digits_is, first.1);
        looked = looked_before slots from read room middle begun looks;
        joined = λ ready. further first.2;
      }
  | inr not ↦
      let same = (begun.no not).0 in
      record {
        done = done ∙ ap (λ (r : Joined). min (r.done + most) (length slots)) same;
        digits = where_not not (digits ∙ ap (λ (r : Joined). r.digits) same);
        looked = looked_before slots from read room middle begun looks;
        joined = λ ready. further (ready_holds slots from read room middle begun ready);
      }
]
