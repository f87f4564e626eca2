-- What holds of a total after a fraction went in.
use Rattle.std.specs.Prelude.{◌≡◌, ◌≢◌, ◌≤◌, ◌<◌, ◌+◌, ◌-◌, ◌*◌, ◌^◌, ◌+ℤ◌, ℕ, ℤ, pos, negsuc, List, slice_set, unsigned_abs}
use Rattle.std.proofs.Common.{sym, subst, inl, inr, arith, refl}
use Rattle.std.proofs.lemmas.Bool.{cases_eq}
use Rattle.std.proofs.lemmas.Int.{fits_signed_from_abs, ints}
use mir.Syntax.{Width, w64}
use mir.Val.{hbits, of_z, to_z}
use mir.Facts.{to_z-of_z}
use Rattle.std.proofs.lemmas.List.{get_or-set_other, get_or-set_same}
use Rattle.ratio_slots.proofs.Places.{table_written}
use Rattle.ratio_slots.specs.Slots.{IsPlaceOf, empty_slot, slot_at}
use Rattle.ratio_slots.specs.Sums.{Has128Bits, grown}
use Rattle.ratio_slots.specs.Totals.{IsKept, most_weight}
use Rattle.ratio_slots.specs.declared.slots.Slot.{Slot}

-- the absolute value of a sum is at most the sum of the absolute values
pub abs_sum : (a b : ℤ) (m n : ℕ) → unsigned_abs a ≤ m → unsigned_abs b ≤ n → unsigned_abs (a +ℤ b) ≤ m + n
abs_sum a b m n h k = omega (arith, ints)

next_weight : (w : ℕ) (a b : ℤ) → unsigned_abs a ≤ w * (2 ^ 64 - 1) → unsigned_abs b < 2 ^ 64 → unsigned_abs (a +ℤ b) ≤ (w + 1) * (2 ^ 64 - 1)
next_weight w a b h k = omega (arith, ints)

heavier : (w : ℕ) (a : ℤ) → unsigned_abs a ≤ w * (2 ^ 64 - 1) → unsigned_abs a ≤ (w + 1) * (2 ^ 64 - 1)
heavier w a h = omega (arith, h)

pub kept_written : (slots : List Slot) (w d i : ℕ) (c n step : ℤ) → IsKept slots w c → d ≢ 0 → IsPlaceOf slots d i → w ≢ most_weight
    → unsigned_abs n < 2 ^ 64 → unsigned_abs step ≤ 1
    → IsKept (slice_set slots i (grown d n (slot_at slots i))) (w + 1) (c +ℤ step)
kept_written slots w d i c n step kept taken p light small one = record {
  table = table_written slots d i (grown d n (slot_at slots i)) kept.table refl taken p;
  bounded = λ k. elim (cases_eq k i) [
    | inl e ↦ subst (λ (s : Slot). unsigned_abs s.numer ≤ (w + 1) * (2 ^ 64 - 1))
        (sym (subst (λ (x : ℕ). slot_at (slice_set slots i (grown d n (slot_at slots i))) x ≡ grown d n (slot_at slots i)) (sym e) (get_or-set_same slots i _ empty_slot p.within)))
        (next_weight w (slot_at slots i).numer n (kept.bounded i) small)
    | inr ne ↦ subst (λ (s : Slot). unsigned_abs s.numer ≤ (w + 1) * (2 ^ 64 - 1)) (sym (get_or-set_other slots i k _ empty_slot ne))
        (heavier w (slot_at slots k).numer (kept.bounded k))
  ];
  counted = abs_sum c step w 1 kept.counted one;
  light = omega (arith, kept.light, light);
}

-- ---- machine numbers

pub held_of : (n : ℤ) → unsigned_abs n < 2 ^ 127 → Has128Bits n
held_of (pos n) small = record { least = omega (arith, ints); greatest = omega (arith, ints, small) }
held_of (negsuc n) small = record { least = omega (arith, ints, small); greatest = omega (arith, ints) }

-- a sum of two numbers that fit, computed by the machine, is their sum where it fits
pub machine_sum : (w : Width) (a b : ℤ) → unsigned_abs a < 2 ^ hbits w → unsigned_abs b < 2 ^ hbits w → unsigned_abs (a +ℤ b) < 2 ^ hbits w
    → to_z w (of_z w (to_z w (of_z w a) +ℤ to_z w (of_z w b))) ≡ a +ℤ b
machine_sum w a b f g h =
    rw (to_z-of_z (fits_signed_from_abs w a f), to_z-of_z (fits_signed_from_abs w b g)) (to_z-of_z (fits_signed_from_abs w (a +ℤ b) h))

-- the new numerator of a slot that a fraction goes into
pub numer_held : (slots : List Slot) (w i : ℕ) (c n : ℤ) → IsKept slots w c → w ≢ most_weight → unsigned_abs n < 2 ^ 64 → Has128Bits ((slot_at slots i).numer +ℤ n)
numer_held slots w i c n kept light small =
    held_of _ (omega (arith, next_weight w (slot_at slots i).numer n (kept.bounded i) small, kept.light, light))

-- the new count
pub machine_count : (slots : List Slot) (w : ℕ) (c step : ℤ) → IsKept slots w c → w ≢ most_weight → unsigned_abs step ≤ 1
    → to_z w64 (of_z w64 (to_z w64 (of_z w64 c) +ℤ to_z w64 (of_z w64 step))) ≡ c +ℤ step
machine_count slots w c step kept light one =
    machine_sum w64 c step (omega (arith, kept.counted, kept.light)) (omega (arith, one)) (omega (arith, abs_sum c step w 1 kept.counted one, kept.light, light))
