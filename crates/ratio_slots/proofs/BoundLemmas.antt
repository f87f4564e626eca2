-- The bounds of a table hold.
use Rattle.std.specs.Prelude.{◌≡◌, ◌≢◌, ◌+◌, ◌*◌, ◌/◌, ◌%◌, ◌<◌, ◌≤◌, ◌==◌, ◌+ℤ◌, ◌-ℤ◌, ◌*ℤ◌, ◌≤ℤ◌, ℕ, ℤ, pos, List, [], ◌∷◌, if◌then◌else◌}
use Rattle.std.proofs.Common.{refl, sym, ap, subst, arith, ◌∙◌, inl, inr}
use Rattle.std.proofs.Math.Nat.{mul-le-mul_right}
use Rattle.std.proofs.lemmas.Bool.{cases_eq}
use Rattle.std.proofs.lemmas.Bool.Decides.{nat_tests}
use Rattle.std.proofs.lemmas.Int.{ints}
use Rattle.ratio_integer.proofs.Whole.{sub-mul}
use Rattle.ratio_slots.proofs.JoinLemmas.{signed_step}
use Rattle.ratio_slots.proofs.SumLemmas.{sum_empty, sum_taken}
use Rattle.ratio_slots.specs.Bounds.{BoundsAreNear, BoundsHold, cut_count, cut_of, cut_sum, high_of, low_of}
use Rattle.ratio_slots.specs.Common.{above_zero, below_zero}
use Rattle.ratio_slots.specs.Sums.{sum_of_slots}
use Rattle.ratio_slots.specs.declared.slots.Slot.{Slot}

-- ---- tests

pub when_zero : (e x y : ℕ) → e ≡ 0 → (if e == 0 then x else y) ≡ x
when_zero e x y h = grind (arith, nat_tests)

pub when_taken : (e x y : ℕ) → e ≢ 0 → (if e == 0 then x else y) ≡ y
when_taken e x y h = grind (arith, nat_tests)

-- ---- one quotient

-- what is cut is less than a part of 1
rest_below : (n d : ℕ) → 0 < d → n % d ≤ cut_of n d * d
rest_below n d some =
    elim (cases_eq (n % d) 0) [
      | inl z ↦ omega (arith, z)
      | inr ne ↦
          let one : cut_of n d ≡ 1 = when_taken (n % d) 0 1 ne in
          let whole : cut_of n d * d ≡ 1 * d = ap (λ (t : ℕ). t * d) one in
          omega (arith, whole, some)
    ]

-- m/d lies between `cut` and `units` more parts of 1
record IsCut (cut units m d parts : ℕ) : Type 0 where
  least : cut * d ≤ m * parts
  most : m * parts ≤ (cut + units) * d

-- one more fraction s/d beside m/b
module _ (s d m b cut units parts : ℕ) (some : 0 < d) (before : IsCut cut units m b parts) where
  cut_more : IsCut (s * parts / d + cut) (cut_of (s * parts) d + units) (m * d + b * s) (d * b) parts
  cut_more =
      let q = s * parts / d in
      let r = s * parts % d in
      let u = cut_of (s * parts) d in
      let whole : q * d + r ≡ s * parts = omega arith in
      let scaled : (q * d + r) * b ≡ (s * parts) * b = ap (λ (t : ℕ). t * b) whole in
      let over : r * b ≤ (u * d) * b = mul-le-mul_right b (rest_below (s * parts) d some) in
      let down : (cut * b) * d ≤ (m * parts) * d = mul-le-mul_right d before.least in
      let up : (m * parts) * d ≤ ((cut + units) * b) * d = mul-le-mul_right d before.most in
      record {
        least = omega (arith, scaled, down);
        most = omega (arith, scaled, over, up);
      }

-- ---- the sum of a table, each side of 0 apart

record HasSides (slots : List Slot) (parts : ℕ) : Type 0 where
  above : ℕ
  below : ℕ
  value : (sum_of_slots slots).0 ≡ pos above -ℤ pos below
  above_cut : IsCut (cut_sum above_zero parts slots) (cut_count above_zero parts slots) above (sum_of_slots slots).1 parts
  below_cut : IsCut (cut_sum below_zero parts slots) (cut_count below_zero parts slots) below (sum_of_slots slots).1 parts

pub cut_skips : (side : ℤ → ℕ) (parts : ℕ) (slot : Slot) (rest : List Slot) → slot.denom ≡ 0 → cut_sum side parts (slot ∷ rest) ≡ cut_sum side parts rest
cut_skips side parts slot rest z = when_zero slot.denom _ _ z

pub count_skips : (side : ℤ → ℕ) (parts : ℕ) (slot : Slot) (rest : List Slot) → slot.denom ≡ 0 → cut_count side parts (slot ∷ rest) ≡ cut_count side parts rest
count_skips side parts slot rest z = when_zero slot.denom _ _ z

pub cut_takes : (side : ℤ → ℕ) (parts : ℕ) (slot : Slot) (rest : List Slot) → slot.denom ≢ 0 → cut_sum side parts (slot ∷ rest) ≡ side slot.numer * parts / slot.denom + cut_sum side parts rest
cut_takes side parts slot rest taken = when_taken slot.denom _ _ taken

pub count_takes : (side : ℤ → ℕ) (parts : ℕ) (slot : Slot) (rest : List Slot) → slot.denom ≢ 0 → cut_count side parts (slot ∷ rest) ≡ cut_of (side slot.numer * parts) slot.denom + cut_count side parts rest
count_takes side parts slot rest taken = when_taken slot.denom _ _ taken

same_cut : (cut units other more m d e parts : ℕ) → cut ≡ other → units ≡ more → d ≡ e → IsCut other more m e parts → IsCut cut units m d parts
same_cut cut units other more m d e parts c u s is =
    subst (λ (t : ℕ). IsCut t units m d parts) (sym c) (subst (λ (t : ℕ). IsCut other t m d parts) (sym u) (subst (λ (t : ℕ). IsCut other more m t parts) (sym s) is))

sides_skip : (slot : Slot) (rest : List Slot) (parts : ℕ) → slot.denom ≡ 0 → HasSides rest parts → HasSides (slot ∷ rest) parts
sides_skip slot rest parts z has =
    let same = sum_empty slot rest z in
    let denom = ap (λ (p : ℤ × ℕ). p.1) same in
    record {
      above = has.above;
      below = has.below;
      value = ap (λ (p : ℤ × ℕ). p.0) same ∙ has.value;
      above_cut = same_cut _ _ _ _ _ _ _ parts (cut_skips above_zero parts slot rest z) (count_skips above_zero parts slot rest z) denom has.above_cut;
      below_cut = same_cut _ _ _ _ _ _ _ parts (cut_skips below_zero parts slot rest z) (count_skips below_zero parts slot rest z) denom has.below_cut;
    }

numbers_add : (a b c : ℤ) → a ≡ b → c +ℤ a ≡ b +ℤ c
numbers_add a b c e = omega (arith, ints, e)

sides_more : (slot : Slot) (rest : List Slot) (parts : ℕ) → slot.denom ≢ 0 → HasSides rest parts → HasSides (slot ∷ rest) parts
sides_more slot rest parts taken has =
    let n = slot.numer in
    let d = slot.denom in
    let b = (sum_of_slots rest).1 in
    let same = sum_taken slot rest taken in
    let denom = ap (λ (p : ℤ × ℕ). p.1) same in
    let some : 0 < d = omega (arith, taken) in
    let old : (sum_of_slots rest).0 *ℤ pos d ≡ (pos has.above -ℤ pos has.below) *ℤ pos d = ap (λ (t : ℤ). t *ℤ pos d) has.value in
    record {
      above = has.above * d + b * above_zero n;
      below = has.below * d + b * below_zero n;
      value = ap (λ (p : ℤ × ℕ). p.0) same ∙ numbers_add _ _ (n *ℤ pos b) old ∙ sym (signed_step has.above has.below d b n);
      above_cut = same_cut _ _ _ _ _ _ _ parts (cut_takes above_zero parts slot rest taken) (count_takes above_zero parts slot rest taken) denom (cut_more (above_zero n) d has.above b _ _ parts some has.above_cut);
      below_cut = same_cut _ _ _ _ _ _ _ parts (cut_takes below_zero parts slot rest taken) (count_takes below_zero parts slot rest taken) denom (cut_more (below_zero n) d has.below b _ _ parts some has.below_cut);
    }

sides : (slots : List Slot) (parts : ℕ) → HasSides slots parts
sides [] parts = record {
  above = 0;
  below = 0;
  value = refl;
  above_cut = record { least = omega arith; most = omega arith };
  below_cut = record { least = omega arith; most = omega arith };
}
sides (slot ∷ rest) parts =
    elim (cases_eq slot.denom 0) [
      | inl z ↦ sides_skip slot rest parts z (sides rest parts)
      | inr taken ↦ sides_more slot rest parts taken (sides rest parts)
    ]

-- ---- both bounds

difference_scaled : (a b k : ℕ) → (pos a -ℤ pos b) *ℤ pos k ≡ pos (a * k) -ℤ pos (b * k)
difference_scaled a b k = sub-mul (pos a) (pos b) (pos k)

differences_ordered : (a b c d : ℕ) → a ≤ c → d ≤ b → (pos a -ℤ pos b) ≤ℤ (pos c -ℤ pos d)
differences_ordered a b c d h k = omega (arith, ints, h, k)

-- a - b over e is at most c - d over f, if a/e ≤ c/f and d/f ≤ b/e
scaled_ordered : (a b c d e f : ℕ) → a * e ≤ c * f → d * f ≤ b * e → ((pos a -ℤ pos b) *ℤ pos e) ≤ℤ ((pos c -ℤ pos d) *ℤ pos f)
scaled_ordered a b c d e f h k =
    subst (λ (t : ℤ). t ≤ℤ ((pos c -ℤ pos d) *ℤ pos f)) (sym (difference_scaled a b e))
    (subst (λ (t : ℤ). (pos (a * e) -ℤ pos (b * e)) ≤ℤ t) (sym (difference_scaled c d f)) (differences_ordered _ _ _ _ h k))

pub bounds_hold : BoundsHold
bounds_hold slots parts =
    let has = sides slots parts in
    let d = (sum_of_slots slots).1 in
    record {
      at_least = subst (λ (t : ℤ). (low_of parts slots *ℤ pos d) ≤ℤ (t *ℤ pos parts)) (sym has.value) (scaled_ordered _ _ _ _ d parts has.above_cut.least has.below_cut.most);
      at_most = subst (λ (t : ℤ). (t *ℤ pos parts) ≤ℤ (high_of parts slots *ℤ pos d)) (sym has.value) (scaled_ordered _ _ _ _ parts d has.above_cut.most has.below_cut.least);
    }

units_between : (p q u v : ℕ) → pos (p + u) -ℤ pos q ≡ (pos p -ℤ pos (q + v)) +ℤ pos (u + v)
units_between p q u v = omega (arith, ints)

pub bounds_near : BoundsAreNear
bounds_near slots parts =
    units_between (cut_sum above_zero parts slots) (cut_sum below_zero parts slots) (cut_count above_zero parts slots) (cut_count below_zero parts slots)
