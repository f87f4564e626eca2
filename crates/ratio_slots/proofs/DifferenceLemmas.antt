-- The difference of two tables: what it holds, and its sign.
use Rattle.std.specs.Prelude.{◌≡◌, ◌≢◌, ◌<◌, ◌≤◌, ◌+◌, ◌*◌, ◌==◌, ◌+ℤ◌, ◌*ℤ◌, ◌<ℤ◌, true, false, Bool, ℕ, suc, ℤ, pos, neg_ℤ, List, [], ◌∷◌, ◌++◌, length, if◌then◌else◌, max, min}
use Rattle.std.specs.Cmp.{int_cmp_is, int_ranks}
use Rattle.std.specs.Int.{◌∣◌}
use Rattle.std.specs.Ordering.{MatchOrdering, int_cmp}
use Rattle.std.specs.declared.cmp.Ordering.{Ordering}
use Rattle.std.specs.declared.cmp.Ordering.TheVariants.{Less, Equal, Greater}
use Rattle.std.proofs.Common.{ap, arith, inl, inr, refl, subst, sym, ◌∙◌}
use Rattle.std.proofs.lemmas.Bool.{cases_eq}
use Rattle.std.proofs.lemmas.Bool.Decides.{nat_tests}
use Rattle.std.proofs.lemmas.Int.{ints}
use Rattle.ratio_core.proofs.OrderLaws.{scaled_cmp}
use Rattle.ratio_integer.proofs.Whole.{neg-mul}
use Rattle.ratio_slots.proofs.CountLemmas.{bool_differ, bool_equal, new_alike}
use Rattle.ratio_slots.proofs.LowestSumLemmas.{product_positive}
use Rattle.ratio_slots.proofs.MergeSums.{sum_positive}
use Rattle.ratio_slots.proofs.ReadLemmas.{empty_holds}
use Rattle.ratio_slots.proofs.SignLemmas.{same_sign}
use Rattle.ratio_slots.proofs.SumLemmas.{scaled_alike, scaled_twice}
use Rattle.ratio_slots.proofs.SumsAgree.{sums_agree}
use Rattle.ratio_slots.proofs.TurnLemmas.{sums_negated}
use Rattle.ratio_slots.specs.Common.{HasLongCommon, IsCommonOf, IsMultipleOfEach, IsReadRefusedFor, most_common, most_digits, read_digits}
use Rattle.ratio_slots.specs.Merging.{HoldsBoth, SumAdds, TakesSlots, free_of, holds, new_of, one_holds, taken_of}
use Rattle.ratio_slots.specs.SumOrder.{HasShortCommon, compare_digits, pair_cmp, sign_of_slots, taken_together}
use Rattle.ratio_slots.specs.Sums.{SameSum, pair_sum, sum_of_slots}
use Rattle.ratio_slots.specs.TotalLaws.{SameDenominators, SameNumerators}
use Rattle.ratio_slots.specs.Totals.{HasNoFraction}
use Rattle.ratio_slots.specs.Turning.{negated}
use Rattle.ratio_slots.specs.declared.reading.ReadRefusal.{ReadRefusal}
use Rattle.ratio_slots.specs.declared.reading.ReadRefusal.TheVariants.{MoreRoom, TooLong}
use Rattle.ratio_slots.specs.declared.slots.Slot.{Slot}

-- ---- a table in another room

pub moved_held : (room old new : List Slot) → HasNoFraction room → HoldsBoth room old new → SameDenominators old new
moved_held room old new none both = record {
  each = λ e ne. sym (both.each e ne ∙ ap (λ (b : Bool). if b then true else holds e old) (empty_holds room e none ne));
}

-- ---- slots that are taken, and slots that are free

taken_first : (d n m k : ℕ) → n + m ≡ k → (if d == 0 then n else n + 1) + (if d == 0 then m + 1 else m) ≡ suc k
taken_first d n m k h = grind (arith, nat_tests, h)

taken_or_free : (slots : List Slot) → taken_of slots + free_of slots ≡ length slots
taken_or_free [] = refl
taken_or_free (slot ∷ rest) = taken_first slot.denom (taken_of rest) (free_of rest) (length rest) (taken_or_free rest)

-- ---- the common denominator depends on what a table holds

multiple_at : (slots : List Slot) (m e : ℕ) → IsMultipleOfEach slots m → e ≢ 0 → holds e slots ≡ true → e ∣ m
multiple_at [] m e all taken h = let f : false ≡ true = h in cc
multiple_at (slot ∷ rest) m e all taken h =
    elim (cases_eq slot.denom e) [
      | inl same ↦ subst (λ (d : ℕ). d ∣ m) same (all.0 (λ z. taken (sym same ∙ z)))
      | inr ne ↦ multiple_at rest m e all.1 taken (sym (bool_differ slot.denom e true (holds e rest) ne) ∙ h)
    ]

held_behind : (e : ℕ) (slot : Slot) (rest : List Slot) → holds e rest ≡ true → holds e (slot ∷ rest) ≡ true
held_behind e slot rest h =
    elim (cases_eq slot.denom e) [
      | inl is ↦ bool_equal slot.denom e true (holds e rest) is
      | inr ne ↦ bool_differ slot.denom e true (holds e rest) ne ∙ h
    ]

multiple_all : (slots : List Slot) (m : ℕ) → ((e : ℕ) → e ≢ 0 → holds e slots ≡ true → e ∣ m) → IsMultipleOfEach slots m
multiple_all [] m all = tt
multiple_all (slot ∷ rest) m all = (
  (λ taken. all slot.denom taken (bool_equal slot.denom slot.denom true (holds slot.denom rest) refl)),
  multiple_all rest m (λ e ne h. all e ne (held_behind e slot rest h)),
)

multiple_moved : (left right : List Slot) (m : ℕ) → SameDenominators left right → IsMultipleOfEach left m → IsMultipleOfEach right m
multiple_moved left right m same all = multiple_all right m (λ e ne h. multiple_at left m e all ne (same.each e ne ∙ h))

turned_about : (left right : List Slot) → SameDenominators left right → SameDenominators right left
turned_about left right same = record { each = λ e ne. sym (same.each e ne) }

common_moved : (left right : List Slot) (l : ℕ) → SameDenominators left right → IsCommonOf left l → IsCommonOf right l
common_moved left right l same is = record {
  positive = is.positive;
  multiple = multiple_moved left right l same is.multiple;
  least = λ m all. is.least m (multiple_moved right left m (turned_about left right same) all);
}

pub long_moved : (left right : List Slot) (bound : ℕ) → SameDenominators left right → HasLongCommon left bound → HasLongCommon right bound
long_moved left right bound same long = record { common = long.common; is = common_moved left right long.common same long.is; long = long.long }

pub short_moved : (left right : List Slot) (bound : ℕ) → SameDenominators left right → HasShortCommon left bound → HasShortCommon right bound
short_moved left right bound same short = record { common = short.common; is = common_moved left right short.common same short.is; short = short.short }

if_twice : (t a b : Bool) → (if (if t then true else a) then true else b) ≡ (if t then true else (if a then true else b))
if_twice true a b = refl
if_twice false a b = refl

pub both_hold : (e : ℕ) (left right : List Slot) → holds e (left ++ right) ≡ one_holds e left right
both_hold e [] right = refl
both_hold e (slot ∷ rest) right =
    ap (λ (b : Bool). if slot.denom == e then true else b) (both_hold e rest right) ∙ sym (if_twice (slot.denom == e) (holds e rest) (holds e right))

-- ---- the order of two fractions

moved_rank : (x y : ℤ) (o : Ordering) → MatchOrdering o (x <ℤ y) (x ≡ y) (y <ℤ x) → MatchOrdering o ((x +ℤ neg_ℤ y) <ℤ pos 0) (x +ℤ neg_ℤ y ≡ pos 0) (pos 0 <ℤ (x +ℤ neg_ℤ y))
moved_rank x y Less h = omega (arith, ints, h)
moved_rank x y Equal h = omega (arith, ints, h)
moved_rank x y Greater h = omega (arith, ints, h)

difference_cmp : (x y : ℤ) → int_cmp (x +ℤ neg_ℤ y) (pos 0) ≡ int_cmp x y
difference_cmp x y = sym (int_cmp_is (x +ℤ neg_ℤ y) (pos 0) (int_cmp x y) (moved_rank x y (int_cmp x y) (int_ranks x y)))

-- p less q
abbrev less : ℤ × ℕ → ℤ × ℕ → ℤ × ℕ
less p q = pair_sum p (neg_ℤ q.0, q.1)

pub sign_of_less : (p q d : ℤ × ℕ) → 0 < p.1 → 0 < q.1 → 0 < d.1 → SameSum (less p q) d → int_cmp d.0 (pos 0) ≡ pair_cmp p q
sign_of_less p q d p_some q_some d_some same =
    sym (same_sign (less p q).0 d.0 (p.1 * q.1) d.1 (product_positive p.1 q.1 p_some q_some) d_some same)
    ∙ ap (λ (z : ℤ). int_cmp (p.0 *ℤ pos q.1 +ℤ z) (pos 0)) (neg-mul q.0 (pos p.1))
    ∙ difference_cmp (p.0 *ℤ pos q.1) (q.0 *ℤ pos p.1)

-- the order of m and b is that of a and b, if a and m have the same value
pub order_moved : (a m b : ℤ × ℕ) → 0 < a.1 → 0 < m.1 → SameSum a m → pair_cmp m b ≡ pair_cmp a b
order_moved a m b a_some m_some same =
    let first : (m.0 *ℤ pos b.1) *ℤ pos a.1 ≡ (a.0 *ℤ pos b.1) *ℤ pos m.1 =
    scaled_twice m.0 b.1 a.1 ∙ scaled_alike m.0 (b.1 * a.1) (a.1 * b.1) (omega arith) ∙ sym (scaled_twice m.0 a.1 b.1)
    ∙ ap (λ (z : ℤ). z *ℤ pos b.1) (sym same)
    ∙ scaled_twice a.0 m.1 b.1 ∙ scaled_alike a.0 (m.1 * b.1) (b.1 * m.1) (omega arith) ∙ sym (scaled_twice a.0 b.1 m.1) in
    let second : (b.0 *ℤ pos m.1) *ℤ pos a.1 ≡ (b.0 *ℤ pos a.1) *ℤ pos m.1 =
    scaled_twice b.0 m.1 a.1 ∙ scaled_alike b.0 (m.1 * a.1) (a.1 * m.1) (omega arith) ∙ sym (scaled_twice b.0 a.1 m.1) in
    sym (scaled_cmp (m.0 *ℤ pos b.1) (b.0 *ℤ pos m.1) a.1 a_some)
    ∙ ap (λ (z : ℤ). int_cmp z ((b.0 *ℤ pos m.1) *ℤ pos a.1)) first
    ∙ ap (λ (z : ℤ). int_cmp ((a.0 *ℤ pos b.1) *ℤ pos m.1) z) second
    ∙ scaled_cmp (a.0 *ℤ pos b.1) (b.0 *ℤ pos a.1) m.1 m_some

-- ---- why a read was refused

pub refused_digits : (slots : List Slot) (room : ℕ) (why : ReadRefusal) → why ≡ MoreRoom → IsReadRefusedFor slots room why → room < read_digits slots
refused_digits slots room why is h = subst (λ (w : ReadRefusal). IsReadRefusedFor slots room w) is h

pub refused_long : (slots : List Slot) (room : ℕ) (why : ReadRefusal) → why ≡ TooLong → IsReadRefusedFor slots room why → HasLongCommon slots most_common
refused_long slots room why is h = let both : IsReadRefusedFor slots room TooLong = subst (λ (w : ReadRefusal). IsReadRefusedFor slots room w) is h in both.1

-- ---- the difference of two tables

module _ (left right moved difference : List Slot) (room : ℕ) (numerators : SameNumerators left moved) (held : SameDenominators left moved)
    (free : free_of moved + taken_of left ≡ room) where
  new_same : new_of moved right ≡ new_of left right
  new_same = new_alike moved left right (λ e ne h. sym (held.each e ne))

  pub no_slots : free_of moved < new_of moved right → room < taken_together left right
  no_slots h = omega (arith, h, free, new_same)

  module _ (width : length difference ≡ room) (both : HoldsBoth moved right difference) (takes : TakesSlots moved right difference) where
    pub taken_is : taken_of difference ≡ taken_together left right
    taken_is = omega (arith, free, new_same, width, takes.free, taken_or_free difference)

    pub enough_slots : taken_together left right ≤ room
    enough_slots = omega (arith, taken_is, width, taken_or_free difference)

    pub digits_are : read_digits difference ≡ compare_digits left right
    digits_are = ap (λ (n : ℕ). 4 * max 1 (min n most_digits) + 6) taken_is

    pub same_held : SameDenominators difference (left ++ right)
    same_held = record {
      each = λ e ne. both.each e ne ∙ ap (λ (b : Bool). if b then true else holds e right) (sym (held.each e ne)) ∙ sym (both_hold e left right);
    }

  pub order_is : (order : Ordering) → SumAdds moved (negated right) difference → order ≡ sign_of_slots difference → order ≡ pair_cmp (sum_of_slots left) (sum_of_slots right)
  order_is order adds is =
      is
      ∙ sign_of_less (sum_of_slots moved) (sum_of_slots right) (sum_of_slots difference) (sum_positive moved) (sum_positive right) (sum_positive difference)
      (subst (λ (p : ℤ × ℕ). SameSum (pair_sum (sum_of_slots moved) p) (sum_of_slots difference)) (sums_negated right) adds.same)
      ∙ order_moved (sum_of_slots left) (sum_of_slots moved) (sum_of_slots right) (sum_positive left) (sum_positive moved) (sums_agree left moved numerators)
