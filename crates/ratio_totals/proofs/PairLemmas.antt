-- Sums of pairs, in which one pair is put for another of its value.
use Rattle.std.specs.Prelude.{◌≡◌, ◌<◌, ◌*◌, ◌+ℤ◌, ◌*ℤ◌, ◌==◌, Bool, false, ℕ, ℤ, neg_ℤ, pos, List, [], if◌then◌else◌}
use Rattle.std.proofs.Common.{sym, ap, subst, arith, ◌∙◌}
use Rattle.std.proofs.lemmas.Bool.Decides.{nat_tests}
use Rattle.std.proofs.lemmas.Int.{ints}
use Rattle.ratio_slots.proofs.MergeSums.{pour_fraction, sum_positive}
use Rattle.ratio_slots.proofs.ReadLemmas.{empty_numerators}
use Rattle.ratio_slots.proofs.SumsAgree.{sums_agree}
use Rattle.ratio_slots.proofs.TurnLemmas.{sums_negated}
use Rattle.ratio_slots.specs.LowestSum.{IsShortPair}
use Rattle.ratio_slots.specs.Merging.{SumAdds}
use Rattle.ratio_slots.specs.SumOrder.{one_slot}
use Rattle.ratio_slots.specs.Sums.{SameSum, SumGrows, pair_sum, sum_of_slots}
use Rattle.ratio_slots.specs.Totals.{HasNoFraction}
use Rattle.ratio_slots.specs.Turning.{negated}
use Rattle.ratio_slots.specs.declared.slots.Slot.{Slot}
use Rattle.ratio_totals.proofs.ProductLemmas.{size_positive}

sum_turned : (p q : ℤ × ℕ) → pair_sum p q ≡ pair_sum q p
sum_turned p q =
    let numer : p.0 *ℤ pos q.1 +ℤ q.0 *ℤ pos p.1 ≡ q.0 *ℤ pos p.1 +ℤ p.0 *ℤ pos q.1 = omega (arith, ints) in
    let denom : p.1 * q.1 ≡ q.1 * p.1 = omega arith in
    ap (λ (x : ℤ). (x, p.1 * q.1)) numer ∙ ap (λ (y : ℕ). (q.0 *ℤ pos p.1 +ℤ p.0 *ℤ pos q.1, y)) denom

sum_of_none : (p : ℤ × ℕ) → pair_sum p (pos 0, 1) ≡ p
sum_of_none p =
    let numer : p.0 *ℤ pos 1 +ℤ pos 0 *ℤ pos p.1 ≡ p.0 = omega (arith, ints) in
    let denom : p.1 * 1 ≡ p.1 = omega arith in
    ap (λ (x : ℤ). (x, p.1 * 1)) numer ∙ ap (λ (y : ℕ). (p.0, y)) denom

pub sum_of_one : (n : ℤ) (d : ℕ) → 0 < d → sum_of_slots (one_slot n d) ≡ (n, d)
sum_of_one n d some =
    let taken : (d == 0) ≡ false = grind (arith, nat_tests, some) in
    ap (λ (b : Bool). if b then (pos 0, 1) else pair_sum (n, d) (pos 0, 1)) taken ∙ sum_of_none (n, d)

pub none_and : (p : ℤ × ℕ) → pair_sum (pos 0, 1) p ≡ p
none_and p = sum_turned (pos 0, 1) p ∙ sum_of_none p

-- if x and y have the same value, so have old + x and old + y
pub replaced : (old x y new : ℤ × ℕ) → 0 < x.1 → 0 < old.1 → SameSum x y → SameSum (pair_sum old x) new → SameSum (pair_sum old y) new
replaced old x y new some positive same step =
    subst (λ (p : ℤ × ℕ). SameSum p new) (sum_turned y old)
    (pour_fraction (pos 0, 1) y old new x.0 x.1 (λ z. omega (arith, some, z)) (omega arith) positive
    (subst (λ (p : ℤ × ℕ). SameSum p y) (sym (none_and x)) same)
    (subst (λ (p : ℤ × ℕ). SameSum p new) (sum_turned old x ∙ sym (none_and (pair_sum x old))) step))

-- a fraction in lowest terms went in, and so each fraction of its value
pub product_in : (old new : List Slot) (x : ℤ × ℕ) (n : ℤ) (d : ℕ) → IsShortPair x n d → SumGrows d n old new → SameSum (pair_sum (sum_of_slots old) x) (sum_of_slots new)
product_in old new x n d short grows =
    replaced (sum_of_slots old) (n, d) x (sum_of_slots new) (size_positive (pos d) short.terms.lowest.positive) (sum_positive old) (sym short.terms.same) grows.same

-- ---- the sum of no fraction

none_value : (slots : List Slot) → HasNoFraction slots → SameSum (sum_of_slots slots) (pos 0, 1)
none_value slots none = sums_agree slots [] (record { each = λ e some. empty_numerators slots e none some })

-- a total of no fraction changes no sum
pub starts : (slots : List Slot) (all : ℤ × ℕ) → 0 < all.1 → HasNoFraction slots → SameSum (pair_sum (sum_of_slots slots) all) all
starts slots all positive none =
    subst (λ (p : ℤ × ℕ). SameSum p all) (sum_turned all (sum_of_slots slots))
    (replaced all (pos 0, 1) (sum_of_slots slots) all (omega arith) positive (sym (none_value slots none)) (ap (λ (p : ℤ × ℕ). p.0 *ℤ pos all.1) (sum_of_none all) ∙ ap (λ (p : ℤ × ℕ). all.0 *ℤ pos p.1) (sym (sum_of_none all))))

pub ends : (value all : ℤ × ℕ) → SameSum (pair_sum value (pos 0, 1)) all → SameSum all value
ends value all same = sym (subst (λ (p : ℤ × ℕ). SameSum p all) (sum_of_none value) same)

-- ---- a total that was taken out

pub taken_out : (old other new : List Slot) → SumAdds old (negated other) new → SameSum (pair_sum (sum_of_slots old) (neg_ℤ (sum_of_slots other).0, (sum_of_slots other).1)) (sum_of_slots new)
taken_out old other new adds = subst (λ (p : ℤ × ℕ). SameSum (pair_sum (sum_of_slots old) p) (sum_of_slots new)) (sums_negated other) adds.same
