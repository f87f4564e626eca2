-- The laws of sums in rooms.
use Rattle.std.specs.Prelude.{◌≡◌, ◌*◌, ◌<◌, ◌+ℤ◌, ◌*ℤ◌, ℕ, ℤ, pos, neg_ℤ, true}
use Rattle.std.proofs.Common.{sym, ap, subst, arith, ◌∙◌}
use Rattle.std.proofs.Math.Nat.{dvd_antisymm, dvd_trans}
use Rattle.std.proofs.lemmas.Int.{ints}
use Rattle.ratio_integer.proofs.Whole.{add-mul, mul_assoc}
use Rattle.ratio_slots.proofs.CommonLemmas.{positive_product}
use Rattle.ratio_slots.proofs.MergeSums.{added_assoc, added_same, same_through}
use Rattle.ratio_slots.proofs.SumLemmas.{scaled_alike}
use Rattle.ratio_slots.specs.RoomSums.{LeastMultiplesAgree, LeastMultiplesAssociate, RoomSumsAssociate, RoomSumsCommute, RoomSumsUndone, turned_pair}
use Rattle.ratio_slots.specs.Sums.{SameSum, pair_sum}

-- ---- values

through : (x m y : ℤ × ℕ) → 0 < m.1 → SameSum x m → SameSum m y → SameSum x y
through x m y some p q = same_through x.0 m.0 y.0 x.1 m.1 y.1 some p q

swapped : (a b : ℤ) → a +ℤ b ≡ b +ℤ a
swapped a b = omega (arith, ints)

pair_swapped : (x y : ℤ × ℕ) → pair_sum x y ≡ pair_sum y x
pair_swapped x y =
    let denom : x.1 * y.1 ≡ y.1 * x.1 = omega arith in
    ap (λ (n : ℤ). (n, x.1 * y.1)) (swapped (x.0 *ℤ pos y.1) (y.0 *ℤ pos x.1)) ∙ ap (λ (d : ℕ). (y.0 *ℤ pos x.1 +ℤ x.0 *ℤ pos y.1, d)) denom

-- a sum with the same value in the place of another one
replaced : (x y z : ℤ × ℕ) → SameSum x y → SameSum (pair_sum y z) (pair_sum x z)
replaced x y z same = added_same x.0 y.0 z.0 x.1 y.1 z.1 same

pub room_sums_commute : RoomSumsCommute
room_sums_commute x y both again some other h g =
    through both (pair_sum x y) again (positive_product x.1 y.1 some other) (sym h) (subst (λ (p : ℤ × ℕ). SameSum p again) (pair_swapped y x) g)

pub room_sums_associate : RoomSumsAssociate
room_sums_associate x y z xy xy_z yz x_yz one two three four five first second third last =
    let whole = pair_sum (pair_sum x y) z in
    let whole_some : 0 < whole.1 = positive_product (x.1 * y.1) z.1 (positive_product x.1 y.1 one two) three in
    let left : SameSum xy_z whole =
    through xy_z (pair_sum xy z) whole (positive_product xy.1 z.1 four three) (sym second) (replaced (pair_sum x y) xy z first) in
    let turned : SameSum (pair_sum yz x) (pair_sum (pair_sum y z) x) = replaced (pair_sum y z) yz x third in
    let same : pair_sum (pair_sum y z) x ≡ whole = pair_swapped (pair_sum y z) x ∙ sym (added_assoc x.0 y.0 z.0 x.1 y.1 z.1) in
    let right : SameSum (pair_sum x yz) whole =
    subst (λ (p : ℤ × ℕ). SameSum p whole) (pair_swapped yz x) (subst (λ (p : ℤ × ℕ). SameSum (pair_sum yz x) p) same turned) in
    through xy_z whole x_yz whole_some left (through whole (pair_sum x yz) x_yz (positive_product x.1 yz.1 one five) (sym right) last)

opposite_none : (a : ℤ) (d : ℕ) → a *ℤ pos d +ℤ neg_ℤ a *ℤ pos d ≡ pos 0
opposite_none a d =
    let none : a +ℤ neg_ℤ a ≡ pos 0 = omega (arith, ints) in
    let product : pos 0 *ℤ pos d ≡ pos 0 = omega (arith, ints) in
    sym (add-mul a (neg_ℤ a) (pos d)) ∙ ap (λ (n : ℤ). n *ℤ pos d) none ∙ product

-- x and 0/k
and_nothing : (x : ℤ × ℕ) (z : ℤ) (k : ℕ) → z ≡ pos 0 → SameSum x (pair_sum x (z, k))
and_nothing x z k none =
    let nothing : z *ℤ pos x.1 ≡ pos 0 = ap (λ (n : ℤ). n *ℤ pos x.1) none ∙ (let product : pos 0 *ℤ pos x.1 ≡ pos 0 = omega (arith, ints) in product) in
    let numer : x.0 *ℤ pos k +ℤ z *ℤ pos x.1 ≡ x.0 *ℤ pos k = ap (λ (n : ℤ). x.0 *ℤ pos k +ℤ n) nothing ∙ omega (arith, ints) in
    scaled_alike x.0 (x.1 * k) (k * x.1) (omega arith) ∙ sym (mul_assoc x.0 (pos k) (pos x.1)) ∙ ap (λ (n : ℤ). n *ℤ pos x.1) (sym numer)

pub room_sums_undone : RoomSumsUndone
room_sums_undone x y both back some other more h g =
    let out = turned_pair true y in
    let whole = pair_sum (pair_sum x y) out in
    let whole_some : 0 < whole.1 = positive_product (x.1 * y.1) y.1 (positive_product x.1 y.1 some other) other in
    let came : SameSum whole back =
    through whole (pair_sum both out) back (positive_product both.1 y.1 more other) (sym (replaced (pair_sum x y) both out h)) g in
    let left : SameSum x whole =
    subst (λ (p : ℤ × ℕ). SameSum x p) (sym (added_assoc x.0 y.0 (neg_ℤ y.0) x.1 y.1 y.1)) (and_nothing x _ (y.1 * y.1) (opposite_none y.0 y.1)) in
    through x whole back whole_some left came

-- ---- least common multiples

pub least_agree : LeastMultiplesAgree
least_agree a b l m p q = dvd_antisymm (p.least m q.right q.left) (q.least l p.right p.left)

pub least_associate : LeastMultiplesAssociate
least_associate a b c ab ab_c bc a_bc first second third last =
    dvd_antisymm
    (second.least a_bc (first.least a_bc last.left (dvd_trans b third.left last.right)) (dvd_trans c third.right last.right))
    (last.least ab_c (dvd_trans a first.left second.left) (third.least ab_c (dvd_trans b first.right second.left) second.right))
