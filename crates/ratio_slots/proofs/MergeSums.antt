-- The sum of two tables, while one is poured into the other.
use Rattle.std.specs.Prelude.{◌≡◌, ◌≢◌, ◌<◌, ◌*◌, ◌+ℤ◌, ◌*ℤ◌, ℕ, zero, suc, ℤ, pos, List, [], ◌∷◌}
use Rattle.std.proofs.Common.{sym, ap, subst, ◌∙◌, inl, inr, arith, refl}
use Rattle.std.proofs.lemmas.Bool.{cases_eq}
use Rattle.std.proofs.lemmas.Int.{ints}
use Rattle.ratio_integer.proofs.Whole.{mul_cancel}
use Rattle.ratio_slots.proofs.SumLemmas.{scaled_alike, scaled_twice, sum_empty, sum_scaled, sum_taken}
use Rattle.ratio_slots.specs.Sums.{SameSum, SumGrows, pair_sum, sum_of_slots}
use Rattle.ratio_slots.specs.declared.slots.Slot.{Slot}

-- ---- fractions of the same value

-- if a/b has the value of m/k and m/k that of x/y, then a/b has the value of x/y
pub same_through : (a m x : ℤ) (b k y : ℕ) → 0 < k → a *ℤ pos k ≡ m *ℤ pos b → m *ℤ pos y ≡ x *ℤ pos k → a *ℤ pos y ≡ x *ℤ pos b
same_through a m x b k y positive h g =
    mul_cancel (a *ℤ pos y) (x *ℤ pos b) (pos k) (λ e. omega (arith, ints, positive, e)) (
    scaled_twice a y k
    ∙ scaled_alike a _ _ (omega arith)
    ∙ sym (scaled_twice a k y)
    ∙ ap (λ (t : ℤ). t *ℤ pos y) h
    ∙ scaled_twice m b y
    ∙ scaled_alike m _ _ (omega arith)
    ∙ sym (scaled_twice m y b)
    ∙ ap (λ (t : ℤ). t *ℤ pos b) g
    ∙ scaled_twice x k b
    ∙ scaled_alike x _ _ (omega arith)
    ∙ sym (scaled_twice x b k)
    )

pub equal_sums : (p q x y : ℤ) → p ≡ x → q ≡ y → p +ℤ q ≡ x +ℤ y
equal_sums p q x y e f = omega (arith, ints, e, f)

-- if a/b has the value of c/f, then c/f + t/u has that of a/b + t/u
pub added_same : (a c t : ℤ) (b f u : ℕ) → a *ℤ pos f ≡ c *ℤ pos b → (c *ℤ pos u +ℤ t *ℤ pos f) *ℤ pos (b * u) ≡ (a *ℤ pos u +ℤ t *ℤ pos b) *ℤ pos (f * u)
added_same a c t b f u h =
    let l : (c *ℤ pos u +ℤ t *ℤ pos f) *ℤ pos (b * u) ≡ c *ℤ pos (u * (b * u)) +ℤ t *ℤ pos (f * (b * u)) = sum_scaled c t u f (b * u) in
    let r : (a *ℤ pos u +ℤ t *ℤ pos b) *ℤ pos (f * u) ≡ a *ℤ pos (u * (f * u)) +ℤ t *ℤ pos (b * (f * u)) = sum_scaled a t u b (f * u) in
    let k : c *ℤ pos (u * (b * u)) ≡ a *ℤ pos (u * (f * u)) =
    scaled_alike c _ _ (omega arith) ∙ sym (scaled_twice c b (u * u)) ∙ ap (λ (x : ℤ). x *ℤ pos (u * u)) (sym h) ∙ scaled_twice a f (u * u) ∙ scaled_alike a _ _ (omega arith) in
    let v : t *ℤ pos (f * (b * u)) ≡ t *ℤ pos (b * (f * u)) = scaled_alike t _ _ (omega arith) in
    l ∙ equal_sums _ _ _ _ k v ∙ sym r

three_equal : (p q r x y z : ℤ) → p ≡ x → q ≡ y → r ≡ z → (p +ℤ q) +ℤ r ≡ x +ℤ (y +ℤ z)
three_equal p q r x y z e f g = omega (arith, ints, e, f, g)

-- (a/b + n/d) + t/u is a/b + (n/d + t/u), also as a pair
pub added_assoc : (a n t : ℤ) (b d u : ℕ) → pair_sum (pair_sum (a, b) (n, d)) (t, u) ≡ pair_sum (a, b) (pair_sum (n, d) (t, u))
added_assoc a n t b d u =
    let l : (a *ℤ pos d +ℤ n *ℤ pos b) *ℤ pos u ≡ a *ℤ pos (d * u) +ℤ n *ℤ pos (b * u) = sum_scaled a n d b u in
    let r : (n *ℤ pos u +ℤ t *ℤ pos d) *ℤ pos b ≡ n *ℤ pos (u * b) +ℤ t *ℤ pos (d * b) = sum_scaled n t u d b in
    let v : n *ℤ pos (b * u) ≡ n *ℤ pos (u * b) = scaled_alike n _ _ (omega arith) in
    let w : t *ℤ pos (b * d) ≡ t *ℤ pos (d * b) = scaled_alike t _ _ (omega arith) in
    let numer : (a *ℤ pos d +ℤ n *ℤ pos b) *ℤ pos u +ℤ t *ℤ pos (b * d) ≡ a *ℤ pos (d * u) +ℤ (n *ℤ pos u +ℤ t *ℤ pos d) *ℤ pos b =
    ap (λ (x : ℤ). x +ℤ t *ℤ pos (b * d)) l
    ∙ three_equal (a *ℤ pos (d * u)) (n *ℤ pos (b * u)) (t *ℤ pos (b * d)) _ _ _ refl v w
    ∙ ap (λ (x : ℤ). a *ℤ pos (d * u) +ℤ x) (sym r) in
    let denom : (b * d) * u ≡ b * (d * u) = omega arith in
    ap (λ (x : ℤ). (x, (b * d) * u)) numer ∙ ap (λ (y : ℕ). (a *ℤ pos (d * u) +ℤ (n *ℤ pos u +ℤ t *ℤ pos d) *ℤ pos b, y)) denom

-- ---- the denominator of a sum is positive

positive_product : (a b : ℕ) → a ≢ 0 → 0 < b → 0 < a * b
positive_product zero b h k = absurd (h refl)
positive_product (suc a) b h k = omega (arith, k)

pub sum_positive : (slots : List Slot) → 0 < (sum_of_slots slots).1
sum_positive [] = omega arith
sum_positive (slot ∷ rest) =
    elim (cases_eq slot.denom 0) [
      | inl z ↦ subst (λ (p : ℤ × ℕ). 0 < p.1) (sym (sum_empty slot rest z)) (sum_positive rest)
      | inr ne ↦ subst (λ (p : ℤ × ℕ). 0 < p.1) (sym (sum_taken slot rest ne)) (positive_product slot.denom _ ne (sum_positive rest))
    ]

-- ---- the steps of pouring

pub sum_skips : (start other now : List Slot) (slot : Slot) (rest : List Slot) → slot.denom ≡ 0
    → SameSum (pair_sum (sum_of_slots now) (sum_of_slots (slot ∷ rest))) (pair_sum (sum_of_slots start) (sum_of_slots other))
    → SameSum (pair_sum (sum_of_slots now) (sum_of_slots rest)) (pair_sum (sum_of_slots start) (sum_of_slots other))
sum_skips start other now slot rest z h =
    subst (λ (p : ℤ × ℕ). SameSum (pair_sum (sum_of_slots now) p) (pair_sum (sum_of_slots start) (sum_of_slots other))) (sum_empty slot rest z) h

-- N' is N + n/d, and N + (n/d + T) is X: so N' + T is X
pub pour_fraction : (old new rest x : ℤ × ℕ) (n : ℤ) (d : ℕ) → d ≢ 0 → 0 < old.1 → 0 < rest.1 → SameSum (pair_sum old (n, d)) new → SameSum (pair_sum old (pair_sum (n, d) rest)) x → SameSum (pair_sum new rest) x
pour_fraction old new rest x n d taken positive behind step h =
    same_through (pair_sum new rest).0 (pair_sum old (pair_sum (n, d) rest)).0 x.0 (pair_sum new rest).1 (pair_sum old (pair_sum (n, d) rest)).1 x.1
    (positive_product old.1 (d * rest.1) (λ z. omega (arith, positive, z)) (positive_product d rest.1 taken behind))
    (subst (λ (p : ℤ × ℕ). SameSum (pair_sum new rest) p) (added_assoc old.0 n rest.0 old.1 d rest.1)
    (added_same (pair_sum old (n, d)).0 new.0 rest.0 (pair_sum old (n, d)).1 new.1 rest.1 step))
    h

pub sum_pours : (start other now new : List Slot) (slot : Slot) (rest : List Slot) → slot.denom ≢ 0
    → SameSum (pair_sum (sum_of_slots now) (sum_of_slots (slot ∷ rest))) (pair_sum (sum_of_slots start) (sum_of_slots other))
    → SumGrows slot.denom slot.numer now new
    → SameSum (pair_sum (sum_of_slots new) (sum_of_slots rest)) (pair_sum (sum_of_slots start) (sum_of_slots other))
sum_pours start other now new slot rest taken h grows =
    pour_fraction (sum_of_slots now) (sum_of_slots new) (sum_of_slots rest) (pair_sum (sum_of_slots start) (sum_of_slots other)) slot.numer slot.denom taken
    (sum_positive now) (sum_positive rest) grows.same
    (subst (λ (p : ℤ × ℕ). SameSum (pair_sum (sum_of_slots now) p) (pair_sum (sum_of_slots start) (sum_of_slots other))) (sum_taken slot rest taken) h)

-- ---- the end

plus_none : (a : ℤ) (b : ℕ) → pair_sum (a, b) (pos 0, 1) ≡ (a, b)
plus_none a b =
    let numer : a *ℤ pos 1 +ℤ pos 0 *ℤ pos b ≡ a = omega (arith, ints) in
    let denom : b * 1 ≡ b = omega arith in
    ap (λ (x : ℤ). (x, b * 1)) numer ∙ ap (λ (y : ℕ). (a, y)) denom

pub sum_all_came : (start other now : List Slot) → SameSum (pair_sum (sum_of_slots now) (pos 0, 1)) (pair_sum (sum_of_slots start) (sum_of_slots other))
    → SameSum (pair_sum (sum_of_slots start) (sum_of_slots other)) (sum_of_slots now)
sum_all_came start other now h =
    sym (subst (λ (p : ℤ × ℕ). SameSum p (pair_sum (sum_of_slots start) (sum_of_slots other))) (plus_none (sum_of_slots now).0 (sum_of_slots now).1) h)
