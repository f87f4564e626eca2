-- What a write does to the numerators of a table, and to its sum.
use Rattle.std.specs.Prelude.{◌≡◌, ◌≢◌, ◌*◌, ◌<◌, ◌==◌, ◌⊎◌, ◌+ℤ◌, ◌*ℤ◌, Bool, true, false, ℕ, zero, suc, ℤ, pos, List, [], ◌∷◌, length, slice_set, if◌then◌else◌}
use Rattle.std.proofs.Common.{sym, ap, subst, ◌∙◌, inl, inr, arith, refl}
use Rattle.std.proofs.lemmas.Bool.{cases_eq}
use Rattle.std.proofs.lemmas.Bool.Decides.{nat_tests}
use Rattle.std.proofs.lemmas.Int.{ints}
use borrow.Author.Differences.{up, down, product_is, same_in}
use Rattle.ratio_integer.proofs.Whole.{add-mul, mul_assoc}
use Rattle.ratio_slots.proofs.Places.{open_cases}
use Rattle.ratio_slots.specs.Loose.{IsClean}
use Rattle.ratio_slots.specs.Slots.{IsOpenTo, IsPlaceOf, IsTable, slot_at}
use Rattle.ratio_slots.specs.Sums.{GrowsAt, SumGrows, grown, numerator_at, numerator_over, sum_of_slots}
use Rattle.ratio_slots.specs.declared.slots.Slot.{Slot}

-- ---- numerators

over_sum : (e d : ℕ) (a b : ℤ) → numerator_over e d (a +ℤ b) ≡ numerator_over e d a +ℤ numerator_over e d b
over_sum e d a b =
    elim (d == e) as (λ (t : Bool). (if t then (a +ℤ b) else pos 0) ≡ (if t then a else pos 0) +ℤ (if t then b else pos 0)) [ true ↦ refl | false ↦ refl ]

pub over_zero : (e d : ℕ) → numerator_over e d (pos 0) ≡ pos 0
over_zero e d = elim (d == e) as (λ (t : Bool). (if t then pos 0 else pos 0) ≡ pos 0) [ true ↦ refl | false ↦ refl ]

-- an open slot, read as one of d: its numerator is the same, since that of an empty slot is 0
over_open : (e d : ℕ) (slot : Slot) → (slot.denom ≡ 0) ⊎ (slot.denom ≡ d) → (slot.denom ≡ 0 → slot.numer ≡ pos 0) → numerator_over e d slot.numer ≡ numerator_over e slot.denom slot.numer
over_open e d slot (inl z) empty =
    subst (λ (n : ℤ). numerator_over e d n ≡ numerator_over e slot.denom n) (sym (empty z)) (over_zero e d ∙ sym (over_zero e slot.denom))
over_open e d slot (inr same) empty = ap (λ (x : ℕ). numerator_over e x slot.numer) (sym same)

sum-swap : (a b c r : ℤ) → a ≡ b → (a +ℤ c) +ℤ r ≡ (b +ℤ r) +ℤ c
sum-swap a b c r e = omega (arith, ints, e)

sum-tail : (a b c r : ℤ) → b ≡ r +ℤ c → a +ℤ b ≡ (a +ℤ r) +ℤ c
sum-tail a b c r e = omega (arith, ints, e)

pub numerator_written : (slots : List Slot) (i d e : ℕ) (n : ℤ) → i < length slots → IsOpenTo d (slot_at slots i)
    → ((slot_at slots i).denom ≡ 0 → (slot_at slots i).numer ≡ pos 0)
    → numerator_at e (slice_set slots i (grown d n (slot_at slots i))) ≡ numerator_at e slots +ℤ numerator_over e d n
numerator_written [] i d e n h here empty = absurd (omega (arith, h))
numerator_written (slot ∷ rest) zero d e n h here empty =
    rw (over_sum e d slot.numer n) (sum-swap _ _ _ (numerator_at e rest) (over_open e d slot (open_cases d slot here) empty))
numerator_written (slot ∷ rest) (suc i) d e n h here empty =
    sum-tail _ _ _ _ (numerator_written rest i d e n (omega arith) here empty)

pub grows_clean : (slots : List Slot) (i d : ℕ) (n : ℤ) → IsPlaceOf slots d i → IsClean (slot_at slots i) → GrowsAt d n slots (slice_set slots i (grown d n (slot_at slots i)))
grows_clean slots i d n p clean = record { each = λ e ne. numerator_written slots i d e n p.within p.here clean }

pub grows_at : (slots : List Slot) (i d : ℕ) (n : ℤ) → IsTable slots → IsPlaceOf slots d i → GrowsAt d n slots (slice_set slots i (grown d n (slot_at slots i)))
grows_at slots i d n table p = grows_clean slots i d n p (table.empty i p.within)

-- ---- sums. Products with natural numbers, as differences

up-scaled : (a : ℤ) (b : ℕ) → up (a *ℤ pos b) ≡ up a * b
up-scaled a b = (product_is a (pos b)).0 ∙ omega arith

down-scaled : (a : ℤ) (b : ℕ) → down (a *ℤ pos b) ≡ down a * b
down-scaled a b = (product_is a (pos b)).1 ∙ omega arith

pos-mul : (a b : ℕ) → pos a *ℤ pos b ≡ pos (a * b)
pos-mul a b = same_in _ _ (omega (arith, up-scaled (pos a) b, down-scaled (pos a) b))

-- (a*b)*c is a*(b*c)
pub scaled_twice : (a : ℤ) (b c : ℕ) → (a *ℤ pos b) *ℤ pos c ≡ a *ℤ pos (b * c)
scaled_twice a b c = mul_assoc a (pos b) (pos c) ∙ ap (λ (t : ℤ). a *ℤ t) (pos-mul b c)

-- (a*d + n*b)*h is a*(d*h) + n*(b*h)
pub sum_scaled : (a n : ℤ) (d b h : ℕ) → (a *ℤ pos d +ℤ n *ℤ pos b) *ℤ pos h ≡ a *ℤ pos (d * h) +ℤ n *ℤ pos (b * h)
sum_scaled a n d b h =
    add-mul (a *ℤ pos d) (n *ℤ pos b) (pos h)
    ∙ (ap (λ (t : ℤ). t +ℤ (n *ℤ pos b) *ℤ pos h) (scaled_twice a d h) ∙ ap (λ (t : ℤ). a *ℤ pos (d * h) +ℤ t) (scaled_twice n b h))

-- ((m*b + a*e)*d + n*g)*h is m*(b*d*h) + a*(e*d*h) + n*(g*h)
three_scaled : (m a n : ℤ) (b e d g h : ℕ)
    → ((m *ℤ pos b +ℤ a *ℤ pos e) *ℤ pos d +ℤ n *ℤ pos g) *ℤ pos h ≡ (m *ℤ pos (b * (d * h)) +ℤ a *ℤ pos (e * (d * h))) +ℤ n *ℤ pos (g * h)
three_scaled m a n b e d g h =
    sum_scaled (m *ℤ pos b +ℤ a *ℤ pos e) n d g h ∙ ap (λ (t : ℤ). t +ℤ n *ℤ pos (g * h)) (sum_scaled m a b e (d * h))

pub scaled_alike : (a : ℤ) (j k : ℕ) → j ≡ k → a *ℤ pos j ≡ a *ℤ pos k
scaled_alike a j k e = ap (λ (t : ℕ). a *ℤ pos t) e

zero_first : (m n : ℤ) → m ≡ pos 0 → m +ℤ n ≡ n
zero_first m n e = omega (arith, ints, e)

sums_swap : (a b c d : ℤ) → a ≡ c → b ≡ d → a +ℤ b ≡ d +ℤ c
sums_swap a b c d e f = omega (arith, ints, e, f)

sums_three : (a b c x y z s : ℤ) → a ≡ x → b ≡ y → c ≡ z → s ≡ x +ℤ z → (a +ℤ b) +ℤ c ≡ s +ℤ y
sums_three a b c x y z s e f g h = omega (arith, ints, e, f, g, h)

sums_behind_is : (a b c x y z k s : ℤ) → a ≡ x → b ≡ y → c ≡ z → y +ℤ z ≡ k → k ≡ s → (a +ℤ b) +ℤ c ≡ x +ℤ s
sums_behind_is a b c x y z k s e f g h j = omega (arith, ints, e, f, g, h, j)

-- p + n/d has the value of q
abbrev SumsTo : ℤ × ℕ → ℤ → ℕ → ℤ × ℕ → Type 0
SumsTo p n d q = (p.0 *ℤ pos d +ℤ n *ℤ pos p.1) *ℤ pos q.1 ≡ q.0 *ℤ pos (p.1 * d)

-- a fraction of a new denominator comes first
sums_new : (a n : ℤ) (b d : ℕ) → SumsTo (a, b) n d (n *ℤ pos b +ℤ a *ℤ pos d, d * b)
sums_new a n b d =
    let l : (a *ℤ pos d +ℤ n *ℤ pos b) *ℤ pos (d * b) ≡ a *ℤ pos (d * (d * b)) +ℤ n *ℤ pos (b * (d * b)) = sum_scaled a n d b (d * b) in
    let r : (n *ℤ pos b +ℤ a *ℤ pos d) *ℤ pos (b * d) ≡ n *ℤ pos (b * (b * d)) +ℤ a *ℤ pos (d * (b * d)) = sum_scaled n a b d (b * d) in
    let u : a *ℤ pos (d * (d * b)) ≡ a *ℤ pos (d * (b * d)) = scaled_alike a _ _ (omega arith) in
    let v : n *ℤ pos (b * (d * b)) ≡ n *ℤ pos (b * (b * d)) = scaled_alike n _ _ (omega arith) in
    l ∙ sums_swap _ _ _ _ u v ∙ sym r

-- the numerators over one denominator add up
sums_same : (m n a : ℤ) (b d : ℕ) → SumsTo (m *ℤ pos b +ℤ a *ℤ pos d, d * b) n d ((m +ℤ n) *ℤ pos b +ℤ a *ℤ pos d, d * b)
sums_same m n a b d =
    let l : ((m *ℤ pos b +ℤ a *ℤ pos d) *ℤ pos d +ℤ n *ℤ pos (d * b)) *ℤ pos (d * b)
    ≡ (m *ℤ pos (b * (d * (d * b))) +ℤ a *ℤ pos (d * (d * (d * b)))) +ℤ n *ℤ pos ((d * b) * (d * b)) = three_scaled m a n b d d (d * b) (d * b) in
    let r : ((m +ℤ n) *ℤ pos b +ℤ a *ℤ pos d) *ℤ pos ((d * b) * d) ≡ (m +ℤ n) *ℤ pos (b * ((d * b) * d)) +ℤ a *ℤ pos (d * ((d * b) * d)) =
    sum_scaled (m +ℤ n) a b d ((d * b) * d) in
    let s : (m +ℤ n) *ℤ pos (b * ((d * b) * d)) ≡ m *ℤ pos (b * ((d * b) * d)) +ℤ n *ℤ pos (b * ((d * b) * d)) = add-mul m n (pos (b * ((d * b) * d))) in
    let u : m *ℤ pos (b * (d * (d * b))) ≡ m *ℤ pos (b * ((d * b) * d)) = scaled_alike m _ _ (omega arith) in
    let v : a *ℤ pos (d * (d * (d * b))) ≡ a *ℤ pos (d * ((d * b) * d)) = scaled_alike a _ _ (omega arith) in
    let w : n *ℤ pos ((d * b) * (d * b)) ≡ n *ℤ pos (b * ((d * b) * d)) = scaled_alike n _ _ (omega arith) in
    l ∙ sums_three _ _ _ _ _ _ _ u v w s ∙ sym r

-- one more fraction before both sums
sums_behind : (m a n c : ℤ) (e b d f : ℕ) → SumsTo (a, b) n d (c, f) → SumsTo (m *ℤ pos b +ℤ a *ℤ pos e, e * b) n d (m *ℤ pos f +ℤ c *ℤ pos e, e * f)
sums_behind m a n c e b d f h =
    let l : ((m *ℤ pos b +ℤ a *ℤ pos e) *ℤ pos d +ℤ n *ℤ pos (e * b)) *ℤ pos (e * f)
    ≡ (m *ℤ pos (b * (d * (e * f))) +ℤ a *ℤ pos (e * (d * (e * f)))) +ℤ n *ℤ pos ((e * b) * (e * f)) = three_scaled m a n b e d (e * b) (e * f) in
    let r : (m *ℤ pos f +ℤ c *ℤ pos e) *ℤ pos ((e * b) * d) ≡ m *ℤ pos (f * ((e * b) * d)) +ℤ c *ℤ pos (e * ((e * b) * d)) = sum_scaled m c f e ((e * b) * d) in
    let k : a *ℤ pos (d * f * (e * e)) +ℤ n *ℤ pos (b * f * (e * e)) ≡ c *ℤ pos (b * d * (e * e)) =
    sym (sum_scaled a n (d * f) (b * f) (e * e)) ∙ ap (λ (t : ℤ). t *ℤ pos (e * e)) (sym (sum_scaled a n d b f) ∙ h) ∙ scaled_twice c (b * d) (e * e) in
    let u : m *ℤ pos (b * (d * (e * f))) ≡ m *ℤ pos (f * ((e * b) * d)) = scaled_alike m _ _ (omega arith) in
    let v : a *ℤ pos (e * (d * (e * f))) ≡ a *ℤ pos (d * f * (e * e)) = scaled_alike a _ _ (omega arith) in
    let w : n *ℤ pos ((e * b) * (e * f)) ≡ n *ℤ pos (b * f * (e * e)) = scaled_alike n _ _ (omega arith) in
    let x : c *ℤ pos (b * d * (e * e)) ≡ c *ℤ pos (e * ((e * b) * d)) = scaled_alike c _ _ (omega arith) in
    l ∙ sums_behind_is _ _ _ _ _ _ _ _ u v w k x ∙ sym r

-- ---- the sum of a table, slot by slot

if_zero : (e : ℕ) (x y : ℤ × ℕ) → e ≡ 0 → (if e == 0 then x else y) ≡ x
if_zero e x y h = subst (λ (t : ℕ). (if t == 0 then x else y) ≡ x) (sym h) refl

if_taken : (e : ℕ) (x y : ℤ × ℕ) → e ≢ 0 → (if e == 0 then x else y) ≡ y
if_taken e x y h = grind (arith, nat_tests)

abbrev pub with_slot : ℤ → ℕ → ℤ × ℕ → ℤ × ℕ
with_slot n d p = (n *ℤ pos p.1 +ℤ p.0 *ℤ pos d, d * p.1)

pub sum_empty : (slot : Slot) (rest : List Slot) → slot.denom ≡ 0 → sum_of_slots (slot ∷ rest) ≡ sum_of_slots rest
sum_empty slot rest h = if_zero slot.denom _ _ h

pub sum_taken : (slot : Slot) (rest : List Slot) → slot.denom ≢ 0 → sum_of_slots (slot ∷ rest) ≡ with_slot slot.numer slot.denom (sum_of_slots rest)
sum_taken slot rest h = if_taken slot.denom _ _ h

sums_along : (p q r s : ℤ × ℕ) (n : ℤ) (d : ℕ) → p ≡ q → r ≡ s → SumsTo q n d s → SumsTo p n d r
sums_along p q r s n d e f h = subst (λ (x : ℤ × ℕ). SumsTo x n d r) (sym e) (subst (λ (x : ℤ × ℕ). SumsTo q n d x) (sym f) h)

sum_written_first : (slot : Slot) (rest : List Slot) (d : ℕ) (n : ℤ) → d ≢ 0 → (slot.denom ≡ 0) ⊎ (slot.denom ≡ d) → (slot.denom ≡ 0 → slot.numer ≡ pos 0)
    → SumsTo (sum_of_slots (slot ∷ rest)) n d (sum_of_slots (grown d n slot ∷ rest))
sum_written_first slot rest d n taken (inl z) empty =
    sums_along _ (sum_of_slots rest) _ (with_slot n d (sum_of_slots rest)) n d (sum_empty slot rest z)
    (sum_taken (grown d n slot) rest taken ∙ ap (λ (t : ℤ). with_slot t d (sum_of_slots rest)) (zero_first slot.numer n (empty z)))
    (sums_new (sum_of_slots rest).0 n (sum_of_slots rest).1 d)
sum_written_first slot rest d n taken (inr same) empty =
    sums_along _ (with_slot slot.numer d (sum_of_slots rest)) _ (with_slot (slot.numer +ℤ n) d (sum_of_slots rest)) n d
    (sum_taken slot rest (λ z. taken (sym same ∙ z)) ∙ ap (λ (t : ℕ). with_slot slot.numer t (sum_of_slots rest)) same)
    (sum_taken (grown d n slot) rest taken)
    (sums_same slot.numer n (sum_of_slots rest).0 (sum_of_slots rest).1 d)

sum_written_behind : (slot : Slot) (old new : List Slot) (n : ℤ) (d : ℕ) → SumsTo (sum_of_slots old) n d (sum_of_slots new)
    → SumsTo (sum_of_slots (slot ∷ old)) n d (sum_of_slots (slot ∷ new))
sum_written_behind slot old new n d h =
    elim (cases_eq slot.denom 0) [
      | inl z ↦ sums_along _ _ _ _ n d (sum_empty slot old z) (sum_empty slot new z) h
      | inr ne ↦ sums_along _ _ _ _ n d (sum_taken slot old ne) (sum_taken slot new ne)
          (sums_behind slot.numer (sum_of_slots old).0 n (sum_of_slots new).0 slot.denom (sum_of_slots old).1 d (sum_of_slots new).1 h)
    ]

sum_written : (slots : List Slot) (i d : ℕ) (n : ℤ) → d ≢ 0 → i < length slots → IsOpenTo d (slot_at slots i)
    → ((slot_at slots i).denom ≡ 0 → (slot_at slots i).numer ≡ pos 0)
    → SumsTo (sum_of_slots slots) n d (sum_of_slots (slice_set slots i (grown d n (slot_at slots i))))
sum_written [] i d n taken h here empty = absurd (omega (arith, h))
sum_written (slot ∷ rest) zero d n taken h here empty = sum_written_first slot rest d n taken (open_cases d slot here) empty
sum_written (slot ∷ rest) (suc i) d n taken h here empty =
    sum_written_behind slot rest (slice_set rest i (grown d n (slot_at rest i))) n d (sum_written rest i d n taken (omega arith) here empty)

pub sum_clean : (slots : List Slot) (i d : ℕ) (n : ℤ) → d ≢ 0 → IsPlaceOf slots d i → IsClean (slot_at slots i) → SumGrows d n slots (slice_set slots i (grown d n (slot_at slots i)))
sum_clean slots i d n taken p clean = record { same = sum_written slots i d n taken p.within p.here clean }

pub sum_grows : (slots : List Slot) (i d : ℕ) (n : ℤ) → d ≢ 0 → IsTable slots → IsPlaceOf slots d i → SumGrows d n slots (slice_set slots i (grown d n (slot_at slots i)))
sum_grows slots i d n taken table p = sum_clean slots i d n taken p (table.empty i p.within)
