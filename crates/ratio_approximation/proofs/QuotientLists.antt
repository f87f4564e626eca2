-- The quotients of a continued fraction, with an odd or an even number of them: a first quotient before others, and that both lists exist.
use Rattle.std.specs.Prelude.{◌≡◌, ◌≢◌, ◌⊎◌, ◌+◌, ◌*◌, ◌<◌, ◌≤ℤ◌, ◌<ℤ◌, ◌+ℤ◌, ◌-ℤ◌, ◌*ℤ◌, ℕ, ℤ, zero, suc, pos, negsuc, unsigned_abs, List, [], ◌∷◌, length, ⊤}
use Rattle.std.proofs.Common.{◌∙◌, refl, sym, ap, arith, inl, inr}
use Rattle.std.proofs.lemmas.Int.{ints}
use lib.IntN.{*ℤ_comm}
use Rattle.ratio_integer.specs.Division.{IsFloored}
use Rattle.ratio_integer.specs.Fraction.{SameValue}
use Rattle.ratio_integer.proofs.Whole.{add-mul, mul_assoc}
use Rattle.ratio_core.proofs.Floored.{floored_exists}
use Rattle.ratio_approximation.specs.Enclosing.{IsRoom}
use Rattle.ratio_approximation.specs.FromQuotients.{AreAboveZero, fraction_of}
use Rattle.ratio_approximation.proofs.SimplestSteps.{room_part, room_whole}

-- ---- lists

-- each quotient behind the first is at least 1
abbrev pub AreLater : List ℤ → Type 0
AreLater [] = ⊤
AreLater (q ∷ qs) = AreAboveZero qs

-- the first quotient, if there is one, is at least k
abbrev pub BeginsFrom : ℤ → List ℤ → Type 0
BeginsFrom k [] = ⊤
BeginsFrom k (q ∷ qs) = k ≤ℤ q

all_above : (qs : List ℤ) → BeginsFrom (pos 1) qs → AreLater qs → AreAboveZero qs
all_above [] first later = tt
all_above (q ∷ qs) first later = (first, later)

-- the list is the quotients of a continued fraction of n/d, and there is an odd number of them
pub record IsOddList (n d : ℤ) (qs : List ℤ) : Type 0 where
  pub later : AreLater qs
  pub value : SameValue n d (fraction_of qs).0 (fraction_of qs).1
  pub odd : (i : ℕ) × (length qs ≡ 2 * i + 1)

-- the list is the quotients of a continued fraction of n/d, and there is an even number of them; 1/0 has none
pub record IsEvenList (n d : ℤ) (qs : List ℤ) : Type 0 where
  pub later : AreLater qs
  pub value : SameValue n d (fraction_of qs).0 (fraction_of qs).1
  pub even : (i : ℕ) × (length qs ≡ 2 * i)

-- ---- a first quotient before others

cons_value : (n d q r a b : ℤ) → n ≡ q *ℤ d +ℤ r → SameValue d r a b → SameValue n d (q *ℤ a +ℤ b) a
cons_value n d q r a b sum same =
    let first : n *ℤ a ≡ (q *ℤ d) *ℤ a +ℤ r *ℤ a = ap (λ (t : ℤ). t *ℤ a) sum ∙ add-mul (q *ℤ d) r a in
    let second : (q *ℤ a +ℤ b) *ℤ d ≡ (q *ℤ a) *ℤ d +ℤ b *ℤ d = add-mul (q *ℤ a) b d in
    let whole : (q *ℤ d) *ℤ a ≡ (q *ℤ a) *ℤ d = mul_assoc q d a ∙ ap (λ (t : ℤ). q *ℤ t) (*ℤ_comm d a) ∙ sym (mul_assoc q a d) in
    let rest : r *ℤ a ≡ b *ℤ d = *ℤ_comm r a ∙ sym same ∙ *ℤ_comm d b in
    first ∙ ap (λ (t : ℤ). t +ℤ r *ℤ a) whole ∙ ap (λ (t : ℤ). (q *ℤ a) *ℤ d +ℤ t) rest ∙ sym second

pub odd_before : (n d q r : ℤ) (qs : List ℤ) → n ≡ q *ℤ d +ℤ r → BeginsFrom (pos 1) qs → IsEvenList d r qs → IsOddList n d (q ∷ qs)
odd_before n d q r qs sum first is = record {
  later = all_above qs first is.later;
  value = cons_value n d q r (fraction_of qs).0 (fraction_of qs).1 sum is.value;
  odd = (is.even.0, (let even = is.even.1 in omega arith));
}

pub even_before : (n d q r : ℤ) (qs : List ℤ) → n ≡ q *ℤ d +ℤ r → BeginsFrom (pos 1) qs → IsOddList d r qs → IsEvenList n d (q ∷ qs)
even_before n d q r qs sum first is = record {
  later = all_above qs first is.later;
  value = cons_value n d q r (fraction_of qs).0 (fraction_of qs).1 sum is.value;
  even = (is.odd.0 + 1, (let odd = is.odd.1 in omega arith));
}

-- 1/0 has no quotients
pub none_even : (n d : ℤ) → d ≡ pos 0 → IsEvenList n d []
none_even n d none = record { later = tt; value = rw none (omega (arith, ints)); even = (0, refl) }

-- ---- a whole number more, and the reciprocal

more_value : (n d f q a b m : ℤ) → m ≡ n +ℤ f *ℤ d → SameValue n d (q *ℤ a +ℤ b) a → SameValue m d ((q +ℤ f) *ℤ a +ℤ b) a
more_value n d f q a b m more same =
    let first : m *ℤ a ≡ n *ℤ a +ℤ (f *ℤ d) *ℤ a = ap (λ (t : ℤ). t *ℤ a) more ∙ add-mul n (f *ℤ d) a in
    let whole : (f *ℤ d) *ℤ a ≡ (f *ℤ a) *ℤ d = mul_assoc f d a ∙ ap (λ (t : ℤ). f *ℤ t) (*ℤ_comm d a) ∙ sym (mul_assoc f a d) in
    let parts : (q +ℤ f) *ℤ a ≡ q *ℤ a +ℤ f *ℤ a = add-mul q f a in
    let sum : (q +ℤ f) *ℤ a +ℤ b ≡ (q *ℤ a +ℤ b) +ℤ f *ℤ a = omega (arith, ints) in
    let second : ((q *ℤ a +ℤ b) +ℤ f *ℤ a) *ℤ d ≡ (q *ℤ a +ℤ b) *ℤ d +ℤ (f *ℤ a) *ℤ d = add-mul (q *ℤ a +ℤ b) (f *ℤ a) d in
    first ∙ ap (λ (t : ℤ). t +ℤ (f *ℤ d) *ℤ a) same ∙ ap (λ (t : ℤ). (q *ℤ a +ℤ b) *ℤ d +ℤ t) whole ∙ sym second ∙ ap (λ (t : ℤ). t *ℤ d) (sym sum)

pub odd_more : (n d f q m : ℤ) (qs : List ℤ) → m ≡ n +ℤ f *ℤ d → IsOddList n d (q ∷ qs) → IsOddList m d ((q +ℤ f) ∷ qs)
odd_more n d f q m qs more is = record { later = is.later; value = more_value n d f q (fraction_of qs).0 (fraction_of qs).1 m more is.value; odd = is.odd }

pub even_more : (n d f q m : ℤ) (qs : List ℤ) → m ≡ n +ℤ f *ℤ d → IsEvenList n d (q ∷ qs) → IsEvenList m d ((q +ℤ f) ∷ qs)
even_more n d f q m qs more is = record { later = is.later; value = more_value n d f q (fraction_of qs).0 (fraction_of qs).1 m more is.value; even = is.even }

turned_value : (n d a b : ℤ) → SameValue n d (pos 0 *ℤ a +ℤ b) a → SameValue d n a b
turned_value n d a b same =
    let none : pos 0 *ℤ a +ℤ b ≡ b = omega (arith, ints) in
    *ℤ_comm d b ∙ ap (λ (t : ℤ). t *ℤ d) (sym none) ∙ sym same ∙ *ℤ_comm n a

-- behind a first quotient 0 is the reciprocal
pub odd_behind : (n d : ℤ) (q : ℤ) (qs : List ℤ) → IsEvenList n d (pos 0 ∷ q ∷ qs) → IsOddList d n (q ∷ qs)
odd_behind n d q qs is = record {
  later = is.later.1;
  value = turned_value n d (fraction_of (q ∷ qs)).0 (fraction_of (q ∷ qs)).1 is.value;
  odd = odd_length (length qs) is.even.0 (let even = is.even.1 in omega arith);
}
  where
    odd_length : (k i : ℕ) → k + 2 ≡ 2 * i → (j : ℕ) × (suc k ≡ 2 * j + 1)
    odd_length k zero e = absurd (omega arith)
    odd_length k (suc i) e = (i, omega arith)

-- ---- both lists exist

pub record HasOddList (n d : ℤ) : Type 0 where
  pub list : List ℤ
  pub is : IsOddList n d list
  pub first : BeginsFrom (pos 1) list

pub record HasEvenList (n d : ℤ) : Type 0 where
  pub list : List ℤ
  pub is : IsEvenList n d list
  pub first : BeginsFrom (pos 1) list

-- q is the floor of n/d, and r the rest
pub record AreFloors (n d q r : ℤ) : Type 0 where
  pub sum : n ≡ q *ℤ d +ℤ r
  pub rest_up : pos 0 ≤ℤ r
  pub rest_less : r <ℤ d

floors : (n d q r : ℤ) → pos 0 <ℤ d → IsFloored n d q r → AreFloors n d q r
floors n d q r d_up is = record { sum = is.sum; rest_up = (let rest = is.rest in grind (arith, ints)); rest_less = (let rest = is.rest in grind (arith, ints)) }

-- the first quotient is at least 1, if the fraction is
pub some_first : (n d q r : ℤ) → pos 0 <ℤ d → d ≤ℤ n → n ≡ q *ℤ d +ℤ r → r <ℤ d → pos 1 ≤ℤ q
some_first n (negsuc d) q r d_up less sum rest = absurd (omega (arith, ints))
some_first n (pos d) (pos zero) r d_up less sum rest = absurd (omega (arith, ints))
some_first n (pos d) (pos (suc q)) r d_up less sum rest = omega (arith, ints)
some_first n (pos d) (negsuc q) r d_up less sum rest = absurd (omega (arith, ints))

pub odd_with : (n d : ℤ) → pos 0 <ℤ d → d ≤ℤ n → ((r : ℤ) → pos 0 ≤ℤ r → r <ℤ d → HasEvenList d r) → HasOddList n d
odd_with n d d_up less next =
    let divided = floored_exists n d (λ none. omega (arith, ints)) in
    let is = floors n d divided.quotient divided.rest d_up divided.floored in
    let behind = next divided.rest is.rest_up is.rest_less in
    record {
      list = divided.quotient ∷ behind.list;
      is = odd_before n d divided.quotient divided.rest behind.list is.sum behind.first behind.is;
      first = some_first n d divided.quotient divided.rest d_up less is.sum is.rest_less;
    }

pub zero_or : (z : ℤ) → (z ≡ pos 0) ⊎ (z ≢ pos 0)
zero_or (pos zero) = inl refl
zero_or (pos (suc z)) = inr (λ e. omega (arith, ints))
zero_or (negsuc z) = inr (λ e. omega (arith, ints))

pub room_exists : (a b : ℤ) → pos 0 <ℤ a → pos 0 <ℤ b → (z : ℤ) × IsRoom a b z
room_exists a b a_up b_up =
    let divided = floored_exists a b (λ none. omega (arith, ints)) in
    elim (zero_or divided.rest) [
      | inl none ↦ (divided.quotient -ℤ pos 1, room_whole a b divided.quotient divided.rest (divided.quotient -ℤ pos 1) a_up b_up divided.floored none refl)
      | inr some ↦ (divided.quotient, room_part a b divided.quotient divided.rest a_up b_up divided.floored some)
    ]

-- what is left of a after b was taken z times
pub record AreLeft (a b z g : ℤ) : Type 0 where
  pub sum : a ≡ z *ℤ b +ℤ g
  pub some : pos 0 <ℤ g
  pub most : g ≤ℤ b

pub room_leaves : (a b z : ℤ) → IsRoom a b z → AreLeft a b z (a -ℤ b *ℤ z)
room_leaves a b z room =
    let left = room.left in
    let next = room.next in
    let turned : b *ℤ z ≡ z *ℤ b = *ℤ_comm b z in
    record { sum = omega (arith, ints); some = omega (arith, ints); most = omega (arith, ints) }

pub some_room : (a b z g : ℤ) → pos 0 <ℤ b → b <ℤ a → AreLeft a b z g → pos 1 ≤ℤ z
some_room a (negsuc b) z g b_up less is = absurd (omega (arith, ints))
some_room a (pos b) (pos zero) g b_up less is = absurd (let sum = is.sum in let most = is.most in omega (arith, ints))
some_room a (pos b) (pos (suc z)) g b_up less is = omega (arith, ints)
some_room a (pos b) (negsuc z) g b_up less is = absurd (let sum = is.sum in let most = is.most in omega (arith, ints))

even_with : (n d : ℤ) → pos 0 ≤ℤ d → d <ℤ n → ((g : ℤ) → pos 0 <ℤ g → g ≤ℤ d → HasOddList d g) → HasEvenList n d
even_with n d d_up less next = elim (zero_or d) [
  | inl none ↦ record { list = []; is = none_even n d none; first = tt }
  | inr nonzero ↦
      let some : pos 0 <ℤ d = above n d d_up nonzero in
      let room = room_exists n d (omega (arith, ints)) some in
      let left = room_leaves n d room.0 room.1 in
      let behind = next (n -ℤ d *ℤ room.0) left.some left.most in
      record {
        list = room.0 ∷ behind.list;
        is = even_before n d room.0 (n -ℤ d *ℤ room.0) behind.list left.sum behind.first behind.is;
        first = some_room n d room.0 (n -ℤ d *ℤ room.0) some less left;
      }
]
  where
    above : (n d : ℤ) → pos 0 ≤ℤ d → d ≢ pos 0 → pos 0 <ℤ d
    above n d up nonzero = grind (arith, ints)

odd_below : (k : ℕ) (n d : ℤ) → unsigned_abs d < k → pos 0 <ℤ d → d ≤ℤ n → HasOddList n d
odd_below zero n d below d_up less = absurd (omega arith)
odd_below (suc k) n d below d_up less =
    odd_with n d d_up less (λ r r_up r_less. even_with d r r_up r_less (λ g g_up g_most. odd_below k r g (smaller d r g k below r_less g_up g_most) g_up g_most))
  where
    smaller : (d r g : ℤ) (k : ℕ) → unsigned_abs d < suc k → r <ℤ d → pos 0 <ℤ g → g ≤ℤ r → unsigned_abs g < k
    smaller d r g k below less up most = omega (arith, ints)

-- d is above 0, and n/d at least 1
pub odd_exists : (n d : ℤ) → pos 0 <ℤ d → d ≤ℤ n → HasOddList n d
odd_exists n d d_up less = odd_below (suc (unsigned_abs d)) n d (omega arith) d_up less

-- n/d is above 1, or 1/0
pub even_exists : (n d : ℤ) → pos 0 ≤ℤ d → d <ℤ n → HasEvenList n d
even_exists n d d_up less = even_with n d d_up less (λ g g_up g_most. odd_exists d g g_up g_most)
