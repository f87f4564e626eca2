-- A fraction has one list of quotients with an odd number of them, and one with an even number. So the counts of a search are the only ones.
use Rattle.std.specs.Prelude.{◌≡◌, ◌≢◌, ◌+◌, ◌*◌, ◌≤ℤ◌, ◌<ℤ◌, ◌+ℤ◌, ◌-ℤ◌, ◌*ℤ◌, ℕ, ℤ, zero, suc, pos, List, [], ◌∷◌, length}
use Rattle.std.proofs.Common.{◌∙◌, refl, sym, ap, subst, arith}
use Rattle.std.proofs.lemmas.Int.{ints}
use lib.IntN.{*ℤ_comm}
use Rattle.ratio_integer.specs.Fraction.{SameValue}
use Rattle.ratio_integer.proofs.Whole.{add-mul, mul_assoc}
use Rattle.ratio_core.proofs.ProductOrder.{less-times, times_le, whole_at_most}
use Rattle.ratio_approximation.specs.FromQuotients.{AreAboveZero, fraction_of}
use Rattle.ratio_approximation.specs.SearchCount.{IsContinuedFraction, OneSearchCount, common_start, count_without_one, one_ends}
use Rattle.ratio_approximation.proofs.FromQuotientsLemmas.{sizes}
use Rattle.ratio_approximation.proofs.QuotientLists.{AreFloors, AreLater, AreLeft, IsEvenList, IsOddList}

-- ---- the rest behind a first quotient

rest_value : (n d p r a b : ℤ) → n ≡ p *ℤ d +ℤ r → SameValue n d (p *ℤ a +ℤ b) a → r *ℤ a ≡ b *ℤ d
rest_value n d p r a b sum same =
    let first : n *ℤ a ≡ (p *ℤ d) *ℤ a +ℤ r *ℤ a = ap (λ (t : ℤ). t *ℤ a) sum ∙ add-mul (p *ℤ d) r a in
    let second : (p *ℤ a +ℤ b) *ℤ d ≡ (p *ℤ a) *ℤ d +ℤ b *ℤ d = add-mul (p *ℤ a) b d in
    let whole : (p *ℤ d) *ℤ a ≡ (p *ℤ a) *ℤ d = mul_assoc p d a ∙ ap (λ (t : ℤ). p *ℤ t) (*ℤ_comm d a) ∙ sym (mul_assoc p a d) in
    let both : (p *ℤ d) *ℤ a +ℤ r *ℤ a ≡ (p *ℤ a) *ℤ d +ℤ b *ℤ d = sym first ∙ same ∙ second in
    same_rest ((p *ℤ d) *ℤ a) (r *ℤ a) ((p *ℤ a) *ℤ d) (b *ℤ d) whole both
  where
    same_rest : (x y z w : ℤ) → x ≡ z → x +ℤ y ≡ z +ℤ w → y ≡ w
    same_rest x y z w first both = omega (arith, ints)

-- order is kept when a positive factor is taken away
at_most_by : (x y a : ℤ) → pos 0 <ℤ a → (x *ℤ a) ≤ℤ (y *ℤ a) → x ≤ℤ y
at_most_by x y a up less = whole_at_most x y a up (omega (arith, ints))

below_by : (x y a : ℤ) → pos 0 <ℤ a → (x *ℤ a) <ℤ (y *ℤ a) → x <ℤ y
below_by x y a up less =
    let one : (y -ℤ pos 1) *ℤ a ≡ y *ℤ a -ℤ a = less-times y a in
    let most : x ≤ℤ (y -ℤ pos 1) = whole_at_most x (y -ℤ pos 1) a up (omega (arith, ints)) in
    omega (arith, ints)

product_up : (x y : ℤ) → pos 0 ≤ℤ x → pos 0 <ℤ y → pos 0 ≤ℤ (x *ℤ y)
product_up x y x_up y_up = (let more : (pos 0 *ℤ y) ≤ℤ (x *ℤ y) = times_le (pos 0) x y x_up (omega (arith, ints)) in omega (arith, ints))

product_some : (x y : ℤ) → pos 0 <ℤ x → pos 0 <ℤ y → pos 0 <ℤ (x *ℤ y)
product_some x y x_up y_up = (let more : (pos 1 *ℤ y) ≤ℤ (x *ℤ y) = times_le (pos 1) x y (omega (arith, ints)) (omega (arith, ints)) in omega (arith, ints))

product_below : (x y z : ℤ) → x <ℤ y → pos 0 <ℤ z → (x *ℤ z) <ℤ (y *ℤ z)
product_below x y z less up =
    let most : (x *ℤ z) ≤ℤ ((y -ℤ pos 1) *ℤ z) = times_le x (y -ℤ pos 1) z (omega (arith, ints)) (omega (arith, ints)) in
    let one : (y -ℤ pos 1) *ℤ z ≡ y *ℤ z -ℤ z = less-times y z in
    omega (arith, ints)

later_of : (qs : List ℤ) → AreAboveZero qs → AreLater qs
later_of [] up = tt
later_of (q ∷ qs) up = up.1

-- an even number of quotients gives a fraction above 1
strict : (qs : List ℤ) (i : ℕ) → AreAboveZero qs → length qs ≡ 2 * i → (fraction_of qs).1 <ℤ (fraction_of qs).0
strict [] i up even = omega (arith, ints)
strict (q ∷ []) i up even = absurd (omega arith)
strict (q ∷ p ∷ qs) i up even = above q (fraction_of (p ∷ qs)).0 (fraction_of qs).0 up.0 (sizes (p ∷ qs) up.1).above (sizes qs up.1.1).above
  where
    above : (q a b : ℤ) → pos 1 ≤ℤ q → pos 0 <ℤ a → pos 0 <ℤ b → a <ℤ (q *ℤ a +ℤ b)
    above q a b q_up a_up b_up = (let more : (pos 1 *ℤ a) ≤ℤ (q *ℤ a) = times_le (pos 1) q a q_up (omega (arith, ints)) in omega (arith, ints))

-- the denominator is above 0, if there is a quotient
some_denominator : (q : ℤ) (qs : List ℤ) → AreAboveZero (q ∷ qs) → pos 0 <ℤ (fraction_of (q ∷ qs)).1
some_denominator q qs up = (sizes qs up.1).above

turned : (d r a b : ℤ) → r *ℤ a ≡ b *ℤ d → SameValue d r a b
turned d r a b same = *ℤ_comm d b ∙ sym same ∙ *ℤ_comm r a

module _ (n d p : ℤ) (ps : List ℤ) (d_up : pos 0 <ℤ d) where
  pub rest_of_odd : (r : ℤ) → n ≡ p *ℤ d +ℤ r → IsOddList n d (p ∷ ps) → AreFloors n d p r × IsEvenList d r ps
  rest_of_odd r sum is =
      let size = sizes ps is.later in
      let same : r *ℤ (fraction_of ps).0 ≡ (fraction_of ps).1 *ℤ d = rest_value n d p r (fraction_of ps).0 (fraction_of ps).1 sum is.value in
      let odd = is.odd.1 in
      let even : length ps ≡ 2 * is.odd.0 = omega arith in
      let up : pos 0 ≤ℤ ((fraction_of ps).1 *ℤ d) = product_up (fraction_of ps).1 d size.denom_above d_up in
      let less : ((fraction_of ps).1 *ℤ d) <ℤ ((fraction_of ps).0 *ℤ d) = product_below (fraction_of ps).1 (fraction_of ps).0 d (strict ps is.odd.0 is.later even) d_up in
      let around : (fraction_of ps).0 *ℤ d ≡ d *ℤ (fraction_of ps).0 = *ℤ_comm (fraction_of ps).0 d in (
        record {
          sum = sum;
          rest_up = at_most_by (pos 0) r (fraction_of ps).0 size.above (omega (arith, ints));
          rest_less = below_by r d (fraction_of ps).0 size.above (omega (arith, ints));
        },
        record { later = later_of ps is.later; value = turned d r (fraction_of ps).0 (fraction_of ps).1 same; even = (is.odd.0, even) },
      )

  pub rest_of_even : (r : ℤ) → n ≡ p *ℤ d +ℤ r → IsEvenList n d (p ∷ ps) → AreLeft n d p r × IsOddList d r ps
  rest_of_even r sum is = by ps is.later is.value is.even.0 is.even.1
    where
      by : (ps : List ℤ) → AreAboveZero ps → SameValue n d (p *ℤ (fraction_of ps).0 +ℤ (fraction_of ps).1) (fraction_of ps).0 → (i : ℕ) → length (p ∷ ps) ≡ 2 * i → AreLeft n d p r × IsOddList d r ps
      by [] later value i even = absurd (omega arith)
      by (q ∷ qs) later value zero even = absurd (omega arith)
      by (q ∷ qs) later value (suc i) even =
          let size = sizes (q ∷ qs) later in
          let same : r *ℤ (fraction_of (q ∷ qs)).0 ≡ (fraction_of (q ∷ qs)).1 *ℤ d = rest_value n d p r (fraction_of (q ∷ qs)).0 (fraction_of (q ∷ qs)).1 sum value in
          let up : pos 0 <ℤ ((fraction_of (q ∷ qs)).1 *ℤ d) = product_some (fraction_of (q ∷ qs)).1 d (some_denominator q qs later) d_up in
          let less : ((fraction_of (q ∷ qs)).1 *ℤ d) ≤ℤ ((fraction_of (q ∷ qs)).0 *ℤ d) = times_le (fraction_of (q ∷ qs)).1 (fraction_of (q ∷ qs)).0 d size.at_most (omega (arith, ints)) in
          let around : (fraction_of (q ∷ qs)).0 *ℤ d ≡ d *ℤ (fraction_of (q ∷ qs)).0 = *ℤ_comm (fraction_of (q ∷ qs)).0 d in (
            record {
              sum = sum;
              some = below_by (pos 0) r (fraction_of (q ∷ qs)).0 size.above (omega (arith, ints));
              most = at_most_by r d (fraction_of (q ∷ qs)).0 size.above (omega (arith, ints));
            },
            record { later = later.1; value = turned d r (fraction_of (q ∷ qs)).0 (fraction_of (q ∷ qs)).1 same; odd = (i, omega arith) },
          )

sum_of : (n d p : ℤ) → n ≡ p *ℤ d +ℤ (n -ℤ p *ℤ d)
sum_of n d p = omega (arith, ints)

-- only one quotient leaves such a rest
one_quotient : (n d p r q s : ℤ) → pos 0 <ℤ d → n ≡ p *ℤ d +ℤ r → n ≡ q *ℤ d +ℤ s → (s -ℤ r) <ℤ d → (r -ℤ s) <ℤ d → p ≡ q
one_quotient n d p r q s up first second less more =
    let a : p ≤ℤ q = whole_at_most p q d up (omega (arith, ints)) in
    let b : q ≤ℤ p = whole_at_most q p d up (omega (arith, ints)) in
    omega (arith, ints)

one_rest : (n d p r q s : ℤ) → n ≡ p *ℤ d +ℤ r → n ≡ q *ℤ d +ℤ s → p ≡ q → r ≡ s
one_rest n d p r q s first second same = (let equal : p *ℤ d ≡ q *ℤ d = ap (λ (t : ℤ). t *ℤ d) same in omega (arith, ints))

one_floor : {n d p r q s : ℤ} → pos 0 <ℤ d → AreFloors n d p r → AreFloors n d q s → (p ≡ q) × (r ≡ s)
one_floor {n} {d} {p} {r} {q} {s} up a b =
    let u = a.rest_up in
    let v = a.rest_less in
    let w = b.rest_up in
    let x = b.rest_less in
    let same : p ≡ q = one_quotient n d p r q s up a.sum b.sum (omega (arith, ints)) (omega (arith, ints)) in
    (same, one_rest n d p r q s a.sum b.sum same)

one_left : {n d p r q s : ℤ} → pos 0 <ℤ d → AreLeft n d p r → AreLeft n d q s → (p ≡ q) × (r ≡ s)
one_left {n} {d} {p} {r} {q} {s} up a b =
    let u = a.some in
    let v = a.most in
    let w = b.some in
    let x = b.most in
    let same : p ≡ q = one_quotient n d p r q s up a.sum b.sum (omega (arith, ints)) (omega (arith, ints)) in
    (same, one_rest n d p r q s a.sum b.sum same)

none_left : (d r : ℤ) → IsEvenList d r [] → r ≡ pos 0
none_left d r is = (let value = is.value in omega (arith, ints))

some_left : (d r q : ℤ) (qs : List ℤ) → pos 0 <ℤ d → IsEvenList d r (q ∷ qs) → r ≢ pos 0
some_left d r q qs d_up is none =
    let up : pos 0 <ℤ (d *ℤ (fraction_of qs).0) = product_some d (fraction_of qs).0 d_up (sizes qs is.later).above in
    let value : d *ℤ (fraction_of qs).0 ≡ (fraction_of (q ∷ qs)).0 *ℤ r = is.value in
    let zero-is : (fraction_of (q ∷ qs)).0 *ℤ r ≡ (fraction_of (q ∷ qs)).0 *ℤ pos 0 = ap (λ (t : ℤ). (fraction_of (q ∷ qs)).0 *ℤ t) none in
    omega (arith, ints)

-- ---- one list of each kind

same_list : {p q : ℤ} {ps qs : List ℤ} → p ≡ q → ps ≡ qs → p ∷ ps ≡ q ∷ qs
same_list {p} {q} {ps} {qs} first others = ap (λ (t : ℤ). t ∷ ps) first ∙ ap (λ (l : List ℤ). q ∷ l) others

above : (r : ℤ) → pos 0 ≤ℤ r → r ≢ pos 0 → pos 0 <ℤ r
above r up some = grind (arith, ints)

pub odd_same : (ps qs : List ℤ) (n d : ℤ) → pos 0 <ℤ d → IsOddList n d ps → IsOddList n d qs → ps ≡ qs
odd_same [] qs n d d_up first second = absurd (let odd = first.odd.1 in omega arith)
odd_same (p ∷ ps) [] n d d_up first second = absurd (let odd = second.odd.1 in omega arith)
odd_same (p ∷ []) (q ∷ []) n d d_up first second =
    let a = rest_of_odd n d p [] d_up (n -ℤ p *ℤ d) (sum_of n d p) first in
    let b = rest_of_odd n d q [] d_up (n -ℤ q *ℤ d) (sum_of n d q) second in
    same_list (one_floor d_up a.0 b.0).0 refl
odd_same (p ∷ []) (q ∷ q' ∷ qs) n d d_up first second =
    let a = rest_of_odd n d p [] d_up (n -ℤ p *ℤ d) (sum_of n d p) first in
    let b = rest_of_odd n d q (q' ∷ qs) d_up (n -ℤ q *ℤ d) (sum_of n d q) second in
    absurd (some_left d (n -ℤ q *ℤ d) q' qs d_up b.1 (sym (one_floor d_up a.0 b.0).1 ∙ none_left d (n -ℤ p *ℤ d) a.1))
odd_same (p ∷ p' ∷ ps) (q ∷ []) n d d_up first second =
    let a = rest_of_odd n d p (p' ∷ ps) d_up (n -ℤ p *ℤ d) (sum_of n d p) first in
    let b = rest_of_odd n d q [] d_up (n -ℤ q *ℤ d) (sum_of n d q) second in
    absurd (some_left d (n -ℤ p *ℤ d) p' ps d_up a.1 ((one_floor d_up a.0 b.0).1 ∙ none_left d (n -ℤ q *ℤ d) b.1))
odd_same (p ∷ p' ∷ ps) (q ∷ q' ∷ qs) n d d_up first second =
    let r = n -ℤ p *ℤ d in
    let a = rest_of_odd n d p (p' ∷ ps) d_up r (sum_of n d p) first in
    let b = rest_of_odd n d q (q' ∷ qs) d_up (n -ℤ q *ℤ d) (sum_of n d q) second in
    let same = one_floor d_up a.0 b.0 in
    let r_up = above r a.0.rest_up (some_left d r p' ps d_up a.1) in
    let other : IsEvenList d r (q' ∷ qs) = subst (λ (t : ℤ). IsEvenList d t (q' ∷ qs)) (sym same.1) b.1 in
    let g = d -ℤ p' *ℤ r in
    let a' = rest_of_even d r p' ps r_up g (sum_of d r p') a.1 in
    let b' = rest_of_even d r q' qs r_up (d -ℤ q' *ℤ r) (sum_of d r q') other in
    let same' = one_left r_up a'.0 b'.0 in
    same_list same.0 (same_list same'.0 (odd_same ps qs r g a'.0.some a'.1 (subst (λ (t : ℤ). IsOddList r t qs) (sym same'.1) b'.1)))

pub even_same : (p q : ℤ) (ps qs : List ℤ) (n d : ℤ) → pos 0 <ℤ d → IsEvenList n d (p ∷ ps) → IsEvenList n d (q ∷ qs) → p ∷ ps ≡ q ∷ qs
even_same p q ps qs n d d_up first second =
    let g = n -ℤ p *ℤ d in
    let a = rest_of_even n d p ps d_up g (sum_of n d p) first in
    let b = rest_of_even n d q qs d_up (n -ℤ q *ℤ d) (sum_of n d q) second in
    let same = one_left d_up a.0 b.0 in
    same_list same.0 (odd_same ps qs d g a.0.some a.1 (subst (λ (t : ℤ). IsOddList d t qs) (sym same.1) b.1))

-- ---- one pair of counts

low_same : (n d : ℤ) (ps qs : List ℤ) → pos 0 <ℤ d → IsContinuedFraction n d ps → IsContinuedFraction n d qs → (i : ℕ) × (length ps ≡ 2 * i + 1) → (i : ℕ) × (length qs ≡ 2 * i + 1) → ps ≡ qs
low_same n d [] qs d_up first second odd odd' = absurd first.are
low_same n d (p ∷ ps) [] d_up first second odd odd' = absurd second.are
low_same n d (p ∷ ps) (q ∷ qs) d_up first second odd odd' =
    odd_same (p ∷ ps) (q ∷ qs) n d d_up (record { later = first.are; value = first.value; odd = odd }) (record { later = second.are; value = second.value; odd = odd' })

high_same : (n d : ℤ) (ps qs : List ℤ) → pos 0 <ℤ d → IsContinuedFraction n d ps → IsContinuedFraction n d qs → (i : ℕ) × (length ps ≡ 2 * i) → (i : ℕ) × (length qs ≡ 2 * i) → ps ≡ qs
high_same n d [] qs d_up first second even even' = absurd first.are
high_same n d (p ∷ ps) [] d_up first second even even' = absurd second.are
high_same n d (p ∷ ps) (q ∷ qs) d_up first second even even' =
    even_same p q ps qs n d d_up (record { later = first.are; value = first.value; even = even }) (record { later = second.are; value = second.value; even = even' })

pub counts_same : OneSearchCount
counts_same n d m e left right left' right' d_up e_up first second =
    let low = low_same n d first.low second.low d_up first.low_are second.low_are first.low_odd second.low_odd in
    let high = high_same m e first.high second.high e_up first.high_are second.high_are first.high_even second.high_even in
    let same_left : left ≡ left' = first.left_is ∙ ap (λ (l : List ℤ). 1 + count_without_one (common_start l first.high)) low ∙ ap (λ (l : List ℤ). 1 + count_without_one (common_start second.low l)) high ∙ sym second.left_is in
    let ends : one_ends first.low first.high ≡ one_ends second.low second.high = ap (λ (l : List ℤ). one_ends l first.high) low ∙ ap (one_ends second.low) high in
    let a = first.right_is in
    let b = second.right_is in
    (same_left, omega arith)
