-- The fraction with given quotients, from the last quotient on.
use Rattle.std.specs.Prelude.{◌≡◌, ◌≢◌, ◌<◌, ◌+◌, ◌≤ℤ◌, ◌<ℤ◌, ◌+ℤ◌, ◌*ℤ◌, ℕ, ℤ, zero, suc, pos, neg_ℤ, unsigned_abs, List, [], ◌∷◌, length, map, drop}
use Rattle.std.proofs.Common.{refl, sym, ap, subst, arith, get_or, inl, inr, ◌∙◌}
use Rattle.std.proofs.lemmas.Int.{ints}
use Rattle.std.proofs.lemmas.List.{drop-map, drop_all, drop_more}
use Rattle.ratio_integer.specs.Fraction.{IsLowestTerms}
use Rattle.ratio_integer.specs.Range.{IsHeld, IsRange}
use Rattle.ratio_integer.specs.Division.{IsFloored}
use Rattle.ratio_integer.proofs.CommonDivisors.{coprime_turned, divides_multiple, multiple_divides}
use Rattle.ratio_integer.proofs.DivisionLemmas.{low_below}
use Rattle.ratio_integer.proofs.LowestTerms.{over_one}
use Rattle.ratio_integer.proofs.Whole.{neg-mul}
use Rattle.ratio_core.specs.ContinuedFraction.{IsPartialQuotients}
use Rattle.ratio_approximation.specs.FromQuotients.{AreAboveZero, AreQuotients, HasFraction, fraction_of, plus_reciprocal}
use Rattle.ratio_core.proofs.Codes.{second_quotient}
use Rattle.ratio_core.proofs.KeptLowest.{multiple_sum}
use Rattle.ratio_core.proofs.ProductOrder.{times_le}

-- ---- the numbers of a fraction whose quotients are at least 1

pub record AreSizes (n d : ℤ) : Type 0 where
  pub above : pos 0 <ℤ n
  pub denom_above : pos 0 ≤ℤ d
  pub at_most : d ≤ℤ n

one_more : (q n d : ℤ) → pos 1 ≤ℤ q → AreSizes n d → AreSizes (q *ℤ n +ℤ d) n
one_more q n d up is =
    let a = is.above in
    let b = is.denom_above in
    let more : (pos 1 *ℤ n) ≤ℤ (q *ℤ n) = times_le (pos 1) q n up (omega (arith, ints)) in
    record { above = omega (arith, ints); denom_above = omega (arith, ints); at_most = omega (arith, ints) }

pub sizes : (qs : List ℤ) → AreAboveZero qs → AreSizes (fraction_of qs).0 (fraction_of qs).1
sizes [] up = record { above = omega (arith, ints); denom_above = omega (arith, ints); at_most = omega (arith, ints) }
sizes (q ∷ qs) up = one_more q (fraction_of qs).0 (fraction_of qs).1 up.0 (sizes qs up.1)

-- ---- the quotients from a place on

pub above_on : (i : ℕ) (qs : List ℤ) → AreAboveZero qs → AreAboveZero (drop i qs)
above_on zero qs up = up
above_on (suc i) [] up = up
above_on (suc i) (q ∷ qs) up = above_on i qs up.1

pub numer_on : (i : ℕ) (qs : List ℤ) → AreAboveZero qs → (fraction_of (drop i qs)).0 ≤ℤ (fraction_of qs).0
numer_on zero qs up = omega (arith, ints)
numer_on (suc i) [] up = omega (arith, ints)
numer_on (suc i) (q ∷ qs) up =
    let more = (sizes (q ∷ qs) up).at_most in
    let rest : (fraction_of (drop i qs)).0 ≤ℤ (fraction_of qs).0 = numer_on i qs up.1 in
    omega (arith, ints)

pub mapped_drop : {A : Type 0} (v : A → ℤ) (xs : List A) (i : ℕ) (d : A) → i < length xs → drop i (map v xs) ≡ v (get_or xs i d) ∷ drop (i + 1) (map v xs)
mapped_drop v xs i d less = drop-map v i xs ∙ ap (map v) (drop_more xs i d less) ∙ ap (λ (l : List ℤ). v (get_or xs i d) ∷ l) (sym (drop-map v (i + 1) xs))

-- n/d is the fraction with the quotients from the place i on
pub record IsFrom (qs : List ℤ) (i : ℕ) (n d : ℤ) : Type 0 where
  pub above : AreAboveZero (drop i qs)
  pub numer : n ≡ (fraction_of (drop i qs)).0
  pub denom : d ≡ (fraction_of (drop i qs)).1

from_sizes : (qs : List ℤ) (i : ℕ) (n d : ℤ) → IsFrom qs i n d → AreSizes n d
from_sizes qs i n d is = rw (is.numer, is.denom) (sizes (drop i qs) is.above)

pub numer_above : {qs : List ℤ} {i : ℕ} {n d : ℤ} → IsFrom qs i n d → pos 0 ≤ℤ d
numer_above {qs} {i} {n} {d} is = (from_sizes qs i n d is).denom_above

pub numer_at_most : {qs : List ℤ} {i : ℕ} {n d : ℤ} → IsFrom qs i n d → d ≤ℤ n
numer_at_most {qs} {i} {n} {d} is = (from_sizes qs i n d is).at_most

pub from_none : {A : Type 0} (v : A → ℤ) (xs : List A) (n d : ℤ) → n ≡ pos 1 → d ≡ pos 0 → IsFrom (map v xs) (length xs) n d
from_none v xs n d one nought =
    let none : drop (length xs) (map v xs) ≡ [] = drop-map v (length xs) xs ∙ ap (map v) (drop_all (length xs) xs (omega arith)) in
    record {
      above = subst AreAboveZero (sym none) tt;
      numer = one ∙ ap (λ (l : List ℤ). (fraction_of l).0) (sym none);
      denom = nought ∙ ap (λ (l : List ℤ). (fraction_of l).1) (sym none);
    }

module _ {A : Type 0} (v : A → ℤ) (xs : List A) (i : ℕ) (x : A) (less : i < length xs) (x-is : x ≡ get_or xs i x) where
  here : drop i (map v xs) ≡ v x ∷ drop (i + 1) (map v xs)
  here = mapped_drop v xs i x less ∙ ap (λ (y : A). v y ∷ drop (i + 1) (map v xs)) (sym x-is)

  pub quotient_refused : (lo hi : ℤ) → ¬ (pos 0 <ℤ v x) → ¬ (AreAboveZero (map v xs) × IsHeld lo hi (fraction_of (map v xs)).0)
  quotient_refused lo hi low has =
      let up : AreAboveZero (v x ∷ drop (i + 1) (map v xs)) = subst AreAboveZero here (above_on i (map v xs) has.0) in
      let a = up.0 in
      low (omega (arith, ints))

  module _ (n d : ℤ) (is : IsFrom (map v xs) (i + 1) n d) where
    next-is : (fraction_of (drop i (map v xs))).0 ≡ v x *ℤ n +ℤ d
    next-is =
        ap (λ (l : List ℤ). (fraction_of l).0) here
        ∙ ap (λ (t : ℤ). v x *ℤ t +ℤ (fraction_of (drop (i + 1) (map v xs))).1) (sym is.numer)
        ∙ ap (λ (t : ℤ). v x *ℤ n +ℤ t) (sym is.denom)

    pub next_refused : (lo hi : ℤ) → IsRange lo hi → ¬ (IsHeld lo hi (v x *ℤ n +ℤ d)) → ¬ (AreAboveZero (map v xs) × IsHeld lo hi (fraction_of (map v xs)).0)
    next_refused lo hi range out has =
        let a = (sizes (drop i (map v xs)) (above_on i (map v xs) has.0)).above in
        let b = numer_on i (map v xs) has.0 in
        let c = has.1.below in
        let low = low_below lo hi range in
        out (subst (IsHeld lo hi) next-is (record { above = omega (arith, ints); below = omega (arith, ints) }))

    pub from_more : (m : ℤ) → pos 0 <ℤ v x → m ≡ v x *ℤ n +ℤ d → IsFrom (map v xs) i m n
    from_more m up m-is = record {
      above = subst AreAboveZero (sym here) (omega (arith, ints), is.above);
      numer = m-is ∙ sym next-is;
      denom = is.numer ∙ ap (λ (l : List ℤ). (fraction_of l).1) (sym here);
    }

-- ---- with the first quotient

pub later_sizes : (qs : List ℤ) (n d : ℤ) → AreAboveZero qs → n ≡ (fraction_of qs).0 → d ≡ (fraction_of qs).1 → AreSizes n d
later_sizes qs n d up n-is d-is = rw (n-is, d-is) (sizes qs up)

pub first_fraction : (lo hi q n d m : ℤ) (qs : List ℤ) → AreAboveZero qs → n ≡ (fraction_of qs).0 → d ≡ (fraction_of qs).1 → IsHeld lo hi n → IsHeld lo hi (q *ℤ n +ℤ d) → m ≡ q *ℤ n +ℤ d → HasFraction lo hi (q ∷ qs) × (m ≡ (fraction_of (q ∷ qs)).0) × (n ≡ (fraction_of (q ∷ qs)).1)
first_fraction lo hi q n d m qs up n-is d-is n_held held m-is =
    let same : q *ℤ n +ℤ d ≡ (fraction_of (q ∷ qs)).0 = ap (λ (t : ℤ). q *ℤ t +ℤ d) n-is ∙ ap (λ (t : ℤ). q *ℤ (fraction_of qs).0 +ℤ t) d-is in
    (record { quotients = up; numer_held = subst (IsHeld lo hi) same held; denom_held = subst (IsHeld lo hi) n-is n_held }, m-is ∙ same, n-is)

pub first_refused : (lo hi q : ℤ) (qs : List ℤ) → ¬ (AreAboveZero qs × IsHeld lo hi (fraction_of qs).0) → ¬ (HasFraction lo hi (q ∷ qs))
first_refused lo hi q qs out has = out (has.quotients, has.denom_held)

-- ---- lowest terms

-- a whole number plus a fraction in lowest terms is in lowest terms
pub sum_lowest : (w d f : ℤ) → IsLowestTerms f d → IsLowestTerms (w *ℤ d +ℤ f) d
sum_lowest w d f lowest = record {
  positive = lowest.positive;
  only_one = λ k p q. lowest.only_one k
      (multiple_divides f (pos k) (multiple_sum (neg_ℤ w) d (w *ℤ d +ℤ f) f (pos k) (divides_multiple d (pos k) q) (divides_multiple (w *ℤ d +ℤ f) (pos k) p)
      (let turned : neg_ℤ w *ℤ d ≡ neg_ℤ (w *ℤ d) = neg-mul w d in omega (arith, ints)))) q;
}

later_lowest : (qs : List ℤ) → AreAboveZero qs → IsLowestTerms (fraction_of qs).1 (fraction_of qs).0
later_lowest [] up = over_one (pos 0) (pos 1) refl
later_lowest (q ∷ qs) up = record {
  positive = (sizes (q ∷ qs) up).above;
  only_one = coprime_turned _ _ (sum_lowest q (fraction_of qs).0 (fraction_of qs).1 (later_lowest qs up.1)).only_one;
}

pub fraction_lowest : (qs : List ℤ) → AreQuotients qs → IsLowestTerms (fraction_of qs).0 (fraction_of qs).1
fraction_lowest [] is = absurd is
fraction_lowest (q ∷ qs) is = sum_lowest q (fraction_of qs).0 (fraction_of qs).1 (later_lowest qs is)

pub has_lowest : (lo hi : ℤ) (qs : List ℤ) (n d : ℤ) → HasFraction lo hi qs → n ≡ (fraction_of qs).0 → d ≡ (fraction_of qs).1 → IsLowestTerms n d
has_lowest lo hi qs n d has n-is d-is = rw (n-is, d-is) (fraction_lowest qs has.quotients)

-- ---- the quotients of a fraction in lowest terms give it back

-- if d is 1, n/d is n; else d is the numerator of the fraction with the later quotients
later_quotients : (n d q r : ℤ) (qs : List ℤ) → IsFloored n d q r → r ≢ pos 0 → pos 0 <ℤ d → IsPartialQuotients d r qs → pos 0 <ℤ r × AreAboveZero qs
later_quotients n d q r [] floored left up is = absurd is
later_quotients n d q r (p ∷ ps) floored left up is =
    let rest = floored.rest in
    let r_up : pos 0 <ℤ r = grind (arith, ints) in
    let first : pos 1 ≤ℤ p = second_quotient n d q r p is.0 floored left is.1 in (
      r_up,
      (
        first,
        elim is.2 [
          | inl ends ↦ subst AreAboveZero (sym ends.1) tt
          | inr on ↦ (later_quotients d r p is.0 ps is.1 on.0 r_up on.1).1
        ],
      ),
    )

pub quotients_are : (n d : ℤ) (qs : List ℤ) → pos 0 <ℤ d → IsPartialQuotients n d qs → AreQuotients qs
quotients_are n d [] up is = absurd is
quotients_are n d (q ∷ qs) up is = elim is.2 [
  | inl ends ↦ subst AreAboveZero (sym ends.1) tt
  | inr on ↦ (later_quotients n d q is.0 qs is.1 on.0 up on.1).1
]

-- if d divides n, it is 1
alone : (n d q r : ℤ) → IsLowestTerms n d → IsFloored n d q r → r ≡ pos 0 → fraction_of (q ∷ []) ≡ (n, d)
alone n d q r lowest floored ends =
    let sum = floored.sum in
    let exact : n ≡ q *ℤ d = omega (arith, ints) in
    let one : unsigned_abs d ≡ 1 = lowest.only_one (unsigned_abs d) (multiple_divides n d (q, exact)) (multiple_divides d d (pos 1, omega (arith, ints))) in
    let up = lowest.positive in
    let d-is : d ≡ pos 1 = omega (arith, ints) in
    let same : q *ℤ d ≡ q *ℤ pos 1 = ap (λ (t : ℤ). q *ℤ t) d-is in
    let n-is : q *ℤ pos 1 +ℤ pos 0 ≡ n = omega (arith, ints) in
    ap (λ (t : ℤ). (t, pos 1)) n-is ∙ ap (λ (t : ℤ). (n, t)) (sym d-is)

-- the rest of a division, under the divisor
rest_lowest : (n d q r : ℤ) → IsLowestTerms n d → IsFloored n d q r → r ≢ pos 0 → IsLowestTerms d r
rest_lowest n d q r lowest floored left =
    let sum = floored.sum in
    let rest = floored.rest in
    let up = lowest.positive in
    let turned : neg_ℤ q *ℤ d ≡ neg_ℤ (q *ℤ d) = neg-mul q d in
    let r-is : neg_ℤ q *ℤ d +ℤ n ≡ r = omega (arith, ints) in
    let low : IsLowestTerms r d = subst (λ (z : ℤ). IsLowestTerms z d) r-is (sum_lowest (neg_ℤ q) d n lowest) in
    record { positive = grind (arith, ints); only_one = coprime_turned _ _ low.only_one }

fraction_back : (n d : ℤ) (qs : List ℤ) → IsLowestTerms n d → IsPartialQuotients n d qs → fraction_of qs ≡ (n, d)
fraction_back n d [] lowest is = absurd is
fraction_back n d (q ∷ qs) lowest is = elim is.2 [
  | inl ends ↦ ap (λ (l : List ℤ). fraction_of (q ∷ l)) ends.1 ∙ alone n d q is.0 lowest is.1 ends.0
  | inr on ↦ ap (plus_reciprocal q) (fraction_back d is.0 qs (rest_lowest n d q is.0 lowest is.1 on.0) on.1) ∙ ap (λ (t : ℤ). (t, d)) (sym is.1.sum)
]

pub quotients_give_back : (n d : ℤ) (qs : List ℤ) → IsLowestTerms n d → IsPartialQuotients n d qs → AreQuotients qs × (fraction_of qs ≡ (n, d))
quotients_give_back n d qs lowest is = (quotients_are n d qs lowest.positive is, fraction_back n d qs lowest is)
