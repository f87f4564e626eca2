-- What the functions of calls give of fractions.
use Rattle.std.proofs.Common.{◌≡◌, ◌≢◌, ◌∙◌, ◌<◌, ◌≤◌, ◌+◌, ◌⊎◌, ℕ, ℤ, pos, true, false, List, length, get_or, map, refl, sym, subst, ap, arith, ⊎_elim}
use Rattle.std.specs.List.{All}
use Rattle.std.specs.Cmp.{IsTotalOrder}
use Rattle.std.specs.Bool.{◌==◌}
use Rattle.std.specs.Ordering.{ordering_index, ordering_reverse}
use Rattle.std.specs.declared.cmp.Ordering.{Ordering}
use Rattle.std.specs.declared.cmp.Ordering.TheVariants.{Less, Equal, Greater}
use Rattle.std.proofs.lemmas.List.{get_or_default, get_or-map, length-map}
use Rattle.std.proofs.lemmas.List.Elements.{All-map}
use Rattle.ratio_integer.specs.Fraction.{IsLowestTerms}
use Rattle.ratio_integer.proofs.Whole.{positive_nonzero}
use Rattle.ratio_core.specs.Order.{cross_cmp}
use Rattle.ratio_core.proofs.OrderLaws.{cross_reflexive, cross_total}
use Rattle.ratio_big.specs.Fractions.{big_numbers}
use Rattle.ratio_big.specs.declared.fraction.BigFraction.{BigFraction}
use Rattle.ratio_expressions.specs.Functions.{IsExtreme}

-- fractions are in lowest terms
pub all_lowest : (xs : List BigFraction) → All (λ (x : ℤ × ℤ). IsLowestTerms x.0 x.1) (map big_numbers xs)
all_lowest xs = All-map (λ (x : ℤ × ℤ). IsLowestTerms x.0 x.1) big_numbers xs (λ k d within. let x : BigFraction = get_or xs k d in x.kept.lowest)

-- ---- the least and the greatest number

abbrev pub order : BigFraction → BigFraction → Ordering
order x y = cross_cmp (big_numbers x).0 (big_numbers x).1 (big_numbers y).0 (big_numbers y).1

nonzero : (x : BigFraction) → (big_numbers x).1 ≢ pos 0
nonzero x = positive_nonzero (big_numbers x).1 x.kept.lowest.positive

total : IsTotalOrder order
total = cross_total (λ (x : BigFraction). (big_numbers x).0) (λ x. (big_numbers x).1) nonzero

-- what `==` says of two orders
pub same_side : (a b : Ordering) → (ordering_index a == ordering_index b) ≡ true → a ≡ b
same_side Less Less e = refl
same_side Equal Equal e = refl
same_side Greater Greater e = refl
same_side a b e = absurd (cc)

pub other_side : (a b : Ordering) → (ordering_index a == ordering_index b) ≡ false → a ≢ b
other_side Less Less e same = cc
other_side Equal Equal e same = cc
other_side Greater Greater e same = cc
other_side a b e same = cc

not_beyond_itself : (side : Ordering) → side ≢ Equal → (x : BigFraction) → order x x ≢ side
not_beyond_itself side some x e = some (sym e ∙ cross_reflexive (big_numbers x).0 (big_numbers x).1 (nonzero x))

beyond_chained : (side : Ordering) → side ≢ Equal → (x y z : BigFraction) → order x y ≡ side → order y z ≡ side → order x z ≡ side
beyond_chained Less some x y z first second = total.trans x y z first second
beyond_chained Equal some x y z first second = absurd (some refl)
beyond_chained Greater some x y z first second =
    total.antisymm x z ∙ ap ordering_reverse (total.trans z y x (total.antisymm z y ∙ ap ordering_reverse second) (total.antisymm y x ∙ ap ordering_reverse first))

-- none of the first n fractions is beyond the one at a place
abbrev pub IsBest : Ordering → List BigFraction → ℕ → ℕ → Type 0
IsBest side xs n at = (k : ℕ) (d : BigFraction) → k < n → order (get_or xs k d) (get_or xs at d) ≢ side

pub best_first : (side : Ordering) → side ≢ Equal → (xs : List BigFraction) → IsBest side xs 1 0
best_first side some xs k d less =
    let first : k ≡ 0 = omega arith in
    subst (λ m. order (get_or xs m d) (get_or xs 0 d) ≢ side) (sym first) (not_beyond_itself side some (get_or xs 0 d))

before_or_here : (k n : ℕ) → k < n + 1 → (k < n) ⊎ (k ≡ n)
before_or_here k n less = grind arith

module _ (side : Ordering) (some : side ≢ Equal) (xs : List BigFraction) (n at : ℕ) (x y : BigFraction) (within : n < length xs) (earlier : at < length xs) (x_is : x ≡ get_or xs n x) (y_is : y ≡ get_or xs at y) (best : IsBest side xs n at) where
  here : (d : BigFraction) → order (get_or xs n d) (get_or xs at d) ≡ order x y
  here d = ap (λ a. order a (get_or xs at d)) (get_or_default xs n d x within ∙ sym x_is) ∙ ap (order x) (get_or_default xs at d y earlier ∙ sym y_is)

  pub best_kept : order x y ≢ side → IsBest side xs (n + 1) at
  best_kept other k d less =
      ⊎_elim
      (λ p. best k d p)
      (λ p. subst (λ m. order (get_or xs m d) (get_or xs at d) ≢ side) (sym p) (λ e. other (sym (here d) ∙ e)))
      (before_or_here k n less)

  pub best_taken : order x y ≡ side → IsBest side xs (n + 1) n
  best_taken beyond k d less =
      ⊎_elim
      (λ p e. best k d p (beyond_chained side some (get_or xs k d) (get_or xs n d) (get_or xs at d) e (here d ∙ beyond)))
      (λ p. subst (λ m. order (get_or xs m d) (get_or xs n d) ≢ side) (sym p) (not_beyond_itself side some (get_or xs n d)))
      (before_or_here k n less)

pub best_extreme : (side : Ordering) (xs : List BigFraction) (n at : ℕ) (x : BigFraction) (r : ℤ × ℤ) → at < length xs → x ≡ get_or xs at x → r ≡ big_numbers x → length xs ≤ n → IsBest side xs n at → IsExtreme side (map big_numbers xs) r
best_extreme side xs n at x r within x_is r_is past best =
    let item : (d : BigFraction) → big_numbers (get_or xs at d) ≡ r = λ d. ap big_numbers (get_or_default xs at d x within ∙ sym x_is) ∙ sym r_is in
    record {
      among = (at, subst (λ m. at < m) (sym (length-map xs big_numbers)) within, get_or-map big_numbers xs at x r within ∙ item x);
      beyond = All-map (λ (z : ℤ × ℤ). cross_cmp z.0 z.1 r.0 r.1 ≢ side) big_numbers xs
          (λ k d k_within. subst (λ (z : ℤ × ℤ). cross_cmp (big_numbers (get_or xs k d)).0 (big_numbers (get_or xs k d)).1 z.0 z.1 ≢ side) (item d) (best k d (omega (arith, past, k_within))));
    }
