-- Sums and products that a loop forms over a list, and half the sum of two fractions.
use Rattle.std.specs.Prelude.{◌≡◌, ◌+◌, ◌<◌, ◌<ℤ◌, ℕ, ℤ, pos, true, List, length, take, Option, None, Some}
use Rattle.std.proofs.Common.{arith, get_or, refl, subst, sym}
use Rattle.std.proofs.lemmas.Int.{ints}
use Rattle.ratio_integer.specs.Arithmetic.{quotient_of}
use Rattle.ratio_integer.specs.Fraction.{ChecksLowest, IsHeldLowest}
use Rattle.ratio_integer.specs.SignedBits.{greatest64, least64}
use Rattle.ratio_core.specs.Laws.{IsProduct, IsSum}
use Rattle.ratio_core.proofs.SumLemmas.{fits_by}
use Rattle.num_rational.specs.Folds.{ArePositive, ChecksExactSumOf, ChecksProductOf}
use Rattle.num_rational.specs.In64Bits.{ChecksMean, sum_of_two}
use Rattle.num_rational.specs.Operators.{CanAdd, CanMultiply, ChecksExactSum, ChecksProduct, numbers}
use Rattle.num_rational.specs.Ratio.{denominator, numerator}
use Rattle.num_rational.specs.Reduced.{lowest_numbers, ratio_in, ratio_of}
use Rattle.num_rational.specs.declared.ratio.Ratio.{Ratio}
use Rattle.num_rational.specs.declared.reduced.Reduced.{Reduced}
use Rattle.num_rational.proofs.FoldLemmas.{StepsSoFar, list_more, list_refused, one_product, one_sum}
use Rattle.num_rational.proofs.ValueLemmas.{product_held, product_out}

-- ---- a sum

-- each checked sum over the first k items has a result, and this is the last one
abbrev pub IsSumSoFar : {T : _} {i : _} {o : _} {e : _} {p : _} {h : _} → List (Reduced T i o e p h) → ℕ → Reduced T i o e p h → Type 0
IsSumSoFar {i = i} xs k sum = StepsSoFar lowest_numbers (CanAdd true i.lo i.hi) IsSum (pos 0, pos 1) (take k xs) (lowest_numbers sum)

module _ {T : _} {i : _} {o : _} {e : _} {p : _} {h : _} (xs : List (Reduced T i o e p h)) (k : ℕ) (x sum : Reduced T i o e p h) (below : k < length xs) (is : x ≡ get_or xs k x) (so_far : IsSumSoFar xs k sum) where
  -- if the sum with the next item is `None`, so is the sum of the list
  pub sum_refused : ChecksExactSum {i = i} {o = o} {e = e} {p = p} {h = h} (lowest_numbers sum) (lowest_numbers x) None → ChecksExactSumOf {i = i} {o = o} {e = e} {p = p} {h = h} lowest_numbers xs None
  sum_refused out all = list_refused lowest_numbers (CanAdd true i.lo i.hi) IsSum (pos 0, pos 1) xs k x below is (lowest_numbers sum) refl so_far.total (λ can. out can.answered) all.answered

  -- the sum with the next item
  pub sum_more : (next : Reduced T i o e p h) → ChecksExactSum (lowest_numbers sum) (lowest_numbers x) (Some (ratio_of next)) → IsSumSoFar xs (k + 1) next
  sum_more next answers =
      let can : CanAdd true i.lo i.hi (lowest_numbers sum) (lowest_numbers x) = record { left_positive = sum.lowest.positive; right_positive = x.lowest.positive; answered = fits_by _ _ _ _ (lowest_numbers next).0 (lowest_numbers next).1 answers } in
      list_more lowest_numbers (CanAdd true i.lo i.hi) IsSum (pos 0, pos 1) xs k x below is one_sum (lowest_numbers sum) (lowest_numbers next) refl so_far can answers.terms next.lowest.positive

-- ---- a product

-- each checked product over the first k items has a result, and this is the last one
abbrev pub IsProductSoFar : {T : _} {i : _} {o : _} {e : _} {p : _} {h : _} → List (Ratio T i o e p h) → ℕ → Ratio T i o e p h → Type 0
IsProductSoFar {i = i} xs k product = StepsSoFar numbers (CanMultiply i.lo i.hi) IsProduct (pos 1, pos 1) (take k xs) (numbers product)

module _ {T : _} {i : _} {o : _} {e : _} {p : _} {h : _} (xs : List (Ratio T i o e p h)) (k : ℕ) (x product : Ratio T i o e p h) (below : k < length xs) (is : x ≡ get_or xs k x) (so_far : IsProductSoFar xs k product) where
  -- if the product with the next item is `None`, so is the product of the list
  pub product_refused : ChecksProduct {i = i} {o = o} {e = e} {p = p} {h = h} (numbers product) (numbers x) None → ChecksProductOf {i = i} {o = o} {e = e} {p = p} {h = h} numbers xs None
  product_refused out all = list_refused numbers (CanMultiply i.lo i.hi) IsProduct (pos 1, pos 1) xs k x below is (numbers product) refl so_far.total (λ can. out can.answered) all.answered

  -- the product with the next item
  pub product_more : ArePositive numbers xs → (next : Ratio T i o e p h) → ChecksProduct (numbers product) (numbers x) (Some next) → IsProductSoFar xs (k + 1) next
  product_more positive next answers =
      let up : pos 0 <ℤ denominator x = subst (λ y. pos 0 <ℤ denominator y) (sym is) (positive k x below) in
      let can : CanMultiply i.lo i.hi (numbers product) (numbers x) = record { left_positive = so_far.positive; right_positive = up; answered = fits_by _ _ _ _ (numerator next) (denominator next) answers } in
      list_more numbers (CanMultiply i.lo i.hi) IsProduct (pos 1, pos 1) xs k x below is one_product (numbers product) (numbers next) refl so_far can answers.terms answers.terms.lowest.positive

-- ---- half a sum

two_up : pos 0 <ℤ pos 2
two_up = omega (arith, ints)

-- dividing the sum s of x and y by 2 gives half of x + y
pub sum_halved : {T : _} {i : _} {o : _} {e : _} {p : _} {h : _} (x y s : ℤ × ℤ) (r : Option (Reduced T i o e p h)) → IsHeldLowest least64 greatest64 (sum_of_two x y).0 (sum_of_two x y).1 s.0 s.1 → ChecksLowest numerator denominator least64 greatest64 (quotient_of s.0 s.1 (pos 2) (pos 1)) (ratio_in r) → ChecksMean x y r
sum_halved x y s None sum out = λ both. product_out _ _ (sum_of_two x y) s (pos 1, pos 2) sum.terms two_up out both.1
sum_halved x y s (Some half) sum held =
    let moved = product_held _ _ (sum_of_two x y) s (pos 1, pos 2) sum.terms two_up (lowest_numbers half).0 (lowest_numbers half).1 held in
    (fits_by _ _ _ _ s.0 s.1 sum, fits_by _ _ _ _ (lowest_numbers half).0 (lowest_numbers half).1 moved, moved.terms)
