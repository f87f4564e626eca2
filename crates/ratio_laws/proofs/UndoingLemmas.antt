-- The laws of calls that undo one another, from the values of pairs.
use Rattle.std.specs.Prelude.{◌≢◌, ◌⊎◌, ◌<ℤ◌, ◌*ℤ◌, ℤ, pos, neg_ℤ}
use Rattle.std.proofs.Common.{refl, sym, ap, arith, inl, inr, ◌∙◌}
use Rattle.std.proofs.lemmas.Int.{ints}
use lib.IntN.{*ℤ_comm}
use Rattle.ratio_integer.specs.Fraction.{SameValue}
use Rattle.ratio_integer.specs.Range.{IsHeld, IsRange}
use Rattle.ratio_integer.proofs.LcmLemmas.{zero_held}
use Rattle.ratio_integer.proofs.LowestTerms.{same_value_products}
use Rattle.ratio_integer.proofs.Whole.{mul_nonzero, neg-mul}
use Rattle.ratio_core.specs.Power.{IsReciprocal}
use Rattle.ratio_core.proofs.CancellingLemmas.{one_held}
use Rattle.ratio_core.proofs.LawLemmas.{same_value_sums}
use Rattle.ratio_core.proofs.MixedLemmas.{difference_turned}
use Rattle.num_rational.specs.declared.reduced.Reduced.{Reduced}
use Rattle.num_rational.specs.Ratio.{denominator, numerator}
use Rattle.num_rational.proofs.ValueLemmas.{difference_undone, none_left, product_undone, quotient_undone, sum_undone}
use Rattle.ratio_laws.specs.UndoingLaws.{DividesByReciprocal, IsDifferenceUndone, IsProductUndone, IsQuotientUndone, IsSumUndone, IsZeroWithoutItself, SubtractsByNegative}
use Rattle.ratio_laws.proofs.ResultLemmas.{denominator_nonzero, one_result, one_value, product_nonzero}

-- the numbers of x are in range
module _ {T : _} {i : _} {o : _} {e : _} {p : _} {h : _} (x y : Reduced T i o e p h) (numer : IsHeld i.lo i.hi (numerator x.ratio)) (denom : IsHeld i.lo i.hi (denominator x.ratio)) where
  pub is_sum_undone : IsSumUndone x y
  is_sum_undone sum back told other =
      one_value _ _ x back (product_nonzero sum y)
      (sum_undone (numerator x.ratio) (denominator x.ratio) (numerator y.ratio) (denominator y.ratio) (numerator sum.ratio) (denominator sum.ratio) (denominator_nonzero x) (denominator_nonzero y) told.terms.same)
      numer denom other

  pub is_difference_undone : IsDifferenceUndone x y
  is_difference_undone difference back told other =
      one_value _ _ x back (product_nonzero difference y)
      (difference_undone (numerator x.ratio) (denominator x.ratio) (numerator y.ratio) (denominator y.ratio) (numerator difference.ratio) (denominator difference.ratio) (denominator_nonzero x) (denominator_nonzero y) told.terms.same)
      numer denom other

  pub is_product_undone : IsProductUndone x y
  is_product_undone product back nonzero told other =
      one_value _ _ x back (mul_nonzero (denominator product.ratio) (numerator y.ratio) (denominator_nonzero product) nonzero)
      (product_undone (numerator x.ratio) (denominator x.ratio) (numerator y.ratio) (denominator y.ratio) (numerator product.ratio) (denominator product.ratio) (denominator_nonzero x) (denominator_nonzero y) nonzero told.terms.same)
      numer denom other

  pub is_quotient_undone : IsQuotientUndone x y
  is_quotient_undone quotient back told other =
      let nonzero = right_nonzero (denominator x.ratio) (numerator y.ratio) told.terms.fraction in
      one_value _ _ x back (product_nonzero quotient y)
      (quotient_undone (numerator x.ratio) (denominator x.ratio) (numerator y.ratio) (denominator y.ratio) (numerator quotient.ratio) (denominator quotient.ratio) (denominator_nonzero x) (denominator_nonzero y) nonzero told.terms.same)
      numer denom other
    where
      right_nonzero : (b d : ℤ) → b *ℤ d ≢ pos 0 → d ≢ pos 0
      right_nonzero b d nonzero e = nonzero (ap (λ (t : ℤ). b *ℤ t) e ∙ omega (arith, ints))

pub is_zero_without_itself : {T : _} {i : _} {o : _} {e : _} {p : _} {h : _} → (x : Reduced T i o e p h) → IsRange i.lo i.hi → IsZeroWithoutItself x
is_zero_without_itself {i = i} x range zero difference none told =
    one_value _ _ zero difference (product_nonzero x x)
    (rw (none.0, none.1) (none_left (numerator x.ratio) (denominator x.ratio)))
    (zero_held i.lo i.hi (numerator zero.ratio) range none.0) (one_held i.lo i.hi (denominator zero.ratio) range none.1) told

pub subtracts_by_negative : {T : _} {i : _} {o : _} {e : _} {p : _} {h : _} → (x y : Reduced T i o e p h) → SubtractsByNegative x y
subtracts_by_negative x y negative difference sum turned told other =
    let a = numerator x.ratio in
    let b = denominator x.ratio in
    let c = numerator y.ratio in
    let d = denominator y.ratio in
    let m = numerator negative.ratio in
    let e = denominator negative.ratio in
    one_result _ _ _ _ difference sum (product_nonzero x y) (product_nonzero x negative)
    (rw (← difference_turned a b c d) (same_value_sums a b m e a b (neg_ℤ c) d refl (sym turned.terms.same)))
    told other

-- a reciprocal has the value of the two numbers, exchanged
reciprocal_value : (n d a b : ℤ) → n ≢ pos 0 → IsReciprocal n d a b → SameValue d n a b
reciprocal_value n d a b nonzero is = go (sides n nonzero)
  where
    sides : (z : ℤ) → z ≢ pos 0 → (z <ℤ pos 0) ⊎ (pos 0 <ℤ z)
    sides z nonzero = grind (arith, ints)

    go : (n <ℤ pos 0) ⊎ (pos 0 <ℤ n) → SameValue d n a b
    go (inr above) = let t = is.positive above in rw (t.0, t.1) refl
    go (inl below) = let t = is.negative below in rw (t.0, t.1) (omega (arith, ints, *ℤ_comm d (neg_ℤ n), neg-mul n d, neg-mul d n, *ℤ_comm d n))

pub divides_by_reciprocal : {T : _} {i : _} {o : _} {e : _} {p : _} {h : _} → (x y : Reduced T i o e p h) → DividesByReciprocal x y
divides_by_reciprocal x y reciprocal quotient product turned told other =
    let a = numerator x.ratio in
    let b = denominator x.ratio in
    let c = numerator y.ratio in
    let d = denominator y.ratio in
    let m = numerator reciprocal.ratio in
    let e = denominator reciprocal.ratio in
    one_result _ _ _ _ quotient product (mul_nonzero b c (denominator_nonzero x) turned.0.nonzero) (product_nonzero x reciprocal)
    (same_value_products a b m e a b d c refl (sym (reciprocal_value c d m e turned.0.nonzero turned.1)))
    told other
