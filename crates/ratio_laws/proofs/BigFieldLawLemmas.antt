-- The laws of a field, from the values of pairs.
use Rattle.std.specs.Prelude.{◌≡◌, ◌≢◌, ◌*ℤ◌, ℤ, pos, None, Some}
use Rattle.std.proofs.Common.{refl, sym, subst, arith}
use Rattle.std.proofs.lemmas.Int.{ints}
use lib.IntN.{*ℤ_comm}
use Rattle.ratio_integer.specs.Fraction.{IsLowestTerms, SameValue}
use Rattle.ratio_integer.proofs.LowestTerms.{lowest_equal, lowest_own, over_one, same_value_products}
use Rattle.ratio_integer.proofs.Whole.{positive_nonzero}
use Rattle.ratio_core.specs.Laws.{IsProduct, IsSum}
use Rattle.ratio_core.proofs.MixedLemmas.{difference_turned}
use Rattle.num_rational.proofs.ValueLemmas.{difference_undone, none_left, plus_zero, product_undone, quotient_undone, same_numbers, sum_undone, times_one}
use Rattle.ratio_laws.proofs.EqualValueLemmas.{right_nonzero}
use Rattle.ratio_laws.proofs.NeutralLemmas.{one_nonzero}
use Rattle.ratio_laws.proofs.ReducedLemmas.{one_pair}
use Rattle.ratio_big.specs.Values.{HasTerms, negative_pair}
use Rattle.ratio_laws.specs.BigFieldLaws.{GivesOnly, HasInverse, IsDifferenceOf, IsProductWithReciprocal, IsQuotientOf, IsRefusedByZero, IsSumWithNegative, IsUndone}

-- ---- one fraction

-- fractions of one value have the same lowest terms
pub one_terms : (n d m e : ℤ) (x y : ℤ × ℤ) → SameValue n d m e → HasTerms (n, d) x → HasTerms (m, e) y → x ≡ y
one_terms n d m e x y same first second = one_pair x y (lowest_equal n d m e x.0 x.1 y.0 y.1 same first second)

-- if they are in lowest terms themselves, they are these
pub own_terms : (n d : ℤ) (x r : ℤ × ℤ) → IsLowestTerms x.0 x.1 → SameValue n d x.0 x.1 → HasTerms (n, d) r → r ≡ x
own_terms n d x r lowest same is = one_terms n d x.0 x.1 r x same is (lowest_own x.0 x.1 lowest)

pub once : (z : ℤ) → pos 1 *ℤ z ≡ z
once z = omega (arith, ints)

-- ---- the laws, for x and y in lowest terms

module _ (x : ℤ × ℤ) (lowest : IsLowestTerms x.0 x.1) where
  nonzero : x.1 ≢ pos 0
  nonzero = positive_nonzero x.1 lowest.positive

  pub plus_zero_is : GivesOnly IsSum x (pos 0, pos 1) x
  plus_zero_is sum is = own_terms _ _ x sum lowest (plus_zero x.0 x.1) is

  pub times_one_is : GivesOnly IsProduct x (pos 1, pos 1) x
  times_one_is product is = own_terms _ _ x product lowest (times_one x.0 x.1) is

  pub has_inverse : HasInverse x
  has_inverse reciprocal turned product is =
      own_terms (x.0 *ℤ reciprocal.0) (x.1 *ℤ reciprocal.1) (pos 1, pos 1) product (over_one (pos 1) (pos 1) refl)
      (rw (*ℤ_comm x.0 reciprocal.0, *ℤ_comm x.1 reciprocal.1)
      (quotient_undone (pos 1) (pos 1) x.0 x.1 reciprocal.0 reciprocal.1 one_nonzero nonzero (right_nonzero (pos 1) x.0 turned.fraction) turned.same)) is

  module _ (y : ℤ × ℤ) (other_lowest : IsLowestTerms y.0 y.1) where
    other_nonzero : y.1 ≢ pos 0
    other_nonzero = positive_nonzero y.1 other_lowest.positive

    pub is_difference_undone : IsUndone IsDifferenceOf IsSum x y
    is_difference_undone difference is sum other =
        own_terms _ _ x sum lowest (difference_undone x.0 x.1 y.0 y.1 difference.0 difference.1 nonzero other_nonzero is.same) other

    pub is_sum_undone : IsUndone IsSum IsDifferenceOf x y
    is_sum_undone sum is difference other =
        own_terms _ _ x difference lowest (sum_undone x.0 x.1 y.0 y.1 sum.0 sum.1 nonzero other_nonzero is.same) other

    pub is_quotient_undone : IsUndone IsQuotientOf IsProduct x y
    is_quotient_undone quotient is product other =
        own_terms _ _ x product lowest (quotient_undone x.0 x.1 y.0 y.1 quotient.0 quotient.1 nonzero other_nonzero (right_nonzero x.1 y.0 is.fraction) is.same) other

    pub is_product_undone : IsUndone IsProduct IsQuotientOf x y
    is_product_undone product is quotient other =
        own_terms _ _ x quotient lowest (product_undone x.0 x.1 y.0 y.1 product.0 product.1 nonzero other_nonzero (right_nonzero product.1 y.0 other.fraction) is.same) other

-- ---- the laws, for any pairs

pub itself_is_zero : (x : ℤ × ℤ) → GivesOnly IsDifferenceOf x x (pos 0, pos 1)
itself_is_zero x difference is = own_terms _ _ (pos 0, pos 1) difference (over_one (pos 0) (pos 1) refl) (none_left x.0 x.1) is

pub negative_is_zero : (x : ℤ × ℤ) → GivesOnly IsSum x (negative_pair x) (pos 0, pos 1)
negative_is_zero x sum is =
    own_terms _ _ (pos 0, pos 1) sum (over_one (pos 0) (pos 1) refl)
    (subst (λ (t : ℤ). SameValue t (x.1 *ℤ x.1) (pos 0) (pos 1)) (sym (difference_turned x.0 x.1 x.0 x.1)) (none_left x.0 x.1)) is

pub is_sum_with_negative : (x y : ℤ × ℤ) → IsSumWithNegative x y
is_sum_with_negative x y difference is sum other =
    one_terms _ _ _ _ sum difference (same_numbers _ _ _ _ (difference_turned x.0 x.1 y.0 y.1) refl) other is

pub is_product_with_reciprocal : (x y : ℤ × ℤ) → IsProductWithReciprocal x y
is_product_with_reciprocal x y reciprocal quotient turned is product other =
    let flipped : SameValue y.1 y.0 reciprocal.0 reciprocal.1 = rw (once y.1, once y.0) at turned.same in
    sym (one_terms _ _ _ _ quotient product (same_value_products x.0 x.1 y.1 y.0 x.0 x.1 reciprocal.0 reciprocal.1 refl flipped) is other)

pub is_refused_by_zero : (x y : ℤ × ℤ) → IsRefusedByZero x y
is_refused_by_zero x y None is = (λ _. is, λ _. refl)
is_refused_by_zero x y (Some quotient) is = (
  (λ same. let never : Some quotient ≡ None = same in cc),
  (λ none. absurd (right_nonzero x.1 y.0 is.fraction none)),
)
