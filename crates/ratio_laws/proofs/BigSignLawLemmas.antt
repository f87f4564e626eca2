-- The laws of negatives and absolute values, from the values of pairs.
use Rattle.std.specs.Prelude.{◌≡◌, ◌≢◌, ◌*ℤ◌, ◌+ℤ◌, ◌<ℤ◌, ℤ, pos, neg_ℤ, unsigned_abs}
use Rattle.std.specs.declared.cmp.Ordering.{Ordering}
use Rattle.std.specs.declared.cmp.Ordering.TheVariants.{Greater}
use Rattle.std.proofs.Common.{sym, ap, subst, arith, ◌∙◌}
use Rattle.std.proofs.lemmas.Int.{ints}
use Rattle.ratio_integer.specs.Fraction.{IsLowestTerms, SameValue}
use Rattle.ratio_integer.proofs.Whole.{mul_positive, neg-mul}
use Rattle.ratio_core.specs.Laws.{IsProduct}
use Rattle.ratio_core.proofs.KeptLowest.{negative_lowest}
use Rattle.ratio_core.proofs.ProductOrder.{times_le}
use Rattle.num_rational.proofs.ValueLemmas.{absolute_product, at_most_not_greater, order_moved, same_value_absolutes, same_value_negatives}
use Rattle.ratio_laws.proofs.SignLawLemmas.{sum_at_most}
use Rattle.ratio_big.specs.Values.{absolute_pair, negative_pair}
use Rattle.ratio_laws.specs.BigSignLaws.{MeetsTriangleInequality, MovesAbsolute, MovesNegative}
use Rattle.ratio_laws.proofs.BigFieldLawLemmas.{own_terms}

pub negative_twice : (x : ℤ × ℤ) → negative_pair (negative_pair x) ≡ x
negative_twice x = ap (λ (t : ℤ). (t, x.1)) (same x.0)
  where
    same : (z : ℤ) → neg_ℤ (neg_ℤ z) ≡ z
    same z = omega (arith, ints)

pub moves_negative : (x y : ℤ × ℤ) → MovesNegative IsProduct x y
moves_negative x y product is other turned =
    own_terms _ _ (negative_pair product) other (negative_lowest product.0 product.1 is.lowest)
    (ap (λ (t : ℤ). t *ℤ product.1) (neg-mul x.0 y.0) ∙ same_value_negatives (x.0 *ℤ y.0) (x.1 *ℤ y.1) product.0 product.1 is.same) turned

absolute_lowest : (n d : ℤ) → IsLowestTerms n d → IsLowestTerms (pos (unsigned_abs n)) d
absolute_lowest n d lowest = record { positive = lowest.positive; only_one = lowest.only_one }

module _ (x y : ℤ × ℤ) (x_up : pos 0 <ℤ x.1) (y_up : pos 0 <ℤ y.1) where
  pub moves_absolute : MovesAbsolute IsProduct x y
  moves_absolute product is other told =
      own_terms _ _ (absolute_pair product) other (absolute_lowest product.0 product.1 is.lowest)
      (subst (λ (z : ℤ). SameValue z (x.1 *ℤ y.1) (pos (unsigned_abs product.0)) product.1) (absolute_product x.0 y.0)
      (same_value_absolutes (x.0 *ℤ y.0) (x.1 *ℤ y.1) product.0 product.1 (mul_positive x.1 y.1 x_up y_up) is.lowest.positive is.same)) told

  pub meets_triangle_inequality : MeetsTriangleInequality x y
  meets_triangle_inequality sum other is told =
      let n = x.0 *ℤ y.1 +ℤ y.0 *ℤ x.1 in
      let m = pos (unsigned_abs x.0) *ℤ y.1 +ℤ pos (unsigned_abs y.0) *ℤ x.1 in
      let d = x.1 *ℤ y.1 in
      let up = mul_positive x.1 y.1 x_up y_up in
      subst (λ (o : Ordering). o ≢ Greater)
      (sym (order_moved (pos (unsigned_abs sum.0)) sum.1 other.0 other.1 (pos (unsigned_abs n)) d m d is.lowest.positive told.lowest.positive up up
      (same_value_absolutes sum.0 sum.1 n d is.lowest.positive up (sym is.same)) (sym told.same)))
      (at_most_not_greater _ _ _ _ up up (times_le _ _ d (sum_at_most x.0 x.1 y.0 y.1 x_up y_up) (omega (arith, ints))))
