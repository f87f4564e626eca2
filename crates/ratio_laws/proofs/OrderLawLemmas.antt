-- The laws of the order of results, from the values of pairs.
use Rattle.std.specs.Prelude.{◌≡◌, ◌<ℤ◌, ◌+ℤ◌, ◌*ℤ◌, ℤ, pos, neg_ℤ}
use Rattle.std.specs.Cmp.{int_cmp_is, int_ranks}
use Rattle.std.specs.Ordering.{MatchOrdering, int_cmp}
use Rattle.std.specs.declared.cmp.Ordering.{Ordering}
use Rattle.std.specs.declared.cmp.Ordering.TheVariants.{Less, Equal, Greater}
use Rattle.std.proofs.Common.{sym, ap, arith, ◌∙◌}
use Rattle.std.proofs.lemmas.Int.{ints}
use lib.IntN.{*ℤ_comm}
use Rattle.ratio_integer.proofs.Whole.{add-mul, mul_assoc, mul_positive, mul-swap_inner, neg-mul}
use Rattle.ratio_core.specs.Laws.{IsProduct, IsSum}
use Rattle.ratio_core.specs.Order.{cross_cmp}
use Rattle.num_rational.specs.declared.reduced.Reduced.{Reduced}
use Rattle.num_rational.specs.Operators.{numbers}
use Rattle.num_rational.specs.Ratio.{denominator, numerator}
use Rattle.num_rational.proofs.ValueLemmas.{cross_positive, order_moved, scaled_by}
use Rattle.ratio_laws.specs.OrderLaws.{AddsInOrder, MultipliesInOrder, MultipliesInReverse, NegatesInReverse}

-- ---- the same change on both sides

shifted_at : (x y k : ℤ) (o : Ordering) → MatchOrdering o (x <ℤ y) (x ≡ y) (y <ℤ x) → MatchOrdering o ((x +ℤ k) <ℤ (y +ℤ k)) (x +ℤ k ≡ y +ℤ k) ((y +ℤ k) <ℤ (x +ℤ k))
shifted_at x y k Less h = omega (arith, ints)
shifted_at x y k Equal h = ap (λ (t : ℤ). t +ℤ k) h
shifted_at x y k Greater h = omega (arith, ints)

shifted : (x y k : ℤ) → int_cmp (x +ℤ k) (y +ℤ k) ≡ int_cmp x y
shifted x y k = sym (int_cmp_is (x +ℤ k) (y +ℤ k) (int_cmp x y) (shifted_at x y k (int_cmp x y) (int_ranks x y)))

negated_at : (x y : ℤ) (o : Ordering) → MatchOrdering o (x <ℤ y) (x ≡ y) (y <ℤ x) → MatchOrdering o (neg_ℤ y <ℤ neg_ℤ x) (neg_ℤ y ≡ neg_ℤ x) (neg_ℤ x <ℤ neg_ℤ y)
negated_at x y Less h = omega (arith, ints)
negated_at x y Equal h = ap neg_ℤ (sym h)
negated_at x y Greater h = omega (arith, ints)

negated : (x y : ℤ) → int_cmp (neg_ℤ y) (neg_ℤ x) ≡ int_cmp x y
negated x y = sym (int_cmp_is (neg_ℤ y) (neg_ℤ x) (int_cmp x y) (negated_at x y (int_cmp x y) (int_ranks x y)))

times_negative : (x k : ℤ) → x *ℤ k ≡ neg_ℤ (x *ℤ neg_ℤ k)
times_negative x k = omega (arith, ints, *ℤ_comm x (neg_ℤ k), neg-mul k x, *ℤ_comm k x)

scaled_below : (x y k : ℤ) → k <ℤ pos 0 → int_cmp (x *ℤ k) (y *ℤ k) ≡ int_cmp y x
scaled_below x y k below =
    ap (λ (t : ℤ). int_cmp t (y *ℤ k)) (times_negative x k)
    ∙ ap (λ (t : ℤ). int_cmp (neg_ℤ (x *ℤ neg_ℤ k)) t) (times_negative y k)
    ∙ negated (y *ℤ neg_ℤ k) (x *ℤ neg_ℤ k)
    ∙ scaled_by y x (neg_ℤ k) (omega (arith, ints))

-- ---- a/b and c/d, with positive denominators

module _ (a b c d : ℤ) (b_up : pos 0 <ℤ b) (d_up : pos 0 <ℤ d) where
  -- g/f is added, or multiplies both
  module _ (g f : ℤ) (f_up : pos 0 <ℤ f) where
    left_sum : (a *ℤ f +ℤ g *ℤ b) *ℤ (d *ℤ f) ≡ (a *ℤ d) *ℤ (f *ℤ f) +ℤ g *ℤ (b *ℤ (d *ℤ f))
    left_sum = let e1 = add-mul (a *ℤ f) (g *ℤ b) (d *ℤ f) in let e2 = mul-swap_inner a f d f in let e3 = mul_assoc g b (d *ℤ f) in omega (arith, ints)

    right_sum : (c *ℤ f +ℤ g *ℤ d) *ℤ (b *ℤ f) ≡ (c *ℤ b) *ℤ (f *ℤ f) +ℤ g *ℤ (b *ℤ (d *ℤ f))
    right_sum =
        let e1 = add-mul (c *ℤ f) (g *ℤ d) (b *ℤ f) in
        let e2 = mul-swap_inner c f b f in
        let e3 = mul_assoc g d (b *ℤ f) in
        let e4 : g *ℤ (d *ℤ (b *ℤ f)) ≡ g *ℤ (b *ℤ (d *ℤ f)) = ap (λ (t : ℤ). g *ℤ t) (sym (mul_assoc d b f) ∙ ap (λ (t : ℤ). t *ℤ f) (*ℤ_comm d b) ∙ mul_assoc b d f) in
        omega (arith, ints)

    order_of_sums : cross_cmp (a *ℤ f +ℤ g *ℤ b) (b *ℤ f) (c *ℤ f +ℤ g *ℤ d) (d *ℤ f) ≡ cross_cmp a b c d
    order_of_sums =
        cross_positive (a *ℤ f +ℤ g *ℤ b) (b *ℤ f) (c *ℤ f +ℤ g *ℤ d) (d *ℤ f) (mul_positive b f b_up f_up) (mul_positive d f d_up f_up)
        ∙ ap (λ (t : ℤ). int_cmp t ((c *ℤ f +ℤ g *ℤ d) *ℤ (b *ℤ f))) left_sum
        ∙ ap (λ (t : ℤ). int_cmp ((a *ℤ d) *ℤ (f *ℤ f) +ℤ g *ℤ (b *ℤ (d *ℤ f))) t) right_sum
        ∙ shifted ((a *ℤ d) *ℤ (f *ℤ f)) ((c *ℤ b) *ℤ (f *ℤ f)) (g *ℤ (b *ℤ (d *ℤ f)))
        ∙ scaled_by (a *ℤ d) (c *ℤ b) (f *ℤ f) (mul_positive f f f_up f_up)
        ∙ sym (cross_positive a b c d b_up d_up)

    -- a/b + g/f and c/d + g/f in lowest terms have the order of a/b and c/d
    pub sums_in_order : (left right : ℤ × ℤ) → IsSum (a, b) (g, f) left → IsSum (c, d) (g, f) right → cross_cmp left.0 left.1 right.0 right.1 ≡ cross_cmp a b c d
    sums_in_order left right first second =
        order_moved left.0 left.1 right.0 right.1 (a *ℤ f +ℤ g *ℤ b) (b *ℤ f) (c *ℤ f +ℤ g *ℤ d) (d *ℤ f)
        first.lowest.positive second.lowest.positive (mul_positive b f b_up f_up) (mul_positive d f d_up f_up) (sym first.same) (sym second.same)
        ∙ order_of_sums

    scaled_products : cross_cmp (a *ℤ g) (b *ℤ f) (c *ℤ g) (d *ℤ f) ≡ int_cmp ((a *ℤ d) *ℤ (g *ℤ f)) ((c *ℤ b) *ℤ (g *ℤ f))
    scaled_products =
        cross_positive (a *ℤ g) (b *ℤ f) (c *ℤ g) (d *ℤ f) (mul_positive b f b_up f_up) (mul_positive d f d_up f_up)
        ∙ ap (λ (t : ℤ). int_cmp t ((c *ℤ g) *ℤ (b *ℤ f))) (mul-swap_inner a g d f)
        ∙ ap (λ (t : ℤ). int_cmp ((a *ℤ d) *ℤ (g *ℤ f)) t) (mul-swap_inner c g b f)

    order_of_products : pos 0 <ℤ g → cross_cmp (a *ℤ g) (b *ℤ f) (c *ℤ g) (d *ℤ f) ≡ cross_cmp a b c d
    order_of_products above = scaled_products ∙ scaled_by (a *ℤ d) (c *ℤ b) (g *ℤ f) (mul_positive g f above f_up) ∙ sym (cross_positive a b c d b_up d_up)

    products_moved : (left right : ℤ × ℤ) → IsProduct (a, b) (g, f) left → IsProduct (c, d) (g, f) right
        → cross_cmp left.0 left.1 right.0 right.1 ≡ cross_cmp (a *ℤ g) (b *ℤ f) (c *ℤ g) (d *ℤ f)
    products_moved left right first second =
        order_moved left.0 left.1 right.0 right.1 (a *ℤ g) (b *ℤ f) (c *ℤ g) (d *ℤ f)
        first.lowest.positive second.lowest.positive (mul_positive b f b_up f_up) (mul_positive d f d_up f_up) (sym first.same) (sym second.same)

    -- so have a/b * g/f and c/d * g/f, if g is above 0
    pub products_in_order : pos 0 <ℤ g → (left right : ℤ × ℤ) → IsProduct (a, b) (g, f) left → IsProduct (c, d) (g, f) right → cross_cmp left.0 left.1 right.0 right.1 ≡ cross_cmp a b c d
    products_in_order above left right first second = products_moved left right first second ∙ order_of_products above

    factor_below : g <ℤ pos 0 → (g *ℤ f) <ℤ pos 0
    factor_below below = let above : pos 0 <ℤ (neg_ℤ g *ℤ f) = mul_positive (neg_ℤ g) f (omega (arith, ints)) f_up in omega (arith, ints, neg-mul g f)

    order_in_reverse : g <ℤ pos 0 → cross_cmp (a *ℤ g) (b *ℤ f) (c *ℤ g) (d *ℤ f) ≡ cross_cmp c d a b
    order_in_reverse below = scaled_products ∙ scaled_below (a *ℤ d) (c *ℤ b) (g *ℤ f) (factor_below below) ∙ sym (cross_positive c d a b d_up b_up)

    -- they have the reverse order, if g is below 0
    pub products_in_reverse : g <ℤ pos 0 → (left right : ℤ × ℤ) → IsProduct (a, b) (g, f) left → IsProduct (c, d) (g, f) right → cross_cmp left.0 left.1 right.0 right.1 ≡ cross_cmp c d a b
    products_in_reverse below left right first second = products_moved left right first second ∙ order_in_reverse below

  pub order_of_negatives : cross_cmp (neg_ℤ a) b (neg_ℤ c) d ≡ cross_cmp c d a b
  order_of_negatives =
      cross_positive (neg_ℤ a) b (neg_ℤ c) d b_up d_up
      ∙ ap (λ (t : ℤ). int_cmp t (neg_ℤ c *ℤ b)) (neg-mul a d)
      ∙ ap (λ (t : ℤ). int_cmp (neg_ℤ (a *ℤ d)) t) (neg-mul c b)
      ∙ negated (c *ℤ b) (a *ℤ d)
      ∙ sym (cross_positive c d a b d_up b_up)

-- ---- the laws

module _ {T : _} {i : _} {o : _} {e : _} {p : _} {h : _} (x y z : Reduced T i o e p h) where
  pub adds_in_order : AddsInOrder x y z
  adds_in_order left right told other =
      sums_in_order (numerator x.ratio) (denominator x.ratio) (numerator y.ratio) (denominator y.ratio) x.lowest.positive y.lowest.positive
      (numerator z.ratio) (denominator z.ratio) z.lowest.positive (numbers left.ratio) (numbers right.ratio) told.terms other.terms

  pub multiplies_in_order : MultipliesInOrder x y z
  multiplies_in_order left right above told other =
      products_in_order (numerator x.ratio) (denominator x.ratio) (numerator y.ratio) (denominator y.ratio) x.lowest.positive y.lowest.positive
      (numerator z.ratio) (denominator z.ratio) z.lowest.positive above (numbers left.ratio) (numbers right.ratio) told.terms other.terms

  pub multiplies_in_reverse : MultipliesInReverse x y z
  multiplies_in_reverse left right below told other =
      products_in_reverse (numerator x.ratio) (denominator x.ratio) (numerator y.ratio) (denominator y.ratio) x.lowest.positive y.lowest.positive
      (numerator z.ratio) (denominator z.ratio) z.lowest.positive below (numbers left.ratio) (numbers right.ratio) told.terms other.terms

pub negates_in_reverse : {T : _} {i : _} {o : _} {e : _} {p : _} {h : _} → (x y : Reduced T i o e p h) → NegatesInReverse x y
negates_in_reverse x y left right told other =
    order_moved (numerator left.ratio) (denominator left.ratio) (numerator right.ratio) (denominator right.ratio) (neg_ℤ (numerator x.ratio)) (denominator x.ratio) (neg_ℤ (numerator y.ratio)) (denominator y.ratio)
    left.lowest.positive right.lowest.positive x.lowest.positive y.lowest.positive (sym told.terms.same) (sym other.terms.same)
    ∙ order_of_negatives (numerator x.ratio) (denominator x.ratio) (numerator y.ratio) (denominator y.ratio) x.lowest.positive y.lowest.positive
