-- The laws of negatives, absolute values and signs, from the values of pairs.
use Rattle.std.specs.Prelude.{◌≡◌, ◌≢◌, ◌+◌, ◌*◌, ◌≤ℤ◌, ◌<ℤ◌, ◌+ℤ◌, ◌*ℤ◌, ℕ, ℤ, zero, suc, pos, negsuc, neg_ℤ, unsigned_abs}
use Rattle.std.specs.declared.cmp.Ordering.TheVariants.{Greater}
use Rattle.std.specs.declared.cmp.Ordering.{Ordering}
use Rattle.std.proofs.Common.{refl, sym, ap, subst, arith, ◌∙◌}
use Rattle.std.proofs.lemmas.Int.{ints}
use lib.IntN.{*ℤ-zero, zero-*ℤ}
use Rattle.ratio_integer.specs.Fraction.{SameValue}
use Rattle.ratio_integer.specs.Range.{IsHeld}
use Rattle.ratio_integer.proofs.LowestTerms.{same_value_chained, same_value_products}
use Rattle.ratio_integer.proofs.Whole.{mul_positive, neg-mul}
use Rattle.ratio_core.specs.Signs.{IsSign}
use Rattle.ratio_core.proofs.LawLemmas.{same_value_sums}
use Rattle.ratio_core.proofs.ProductOrder.{times_le}
use Rattle.num_rational.specs.declared.reduced.Reduced.{Reduced}
use Rattle.num_rational.specs.Ratio.{denominator, numerator}
use Rattle.num_rational.proofs.ValueLemmas.{absolute_product, absolute_times, at_most_not_greater, order_moved, same_numbers, same_value_absolutes, same_value_negatives}
use Rattle.ratio_laws.specs.SignLaws.{AddsAbsolutes, IsAbsoluteTimesSign, IsDoubleNegative, MultipliesAbsolutes, MultipliesSigns}
use Rattle.ratio_laws.proofs.ResultLemmas.{denominator_nonzero, one_result, one_value, product_nonzero}

negative_twice : (z : ℤ) → neg_ℤ (neg_ℤ z) ≡ z
negative_twice z = omega (arith, ints)

times_below : (n d : ℤ) → n <ℤ pos 0 → pos 0 <ℤ d → (n *ℤ d) <ℤ pos 0
times_below n d below up =
    let above : pos 0 <ℤ (neg_ℤ n *ℤ d) = mul_positive (neg_ℤ n) d (omega (arith, ints)) up in
    omega (arith, ints, neg-mul n d)

-- the absolute value times the sign
absolute_signed : (n d s : ℤ) → pos 0 <ℤ d → IsSign n d s → pos (unsigned_abs n) *ℤ s ≡ n
absolute_signed (pos zero) d s up is = rw (is.zero refl) refl
absolute_signed (pos (suc n)) d s up is = rw (is.above (mul_positive (pos (suc n)) d (omega (arith, ints)) up)) (omega (arith, ints))
absolute_signed (negsuc n) d s up is = rw (is.below (times_below (negsuc n) d (omega (arith, ints)) up)) (omega (arith, ints))

-- ---- the sign as a number

signum : ℤ → ℤ
signum (pos zero) = pos 0
signum (pos (suc n)) = pos 1
signum (negsuc n) = negsuc 0

signed : (n d s : ℤ) → pos 0 <ℤ d → IsSign n d s → s ≡ signum n
unfolding signum
signed (pos zero) d s up is = is.zero refl
signed (pos (suc n)) d s up is = is.above (mul_positive (pos (suc n)) d (omega (arith, ints)) up)
signed (negsuc n) d s up is = is.below (times_below (negsuc n) d (omega (arith, ints)) up)

next_product : (n m : ℕ) → suc n * suc m ≡ suc (n * suc m + m)
next_product n m = omega arith

signum_product : (x y : ℤ) → signum (x *ℤ y) ≡ signum x *ℤ signum y
unfolding signum
signum_product (pos zero) y = ap signum (zero-*ℤ y) ∙ sym (zero-*ℤ (signum y))
signum_product (pos (suc n)) (pos zero) = ap signum (*ℤ-zero (pos (suc n)))
signum_product (pos (suc n)) (pos (suc m)) = ap (λ (k : ℕ). signum (pos k)) (next_product n m)
signum_product (pos (suc n)) (negsuc m) = ap (λ (k : ℕ). signum (neg_ℤ (pos k))) (next_product n m)
signum_product (negsuc n) (pos zero) = ap signum (*ℤ-zero (negsuc n))
signum_product (negsuc n) (pos (suc m)) = ap (λ (k : ℕ). signum (neg_ℤ (pos k))) (next_product n m)
signum_product (negsuc n) (negsuc m) = ap (λ (k : ℕ). signum (pos k)) (next_product n m)

signum_times : (x k : ℤ) → pos 0 <ℤ k → signum (x *ℤ k) ≡ signum x
unfolding signum
signum_times x (pos zero) up = absurd (omega (arith, ints))
signum_times x (pos (suc k)) up = signum_product x (pos (suc k)) ∙ omega (arith, ints)
signum_times x (negsuc k) up = absurd (omega (arith, ints))

-- the numbers of x are in range
module _ {T : _} {i : _} {o : _} {e : _} {p : _} {h : _} (x : Reduced T i o e p h) (numer : IsHeld i.lo i.hi (numerator x.ratio)) (denom : IsHeld i.lo i.hi (denominator x.ratio)) where
  pub is_double_negative : IsDoubleNegative x
  is_double_negative negative back turned told =
      one_value _ _ x back (denominator_nonzero negative)
      (same_value_chained _ _ (neg_ℤ (neg_ℤ (numerator x.ratio))) (denominator x.ratio) _ _ (denominator_nonzero x)
      (same_value_negatives (numerator negative.ratio) (denominator negative.ratio) (neg_ℤ (numerator x.ratio)) (denominator x.ratio) (sym turned.terms.same))
      (same_numbers (neg_ℤ (neg_ℤ (numerator x.ratio))) (denominator x.ratio) (numerator x.ratio) (denominator x.ratio) (negative_twice (numerator x.ratio)) refl))
      numer denom told

  pub is_absolute_times_sign : IsAbsoluteTimesSign x
  is_absolute_times_sign absolute sign product told is whole other =
      let n = numerator x.ratio in
      let d = denominator x.ratio in
      one_value _ _ x product (product_nonzero absolute sign)
      (same_value_chained _ _ (pos (unsigned_abs n) *ℤ numerator sign.ratio) (d *ℤ denominator sign.ratio) _ _ (product_nonzero x sign)
      (same_value_products (numerator absolute.ratio) (denominator absolute.ratio) (numerator sign.ratio) (denominator sign.ratio) (pos (unsigned_abs n)) d (numerator sign.ratio) (denominator sign.ratio) (sym told.terms.same) refl)
      (same_numbers (pos (unsigned_abs n) *ℤ numerator sign.ratio) (d *ℤ denominator sign.ratio) n d (absolute_signed n d (numerator sign.ratio) x.lowest.positive is) (rw whole (omega (arith, ints)))))
      numer denom other

pub multiplies_absolutes : {T : _} {i : _} {o : _} {e : _} {p : _} {h : _} → (x y : Reduced T i o e p h) → MultipliesAbsolutes x y
multiplies_absolutes x y left right product absolute other first second told whole parts =
    let a = numerator x.ratio in
    let b = denominator x.ratio in
    let c = numerator y.ratio in
    let d = denominator y.ratio in
    let s = numerator product.ratio in
    let t = denominator product.ratio in
    let whole_value : SameValue (pos (unsigned_abs a) *ℤ pos (unsigned_abs c)) (b *ℤ d) (pos (unsigned_abs s)) t =
    subst (λ (z : ℤ). SameValue z (b *ℤ d) (pos (unsigned_abs s)) t) (absolute_product a c)
    (same_value_absolutes (a *ℤ c) (b *ℤ d) s t (mul_positive b d x.lowest.positive y.lowest.positive) product.lowest.positive told.terms.same) in
    let parts_value : SameValue (numerator left.ratio *ℤ numerator right.ratio) (denominator left.ratio *ℤ denominator right.ratio) (pos (unsigned_abs a) *ℤ pos (unsigned_abs c)) (b *ℤ d) =
    same_value_products (numerator left.ratio) (denominator left.ratio) (numerator right.ratio) (denominator right.ratio) (pos (unsigned_abs a)) b (pos (unsigned_abs c)) d (sym first.terms.same) (sym second.terms.same) in
    one_result _ _ _ _ absolute other (denominator_nonzero product) (product_nonzero left right)
    (same_value_chained (numerator left.ratio *ℤ numerator right.ratio) (denominator left.ratio *ℤ denominator right.ratio) (pos (unsigned_abs a) *ℤ pos (unsigned_abs c)) (b *ℤ d) (pos (unsigned_abs s)) t (product_nonzero x y) parts_value whole_value)
    whole parts

absolute_sum : (u v : ℤ) → pos (unsigned_abs (u +ℤ v)) ≤ℤ (pos (unsigned_abs u) +ℤ pos (unsigned_abs v))
absolute_sum u v = omega (arith, ints)

-- |a*d + c*b| is at most |a|*d + |c|*b
pub sum_at_most : (a b c d : ℤ) → pos 0 <ℤ b → pos 0 <ℤ d → pos (unsigned_abs (a *ℤ d +ℤ c *ℤ b)) ≤ℤ (pos (unsigned_abs a) *ℤ d +ℤ pos (unsigned_abs c) *ℤ b)
sum_at_most a b c d b_up d_up = rw (← absolute_times a d d_up, ← absolute_times c b b_up) (absolute_sum (a *ℤ d) (c *ℤ b))

pub adds_absolutes : {T : _} {i : _} {o : _} {e : _} {p : _} {h : _} → (x y : Reduced T i o e p h) → AddsAbsolutes x y
adds_absolutes x y left right sum absolute total first second added whole parts =
    let a = numerator x.ratio in
    let b = denominator x.ratio in
    let c = numerator y.ratio in
    let d = denominator y.ratio in
    let s = numerator sum.ratio in
    let t = denominator sum.ratio in
    let up = mul_positive b d x.lowest.positive y.lowest.positive in
    let above : SameValue (numerator absolute.ratio) (denominator absolute.ratio) (pos (unsigned_abs (a *ℤ d +ℤ c *ℤ b))) (b *ℤ d) =
    same_value_chained (numerator absolute.ratio) (denominator absolute.ratio) (pos (unsigned_abs s)) t (pos (unsigned_abs (a *ℤ d +ℤ c *ℤ b))) (b *ℤ d) (denominator_nonzero sum)
    (sym whole.terms.same) (same_value_absolutes s t (a *ℤ d +ℤ c *ℤ b) (b *ℤ d) sum.lowest.positive up (sym added.terms.same)) in
    let below : SameValue (numerator total.ratio) (denominator total.ratio) (pos (unsigned_abs a) *ℤ d +ℤ pos (unsigned_abs c) *ℤ b) (b *ℤ d) =
    same_value_chained (numerator total.ratio) (denominator total.ratio)
    (numerator left.ratio *ℤ denominator right.ratio +ℤ numerator right.ratio *ℤ denominator left.ratio) (denominator left.ratio *ℤ denominator right.ratio)
    (pos (unsigned_abs a) *ℤ d +ℤ pos (unsigned_abs c) *ℤ b) (b *ℤ d) (product_nonzero left right)
    (sym parts.terms.same)
    (same_value_sums (numerator left.ratio) (denominator left.ratio) (numerator right.ratio) (denominator right.ratio) (pos (unsigned_abs a)) b (pos (unsigned_abs c)) d (sym first.terms.same) (sym second.terms.same)) in
    subst (λ (o : Ordering). o ≢ Greater)
    (sym (order_moved (numerator absolute.ratio) (denominator absolute.ratio) (numerator total.ratio) (denominator total.ratio) (pos (unsigned_abs (a *ℤ d +ℤ c *ℤ b))) (b *ℤ d) (pos (unsigned_abs a) *ℤ d +ℤ pos (unsigned_abs c) *ℤ b) (b *ℤ d)
    absolute.lowest.positive total.lowest.positive up up above below))
    (at_most_not_greater _ _ _ _ up up (times_le _ _ (b *ℤ d) (sum_at_most a b c d x.lowest.positive y.lowest.positive) (omega (arith, ints))))

pub multiplies_signs : {T : _} {i : _} {o : _} {e : _} {p : _} {h : _} → (x y : Reduced T i o e p h) → MultipliesSigns x y
multiplies_signs x y product left right sign told first second third =
    let a = numerator x.ratio in
    let b = denominator x.ratio in
    let c = numerator y.ratio in
    let d = denominator y.ratio in
    let s = numerator product.ratio in
    let t = denominator product.ratio in
    let up = mul_positive b d x.lowest.positive y.lowest.positive in
    signed s t sign product.lowest.positive third
    ∙ sym (signum_times s (b *ℤ d) up)
    ∙ ap signum (sym told.terms.same)
    ∙ signum_times (a *ℤ c) t product.lowest.positive
    ∙ signum_product a c
    ∙ ap (λ (z : ℤ). z *ℤ signum c) (sym (signed a b left x.lowest.positive first))
    ∙ ap (λ (z : ℤ). left *ℤ z) (sym (signed c d right y.lowest.positive second))
