-- The order of fractions by their cross products is total. With this a crate above proves the laws of its comparisons.
use Rattle.std.specs.Prelude.{◌≡◌, ◌≢◌, ◌↔◌, ◌+◌, ◌*◌, ◌<◌, ◌≤◌, ◌<ℤ◌, ◌*ℤ◌, ℕ, ℤ, suc, pos, unsigned_abs}
use Rattle.std.proofs.Common.{refl, sym, ap, arith, ◌∙◌}
use Rattle.std.proofs.Math.IntN.{*ℤ_comm}
use Rattle.std.proofs.Math.Nat.{mul-le-mul_right}
use Rattle.std.proofs.lemmas.Int.{ints}
use Rattle.std.specs.Cmp.{IsEquivalence, IsPartialOrder, IsTotalOrder, eq_by_cmp_equiv, int_cmp_is, int_ranked, int_ranks, partial_order_from_agreeing_total}
use Rattle.std.specs.Ordering.{MatchOrdering, as_partial_cmp, eq_by_cmp, int_cmp}
use Rattle.std.specs.declared.cmp.Ordering.{Ordering}
use Rattle.std.specs.declared.cmp.Ordering.TheVariants.{Less, Equal, Greater}
use borrow.Author.Differences.{up, down}
use Rattle.ratio_integer.specs.Fraction.{IsLowestTerms}
use Rattle.ratio_integer.proofs.DivisionLemmas.{abs_pos}
use Rattle.ratio_integer.proofs.LowestTerms.{lowest_same}
use Rattle.ratio_integer.proofs.Whole.{mul_assoc, positive_nonzero}
use Rattle.ratio_core.specs.Order.{cross_cmp, sign}
use Rattle.ratio_core.proofs.CrossOrder.{cmp-less, cross_turned, upright}
use Rattle.ratio_core.proofs.SameValues.{cross_equal}

-- ---- a positive factor does not change the order

larger : (x y : ℤ) (k : ℕ) → 0 < k → x <ℤ y → (x *ℤ pos k) <ℤ (y *ℤ pos k)
larger x y k z h =
    let h1 : suc (up x + down y) ≤ up y + down x = omega (arith, ints) in
    let h2 : suc (up x + down y) * k ≤ (up y + down x) * k = mul-le-mul_right k h1 in
    omega (arith, ints)

scaled_at : (x y : ℤ) (k : ℕ) → 0 < k → (o : Ordering) → MatchOrdering o (x <ℤ y) (x ≡ y) (y <ℤ x) → MatchOrdering o ((x *ℤ pos k) <ℤ (y *ℤ pos k)) (x *ℤ pos k ≡ y *ℤ pos k) ((y *ℤ pos k) <ℤ (x *ℤ pos k))
scaled_at x y k z Less h = larger x y k z h
scaled_at x y k z Equal h = ap (λ w. w *ℤ pos k) h
scaled_at x y k z Greater h = larger y x k z h

pub scaled_cmp : (x y : ℤ) (k : ℕ) → 0 < k → int_cmp (x *ℤ pos k) (y *ℤ pos k) ≡ int_cmp x y
scaled_cmp x y k z = sym (int_cmp_is (x *ℤ pos k) (y *ℤ pos k) (int_cmp x y) (scaled_at x y k z (int_cmp x y) (int_ranks x y)))

turn_factors : (a : ℤ) (x y : ℕ) → (a *ℤ pos x) *ℤ pos y ≡ (a *ℤ pos y) *ℤ pos x
turn_factors a x y = mul_assoc a (pos x) (pos y) ∙ ap (λ w. a *ℤ w) (*ℤ_comm (pos x) (pos y)) ∙ sym (mul_assoc a (pos y) (pos x))

joined : (p q r s t w : ℤ) → p <ℤ q → r <ℤ s → p ≡ t → q ≡ r → s ≡ w → t <ℤ w
joined p q r s t w h k e f g = omega (arith, ints)

-- ---- three fractions a/x, b/y, c/z with positive denominators

module _ (a b c : ℤ) (x y z : ℕ) (px : 0 < x) (py : 0 < y) (pz : 0 < z) where
  chained : int_cmp (a *ℤ pos y) (b *ℤ pos x) ≡ Less → int_cmp (b *ℤ pos z) (c *ℤ pos y) ≡ Less → int_cmp (a *ℤ pos z) (c *ℤ pos x) ≡ Less
  chained h k =
      let h0 : (a *ℤ pos y) <ℤ (b *ℤ pos x) = int_ranked (a *ℤ pos y) (b *ℤ pos x) Less (sym h) in
      let k0 : (b *ℤ pos z) <ℤ (c *ℤ pos y) = int_ranked (b *ℤ pos z) (c *ℤ pos y) Less (sym k) in
      let h1 : ((a *ℤ pos y) *ℤ pos z) <ℤ ((b *ℤ pos x) *ℤ pos z) = larger (a *ℤ pos y) (b *ℤ pos x) z pz h0 in
      let k1 : ((b *ℤ pos z) *ℤ pos x) <ℤ ((c *ℤ pos y) *ℤ pos x) = larger (b *ℤ pos z) (c *ℤ pos y) x px k0 in
      let l : ((a *ℤ pos z) *ℤ pos y) <ℤ ((c *ℤ pos x) *ℤ pos y) = joined ((a *ℤ pos y) *ℤ pos z) ((b *ℤ pos x) *ℤ pos z) ((b *ℤ pos z) *ℤ pos x) ((c *ℤ pos y) *ℤ pos x) ((a *ℤ pos z) *ℤ pos y) ((c *ℤ pos x) *ℤ pos y) h1 k1 (turn_factors a y z) (turn_factors b x z) (turn_factors c y x) in
      sym (scaled_cmp (a *ℤ pos z) (c *ℤ pos x) y py) ∙ cmp-less ((a *ℤ pos z) *ℤ pos y) ((c *ℤ pos x) *ℤ pos y) l

  alike : int_cmp (a *ℤ pos y) (b *ℤ pos x) ≡ Equal → int_cmp (a *ℤ pos z) (c *ℤ pos x) ≡ int_cmp (b *ℤ pos z) (c *ℤ pos y)
  alike h =
      let h0 : a *ℤ pos y ≡ b *ℤ pos x = int_ranked (a *ℤ pos y) (b *ℤ pos x) Equal (sym h) in
      let e1 : (a *ℤ pos z) *ℤ pos y ≡ (b *ℤ pos z) *ℤ pos x = turn_factors a z y ∙ ap (λ w. w *ℤ pos z) h0 ∙ turn_factors b x z in
      sym (scaled_cmp (a *ℤ pos z) (c *ℤ pos x) y py) ∙ ap (λ w. int_cmp w ((c *ℤ pos x) *ℤ pos y)) e1 ∙ ap (λ w. int_cmp ((b *ℤ pos z) *ℤ pos x) w) (turn_factors c x y) ∙ scaled_cmp (b *ℤ pos z) (c *ℤ pos y) x px

-- ---- values with a numerator n and a denominator d that is not 0

module _ {K : Type 0} (n d : K → ℤ) (nonzero : (x : K) → d x ≢ pos 0) where
  pub cross_total : IsTotalOrder (λ (x y : K). cross_cmp (n x) (d x) (n y) (d y))
  cross_total =
      let D : K → ℕ = λ x. unsigned_abs (d x) in
      let N : K → ℤ = λ x. sign (d x) *ℤ n x in
      let p : (x : K) → 0 < D x = λ x. abs_pos (d x) (nonzero x) in
      let u : (x y : K) → cross_cmp (n x) (d x) (n y) (d y) ≡ int_cmp (N x *ℤ pos (D y)) (N y *ℤ pos (D x)) = λ x y. upright (n x) (d x) (n y) (d y) (nonzero x) (nonzero y) in
      record {
        antisymm = λ x y. cross_turned (n x) (d x) (n y) (d y) (nonzero x) (nonzero y);
        trans = λ x y z h k. u x z ∙ chained (N x) (N y) (N z) (D x) (D y) (D z) (p x) (p y) (p z) (sym (u x y) ∙ h) (sym (u y z) ∙ k);
        congr = λ x y z h. u x z ∙ alike (N x) (N y) (N z) (D x) (D y) (D z) (p x) (p y) (p z) (sym (u x y) ∙ h) ∙ sym (u y z);
      }

  pub cross_equivalence : IsEquivalence (eq_by_cmp (λ (x y : K). cross_cmp (n x) (d x) (n y) (d y)))
  cross_equivalence = eq_by_cmp_equiv cross_total

  pub cross_partial : IsPartialOrder (eq_by_cmp (λ (x y : K). cross_cmp (n x) (d x) (n y) (d y))) (as_partial_cmp (λ (x y : K). cross_cmp (n x) (d x) (n y) (d y)))
  cross_partial = partial_order_from_agreeing_total (λ (x y : K). cross_cmp (n x) (d x) (n y) (d y)) cross_total (λ x y. refl) (λ x y. refl)

-- ---- fractions that compare as equal

pub cross_reflexive : (n d : ℤ) → d ≢ pos 0 → cross_cmp n d n d ≡ Equal
cross_reflexive n d nonzero = (cross_equal n d n d nonzero nonzero).1 refl

-- fractions in lowest terms compare as equal exactly if their fields are the same
pub cross_lowest : (n d m e : ℤ) → IsLowestTerms n d → IsLowestTerms m e → (cross_cmp n d m e ≡ Equal) ↔ ((n ≡ m) × (d ≡ e))
cross_lowest n d m e first second =
    let dn = positive_nonzero d first.positive in
    let en = positive_nonzero e second.positive in (
      (λ h. lowest_same n d m e first second ((cross_equal n d m e dn en).0 h)),
      (λ same. ap (λ t. cross_cmp t d m e) same.0 ∙ ap (λ t. cross_cmp m t m e) same.1 ∙ cross_reflexive m e en),
    )
