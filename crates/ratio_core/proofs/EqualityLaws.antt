-- Two tests: fractions are equal if their cross products are, and the numerators decide if a positive denominator is shared.
-- With these a crate above proves the laws of its comparisons and of its hash.
use Rattle.std.specs.Prelude.{◌≡◌, ◌≢◌, ◌⊎◌, ◌↔◌, ◌<ℤ◌, ◌*ℤ◌, ℕ, ℤ, pos, negsuc, Bool, true, IsTrue, List}
use Rattle.std.proofs.Common.{refl, sym, ap, arith, inl, inr, subst, ◌∙◌}
use Rattle.std.proofs.lemmas.Bool.Decides.{Decides-int_eq}
use Rattle.std.proofs.lemmas.Cmp.{int_eq_equiv}
use Rattle.std.proofs.lemmas.Int.{ints}
use Rattle.std.specs.Cmp.{IsEquivalence, IsPartialOrder, partial_order_from_agreeing_total}
use Rattle.std.specs.List.{flat_map}
use Rattle.std.specs.Ordering.{as_partial_cmp, eq_by_cmp, int_cmp, int_eq, is_eq}
use Rattle.ratio_integer.specs.Fraction.{IsLowestTerms, SameValue}
use Rattle.ratio_integer.proofs.LowestTerms.{lowest_same}
use Rattle.ratio_integer.proofs.Whole.{positive_nonzero}
use Rattle.ratio_core.specs.Order.{HaveUnlikeSigns, cross_cmp}
use Rattle.ratio_core.proofs.CrossOrder.{cross-across, cross-along}
use Rattle.ratio_core.proofs.HashLaws.{codes_of, same_writes}
use Rattle.ratio_core.proofs.OrderLaws.{cross_equivalence, cross_total, scaled_cmp}
use Rattle.ratio_core.proofs.SameValues.{unlike_or_not}

test_by : (n d m e : ℤ) → d ≢ pos 0 → e ≢ pos 0 → HaveUnlikeSigns d e ⊎ ¬ (HaveUnlikeSigns d e) → int_eq (n *ℤ e) (m *ℤ d) ≡ is_eq (cross_cmp n d m e)
test_by n d m e dn en (inl h) = int_eq_equiv.symm (n *ℤ e) (m *ℤ d) ∙ sym (ap is_eq (cross-across n d m e dn en h))
test_by n d m e dn en (inr h) = sym (ap is_eq (cross-along n d m e dn en h))

-- the cross products are equal exactly if the order is `Equal`
pub same_test : (n d m e : ℤ) → d ≢ pos 0 → e ≢ pos 0 → int_eq (n *ℤ e) (m *ℤ d) ≡ is_eq (cross_cmp n d m e)
same_test n d m e dn en = test_by n d m e dn en (unlike_or_not d e)

-- the result of this test is true exactly if the values are the same
pub told_same : (n d m e : ℤ) (answer : Bool) → answer ≡ int_eq (n *ℤ e) (m *ℤ d) → IsTrue answer ↔ SameValue n d m e
told_same n d m e answer is = subst (λ r. IsTrue r ↔ SameValue n d m e) (sym is) (Decides-int_eq (n *ℤ e) (m *ℤ d))

pub told_lowest : (n d m e : ℤ) (answer : Bool) → answer ≡ int_eq (n *ℤ e) (m *ℤ d) → IsLowestTerms n d → IsLowestTerms m e → IsTrue answer ↔ ((n ≡ m) × (d ≡ e))
told_lowest n d m e answer is first second =
    let told = told_same n d m e answer is in (
      (λ yes. lowest_same n d m e first second (told.0 yes)),
      (λ same. told.1 (ap (λ t. t *ℤ e) same.0 ∙ ap (λ t. m *ℤ t) (sym same.1))),
    )

-- ---- values with a numerator n and a denominator d that is not 0

module _ {K : Type 0} (n d : K → ℤ) (nonzero : (x : K) → d x ≢ pos 0) where
  pub same_agrees : (x y : K) → int_eq (n x *ℤ d y) (n y *ℤ d x) ≡ eq_by_cmp (λ (x y : K). cross_cmp (n x) (d x) (n y) (d y)) x y
  same_agrees x y = same_test (n x) (d x) (n y) (d y) (nonzero x) (nonzero y)

  pub same_equivalence : IsEquivalence (λ (x y : K). int_eq (n x *ℤ d y) (n y *ℤ d x))
  same_equivalence = subst IsEquivalence (λ i x y. sym (same_agrees x y) i) (cross_equivalence n d nonzero)

  pub same_partial : IsPartialOrder (λ (x y : K). int_eq (n x *ℤ d y) (n y *ℤ d x)) (as_partial_cmp (λ (x y : K). cross_cmp (n x) (d x) (n y) (d y)))
  same_partial = partial_order_from_agreeing_total (λ (x y : K). cross_cmp (n x) (d x) (n y) (d y)) (cross_total n d nonzero) (λ x y. refl) same_agrees

  -- values that are hashed by their codes feed the same if they have the same value
  pub same_writes_by_value : (write : ℤ → List (List ℕ)) (lo hi : ℤ) (x y : K) → int_eq (n x *ℤ d y) (n y *ℤ d x) ≡ true
      → flat_map write (codes_of lo hi (n x) (d x) (nonzero x)) ≡ flat_map write (codes_of lo hi (n y) (d y) (nonzero y))
  same_writes_by_value write lo hi x y h = same_writes n d nonzero write lo hi x y (sym (same_agrees x y) ∙ h)

-- ---- a shared denominator

shared : (n d m : ℤ) → pos 0 <ℤ d → cross_cmp n d m d ≡ int_cmp n m
shared n (pos k) m h =
    let apart = positive_nonzero (pos k) h in
    let along : cross_cmp n (pos k) m (pos k) ≡ int_cmp (n *ℤ pos k) (m *ℤ pos k) = cross-along n (pos k) m (pos k) apart apart (λ unlike. grind (arith, ints)) in
    along ∙ scaled_cmp n m k (omega (arith, ints))
shared n (negsuc k) m h = absurd (grind (arith, ints))

-- if a positive denominator is shared, the numerators decide
pub cross_shared : (n d m e : ℤ) → d ≡ e → pos 0 <ℤ d → int_cmp n m ≡ cross_cmp n d m e
cross_shared n d m e same positive = sym (shared n d m positive) ∙ ap (cross_cmp n d m) same
