-- Fractions compare as equal exactly if they have the same value, and exactly if they have the same quotients.
use Rattle.std.specs.Prelude.{◌≡◌, ◌≢◌, ◌⊎◌, ◌↔◌, ◌<ℤ◌, ◌*ℤ◌, ℤ, pos, negsuc, List, [], ◌∷◌}
use Rattle.std.proofs.Common.{refl, sym, ap, arith, inl, inr, subst, ◌∙◌}
use Rattle.std.proofs.lemmas.Int.{ints}
use Rattle.std.specs.Cmp.{int_cmp_is, int_ranked, int_ranks}
use Rattle.std.specs.Ordering.{MatchOrdering, int_cmp, ordering_reverse}
use Rattle.std.specs.declared.cmp.Ordering.{Ordering}
use Rattle.std.specs.declared.cmp.Ordering.TheVariants.{Less, Equal, Greater}
use Rattle.ratio_integer.specs.Division.{IsFloored}
use Rattle.ratio_integer.specs.Fraction.{SameValue}
use Rattle.ratio_core.specs.ContinuedFraction.{IsPartialQuotients}
use Rattle.ratio_core.specs.Order.{HaveUnlikeSigns, cross_cmp}
use Rattle.ratio_core.proofs.CrossOrder.{cross-across, cross-along, divided-greater, divided-less, tied-both, tied-first, tied-rest, tied-second}
use Rattle.ratio_core.proofs.Quotients.{Goes}

-- ---- by the cross products

cmp-equal : (x y : ℤ) → (int_cmp x y ≡ Equal) ↔ (x ≡ y)
cmp-equal x y = ((λ e. int_ranked x y Equal (sym e)), (λ e. sym (int_cmp_is x y Equal e)))

pub unlike_or_not : (d e : ℤ) → HaveUnlikeSigns d e ⊎ ¬ (HaveUnlikeSigns d e)
unlike_or_not (pos d) (pos e) = inr (λ h. grind (arith, ints))
unlike_or_not (pos d) (negsuc e) = inl (inr (omega (arith, ints), omega (arith, ints)))
unlike_or_not (negsuc d) (pos e) = inl (inl (omega (arith, ints), omega (arith, ints)))
unlike_or_not (negsuc d) (negsuc e) = inr (λ h. grind (arith, ints))

equal_by : (n d m e : ℤ) → d ≢ pos 0 → e ≢ pos 0 → HaveUnlikeSigns d e ⊎ ¬ (HaveUnlikeSigns d e) → (cross_cmp n d m e ≡ Equal) ↔ SameValue n d m e
equal_by n d m e dn en (inl h) = (
  (λ k. sym ((cmp-equal (m *ℤ d) (n *ℤ e)).0 (sym (cross-across n d m e dn en h) ∙ k))),
  (λ k. cross-across n d m e dn en h ∙ (cmp-equal (m *ℤ d) (n *ℤ e)).1 (sym k)),
)
equal_by n d m e dn en (inr h) = (
  (λ k. (cmp-equal (n *ℤ e) (m *ℤ d)).0 (sym (cross-along n d m e dn en h) ∙ k)),
  (λ k. cross-along n d m e dn en h ∙ (cmp-equal (n *ℤ e) (m *ℤ d)).1 k),
)

pub cross_equal : (n d m e : ℤ) → d ≢ pos 0 → e ≢ pos 0 → (cross_cmp n d m e ≡ Equal) ↔ SameValue n d m e
cross_equal n d m e dn en = equal_by n d m e dn en (unlike_or_not d e)

-- ---- by the quotients

equal_back : (o : Ordering) → ordering_reverse o ≡ Equal → o ≡ Equal
equal_back Less h = cc
equal_back Equal h = refl
equal_back Greater h = cc

value_of_rest : (n d r m e s p : ℤ) (ps : List ℤ) → IsFloored n d p r → IsFloored m e p s → Goes d r ps → Goes e s ps
    → (IsPartialQuotients d r ps → IsPartialQuotients e s ps → cross_cmp d r e s ≡ Equal) → cross_cmp n d m e ≡ Equal
value_of_rest n d r m e s p ps f g (inl h) (inl k) next = tied-both n d p r m e p s f g refl h.0 k.0
value_of_rest n d r m e s p ps f g (inl h) (inr k) next = absurd (subst (IsPartialQuotients e s) h.1 k.1)
value_of_rest n d r m e s p ps f g (inr h) (inl k) next = absurd (subst (IsPartialQuotients d r) k.1 h.1)
value_of_rest n d r m e s p ps f g (inr h) (inr k) next = tied-rest n d p r m e p s f g refl h.0 k.0 ∙ ap ordering_reverse (next h.1 k.1)

-- fractions with the same quotients compare as equal
pub value_of_quotients : (n d m e : ℤ) (ps : List ℤ) → IsPartialQuotients n d ps → IsPartialQuotients m e ps → cross_cmp n d m e ≡ Equal
value_of_quotients n d m e [] f g = absurd f
value_of_quotients n d m e (p ∷ ps) f g = value_of_rest n d f.0 m e g.0 p ps f.1 g.1 f.2 g.2 (λ h k. value_of_quotients d f.0 e g.0 ps h k)

first_same : (n d r m e s p q : ℤ) → IsFloored n d p r → IsFloored m e q s → cross_cmp n d m e ≡ Equal → (o : Ordering) → MatchOrdering o (p <ℤ q) (p ≡ q) (q <ℤ p) → p ≡ q
first_same n d r m e s p q f g h Less k = let l = divided-less n d p r m e q s f g k in cc
first_same n d r m e s p q f g h Equal k = k
first_same n d r m e s p q f g h Greater k = let l = divided-greater n d p r m e q s f g k in cc

rest_same : (n d r m e s p q : ℤ) (ps qs : List ℤ) → IsFloored n d p r → IsFloored m e q s → cross_cmp n d m e ≡ Equal → p ≡ q → Goes d r ps → Goes e s qs
    → (IsPartialQuotients d r ps → IsPartialQuotients e s qs → cross_cmp d r e s ≡ Equal → ps ≡ qs) → ps ≡ qs
rest_same n d r m e s p q ps qs f g h pq (inl a) (inl b) next = a.1 ∙ sym b.1
rest_same n d r m e s p q ps qs f g h pq (inl a) (inr b) next = let l = tied-first n d p r m e q s f g pq a.0 b.0 in cc
rest_same n d r m e s p q ps qs f g h pq (inr a) (inl b) next = let l = tied-second n d p r m e q s f g pq a.0 b.0 in cc
rest_same n d r m e s p q ps qs f g h pq (inr a) (inr b) next =
    next a.1 b.1 (equal_back (cross_cmp d r e s) (sym (tied-rest n d p r m e q s f g pq a.0 b.0) ∙ h))

-- fractions that compare as equal have the same quotients
pub quotients_of_value : (n d m e : ℤ) (ps qs : List ℤ) → IsPartialQuotients n d ps → IsPartialQuotients m e qs → cross_cmp n d m e ≡ Equal → ps ≡ qs
quotients_of_value n d m e [] qs f g h = absurd f
quotients_of_value n d m e (p ∷ ps) [] f g h = absurd g
quotients_of_value n d m e (p ∷ ps) (q ∷ qs) f g h =
    let pq : p ≡ q = first_same n d f.0 m e g.0 p q f.1 g.1 h (int_cmp p q) (int_ranks p q) in
    let rest : ps ≡ qs = rest_same n d f.0 m e g.0 p q ps qs f.1 g.1 h pq f.2 g.2 (λ a b k. quotients_of_value d f.0 e g.0 ps qs a b k) in
    ap (λ x. x ∷ ps) pq ∙ ap (λ x. q ∷ x) rest
