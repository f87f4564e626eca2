-- The laws of products and quotients of many fractions.
use Rattle.std.specs.Prelude.{◌≡◌, ◌≢◌, ◌<◌, ◌*ℤ◌, ℕ, ℤ, zero, suc, pos, List, [], ◌∷◌, ◌++◌, get_or, length, set, swap, IsPermutation, Some}
use Rattle.std.proofs.Common.{ap, arith, refl, subst, sym, ◌∙◌}
use Rattle.std.proofs.lemmas.List.Sorted.{IsPermutation-keeps}
use lib.IntN.{*ℤ_comm, *ℤ-zero, zero-*ℤ}
use Rattle.ratio_integer.specs.Arithmetic.{product_of}
use Rattle.ratio_integer.specs.Fraction.{SameValue}
use Rattle.ratio_integer.proofs.LowestTerms.{same_value_products}
use Rattle.ratio_integer.proofs.Whole.{mul_assoc, mul_nonzero}
use Rattle.ratio_core.specs.ManyProducts.{product_by}
use Rattle.ratio_core.proofs.ManyProductLemmas.{product-append}
use Rattle.num_rational.specs.declared.reduced.Reduced.{Reduced}
use Rattle.num_rational.specs.ManyProducts.{denominator_product, numerator_product, product_of_items, quotient_of_items}
use Rattle.num_rational.specs.Ratio.{ChecksRatio, denominator, numerator}
use Rattle.num_rational.specs.Reduced.{ratio_in}
use Rattle.ratio_laws.specs.ManyProductLaws.{DividesManyInParts, HasOneProductOfMany, HasOneQuotientOfMany, MultipliesManyInParts}
use Rattle.ratio_laws.proofs.ReducedLemmas.{one_pair}
use Rattle.ratio_laws.proofs.ResultLemmas.{denominator_nonzero, one_result, one_result_if_any, product_nonzero, same_answers}

-- ---- a list in another order

mul-swap_first : (a b c : ℤ) → a *ℤ (b *ℤ c) ≡ b *ℤ (a *ℤ c)
mul-swap_first a b c = sym (mul_assoc a b c) ∙ ap (λ (t : ℤ). t *ℤ c) (*ℤ_comm a b) ∙ mul_assoc b a c

module _ {A : Type 0} (value : A → ℤ) where
  -- the first item and a later one in each other's place
  with_first : (x : A) (ys : List A) (j : ℕ) (d : A) → j < length ys → value (get_or ys j d) *ℤ product_by value (set ys j x) ≡ value x *ℤ product_by value ys
  with_first x [] j d inside = absurd (omega arith)
  with_first x (y ∷ ys) zero d inside = mul-swap_first (value y) (value x) (product_by value ys)
  with_first x (y ∷ ys) (suc j) d inside =
      mul-swap_first (value (get_or ys j d)) (value y) (product_by value (set ys j x))
      ∙ ap (λ (t : ℤ). value y *ℤ t) (with_first x ys j d (omega arith))
      ∙ mul-swap_first (value y) (value x) (product_by value ys)

  -- two items in each other's place
  exchanged : (xs : List A) (i j : ℕ) (d : A) → i < length xs → j < length xs → product_by value (set (set xs i (get_or xs j d)) j (get_or xs i d)) ≡ product_by value xs
  exchanged [] i j d here there = absurd (omega arith)
  exchanged (x ∷ xs) zero zero d here there = refl
  exchanged (x ∷ xs) zero (suc j) d here there = with_first x xs j d (omega arith)
  exchanged (x ∷ xs) (suc i) zero d here there = with_first x xs i d (omega arith)
  exchanged (x ∷ xs) (suc i) (suc j) d here there = ap (λ (t : ℤ). value x *ℤ t) (exchanged xs i j d (omega arith) (omega arith))

  swapped : (xs : List A) (i j : ℕ) → i < length xs → j < length xs → product_by value (swap xs i j) ≡ product_by value xs
  swapped [] i j here there = refl
  swapped (x ∷ xs) i j here there = exchanged (x ∷ xs) i j x here there

  in_any_order : (xs ys : List A) → IsPermutation xs ys → product_by value xs ≡ product_by value ys
  in_any_order xs ys order = IsPermutation-keeps xs (λ zs. product_by value xs ≡ product_by value zs) refl (λ zs i j here there before. before ∙ sym (swapped zs i j here there)) ys order

products_in_any_order : {A : Type 0} (view : A → ℤ × ℤ) (xs ys : List A) → IsPermutation xs ys → product_of_items view xs ≡ product_of_items view ys
products_in_any_order view xs ys order =
    one_pair (product_of_items view xs) (product_of_items view ys) (in_any_order (λ x. (view x).0) xs ys order, in_any_order (λ x. (view x).1) xs ys order)

quotients_in_any_order : {A B : Type 0} (view : A → ℤ × ℤ) (shows : B → ℤ × ℤ) (xs others : List A) (ys divisors : List B) → IsPermutation xs others → IsPermutation ys divisors
    → quotient_of_items view xs shows ys ≡ quotient_of_items view others shows divisors
quotients_in_any_order view shows xs others ys divisors above below =
    ap (λ (w : ℤ × ℤ). (w.0 *ℤ denominator_product shows ys, w.1 *ℤ numerator_product shows ys)) (products_in_any_order view xs others above)
    ∙ ap (λ (w : ℤ × ℤ). (numerator_product view others *ℤ w.1, denominator_product view others *ℤ w.0)) (products_in_any_order shows ys divisors below)

pub has_one_product_of_many : {T : _} {i : _} {o : _} {e : _} {p : _} {h : _} {A : Type 0} (view : A → ℤ × ℤ) (x : Reduced T i o e p h) (xs ys : List A) → HasOneProductOfMany view x xs ys
has_one_product_of_many view x xs ys r order first second =
    same_answers (numerator_product view ys) (denominator_product view ys) (Some x) r
    (subst (λ (w : ℤ × ℤ). ChecksRatio w (ratio_in (Some x))) (products_in_any_order view xs ys order) first) second

pub has_one_quotient_of_many : {T : _} {i : _} {o : _} {e : _} {p : _} {h : _} {A B : Type 0} (view : A → ℤ × ℤ) (shows : B → ℤ × ℤ) (x : Reduced T i o e p h) (xs others : List A) (ys divisors : List B)
    → HasOneQuotientOfMany view shows x xs others ys divisors
has_one_quotient_of_many view shows x xs others ys divisors r above below first second =
    same_answers (quotient_of_items view others shows divisors).0 (quotient_of_items view others shows divisors).1 (Some x) r
    (subst (λ (w : ℤ × ℤ). ChecksRatio w (ratio_in (Some x))) (quotients_in_any_order view shows xs others ys divisors above below) first) second

-- ---- a list in parts

joined : {A : Type 0} (view : A → ℤ × ℤ) (xs ys : List A)
    → product_of_items view (xs ++ ys) ≡ product_of (numerator_product view xs) (denominator_product view xs) (numerator_product view ys) (denominator_product view ys)
joined view xs ys = one_pair (product_of_items view (xs ++ ys)) _ (product-append (λ x. (view x).0) xs ys, product-append (λ x. (view x).1) xs ys)

pub multiplies_many_in_parts : {T : _} {i : _} {o : _} {e : _} {p : _} {h : _} {A : Type 0} (view : A → ℤ × ℤ) (x : Reduced T i o e p h) (xs ys : List A) → MultipliesManyInParts view x xs ys
multiplies_many_in_parts view x xs ys y product both first second told whole =
    one_result (numerator x.ratio *ℤ numerator y.ratio) (denominator x.ratio *ℤ denominator y.ratio)
    (numerator_product view xs *ℤ numerator_product view ys) (denominator_product view xs *ℤ denominator_product view ys) product both
    (product_nonzero x y)
    (mul_nonzero (denominator_product view xs) (denominator_product view ys) first.terms.fraction second.terms.fraction)
    (same_value_products (numerator_product view xs) (denominator_product view xs) (numerator_product view ys) (denominator_product view ys) (numerator x.ratio) (denominator x.ratio) (numerator y.ratio) (denominator y.ratio)
    first.terms.same second.terms.same)
    told (subst (λ (w : ℤ × ℤ). ChecksRatio w (ratio_in both)) (joined view xs ys) whole)

right_nonzero : (a b : ℤ) → a *ℤ b ≢ pos 0 → b ≢ pos 0
right_nonzero a b nonzero none = nonzero (ap (λ (t : ℤ). a *ℤ t) none ∙ *ℤ-zero a)

-- of two fractions of one value, one is 0 only if the other is
numerators_nonzero : (n d a b : ℤ) → d ≢ pos 0 → SameValue n d a b → a ≢ pos 0 → n ≢ pos 0
numerators_nonzero n d a b fraction same nonzero none =
    mul_nonzero a d nonzero fraction (sym same ∙ ap (λ (t : ℤ). t *ℤ b) none ∙ zero-*ℤ b)

pub divides_many_in_parts : {T : _} {i : _} {o : _} {e : _} {p : _} {h : _} {A B : Type 0} (view : A → ℤ × ℤ) (shows : B → ℤ × ℤ) (x : Reduced T i o e p h) (xs : List A) (ys : List B) → DividesManyInParts view shows x xs ys
divides_many_in_parts view shows x xs ys y quotient whole first second told other =
    let m = numerator_product shows ys in
    let b = denominator_product shows ys in
    let c = numerator y.ratio in
    let e = denominator y.ratio in
    one_result_if_any (numerator x.ratio *ℤ e) (denominator x.ratio *ℤ c) (numerator_product view xs *ℤ b) (denominator_product view xs *ℤ m) quotient whole
    (λ nonzero. mul_nonzero (denominator_product view xs) m first.terms.fraction (numerators_nonzero m b c e second.terms.fraction second.terms.same (right_nonzero (denominator x.ratio) c nonzero)))
    (λ nonzero. mul_nonzero (denominator x.ratio) c (denominator_nonzero x) (numerators_nonzero c e m b (denominator_nonzero y) (sym second.terms.same) (right_nonzero (denominator_product view xs) m nonzero)))
    (same_value_products (numerator_product view xs) (denominator_product view xs) b m (numerator x.ratio) (denominator x.ratio) e c first.terms.same (*ℤ_comm b c ∙ sym second.terms.same ∙ *ℤ_comm m e))
    told other
