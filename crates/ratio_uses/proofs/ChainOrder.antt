-- The product of a list does not depend on the order of its items.
use Rattle.std.specs.Prelude.{◌≡◌, ◌≢◌, ◌⊎◌, ◌<◌, ◌*ℤ◌, ℕ, ℤ, zero, suc, pos, List, [], ◌∷◌, length, IsPermutation}
use Rattle.std.specs.List.{swap}
use Rattle.std.proofs.Common.{refl, sym, ap, subst, ◌∙◌, arith, inl, inr, get_or}
use Rattle.std.proofs.Math.ListN.{set}
use Rattle.std.proofs.lemmas.List.{length-set, set-get_or}
use Rattle.std.proofs.lemmas.List.Edits.{swap_is}
use Rattle.std.proofs.lemmas.List.Sorted.{IsPermutation-keeps}
use lib.IntN.{*ℤ_comm}
use Rattle.ratio_integer.proofs.LowestTerms.{lowest_unique}
use Rattle.ratio_integer.proofs.Whole.{mul_assoc}
use Rattle.ratio_core.specs.ManyProducts.{product_by}
use Rattle.ratio_uses.specs.Units.{OrderIsFree}

module _ {A : Type 0} (f : A → ℤ) where
  turned : (a b c : ℤ) → a *ℤ (b *ℤ c) ≡ b *ℤ (a *ℤ c)
  turned a b c = sym (mul_assoc a b c) ∙ ap (λ (z : ℤ). z *ℤ c) (*ℤ_comm a b) ∙ mul_assoc b a c

  -- the product of all items but the i-th
  abbrev others : List A → ℕ → ℤ
  others [] i = pos 1
  others (x ∷ xs) zero = product_by f xs
  others (x ∷ xs) (suc i) = f x *ℤ others xs i

  product-set : (xs : List A) (i : ℕ) (v : A) → i < length xs → product_by f (set xs i v) ≡ f v *ℤ others xs i
  product-set [] i v below = absurd (omega arith)
  product-set (x ∷ xs) zero v below = refl
  product-set (x ∷ xs) (suc i) v below = ap (λ (z : ℤ). f x *ℤ z) (product-set xs i v (omega arith)) ∙ turned (f x) (f v) (others xs i)

  product-at : (xs : List A) (i : ℕ) (d : A) → i < length xs → product_by f xs ≡ f (get_or xs i d) *ℤ others xs i
  product-at xs i d below = ap (product_by f) (sym (set-get_or xs i d)) ∙ product-set xs i (get_or xs i d) below

  others-set : (xs : List A) (i j : ℕ) (v d : A) → i < length xs → j < length xs → i ≢ j → f (get_or xs i d) *ℤ others (set xs i v) j ≡ f v *ℤ others xs j
  others-set [] i j v d i_below j_below apart = absurd (omega arith)
  others-set (x ∷ xs) zero zero v d i_below j_below apart = absurd (apart refl)
  others-set (x ∷ xs) zero (suc j) v d i_below j_below apart = turned (f x) (f v) (others xs j)
  others-set (x ∷ xs) (suc i) zero v d i_below j_below apart =
      ap (λ (z : ℤ). f (get_or xs i d) *ℤ z) (product-set xs i v (omega arith)) ∙ turned (f (get_or xs i d)) (f v) (others xs i) ∙ ap (λ (z : ℤ). f v *ℤ z) (sym (product-at xs i d (omega arith)))
  others-set (x ∷ xs) (suc i) (suc j) v d i_below j_below apart =
      turned (f (get_or xs i d)) (f x) (others (set xs i v) j) ∙ ap (λ (z : ℤ). f x *ℤ z) (others-set xs i j v d (omega arith) (omega arith) (λ same. apart (ap suc same))) ∙ turned (f x) (f v) (others xs j)

  exchanged : (xs : List A) (i j : ℕ) (d : A) → i < length xs → j < length xs → (i ≡ j) ⊎ (i ≢ j) → product_by f (set (set xs i (get_or xs j d)) j (get_or xs i d)) ≡ product_by f xs
  exchanged xs i j d i_below j_below (inl same) =
      let first : set xs i (get_or xs j d) ≡ xs = subst (λ k. set xs i (get_or xs k d) ≡ xs) same (set-get_or xs i d) in
      ap (λ ys. product_by f (set ys j (get_or xs i d))) first ∙ ap (product_by f) (subst (λ k. set xs k (get_or xs i d) ≡ xs) same (set-get_or xs i d))
  exchanged xs i j d i_below j_below (inr apart) =
      product-set (set xs i (get_or xs j d)) j (get_or xs i d) (rw length-set j_below) ∙ others-set xs i j (get_or xs j d) d i_below j_below apart ∙ sym (product-at xs j d j_below)

  either : (i j : ℕ) → (i ≡ j) ⊎ (i ≢ j)
  either i j = grind arith

  product-swap : (xs : List A) (i j : ℕ) → i < length xs → j < length xs → product_by f (swap xs i j) ≡ product_by f xs
  product-swap [] i j i_below j_below = refl
  product-swap (d ∷ xs) i j i_below j_below = ap (product_by f) (sym (swap_is (d ∷ xs) i j d i_below j_below)) ∙ exchanged (d ∷ xs) i j d i_below j_below (either i j)

  product-permuted : (xs ys : List A) → IsPermutation xs ys → product_by f ys ≡ product_by f xs
  product-permuted xs ys moved = IsPermutation-keeps xs (λ zs. product_by f zs ≡ product_by f xs) refl (λ zs i j i_below j_below same. product-swap zs i j i_below j_below ∙ same) ys moved

pub order_free : OrderIsFree
order_free amount rates others x y moved first second =
    let numers = product-permuted (λ rate. rate.0) rates others moved in
    let denoms = product-permuted (λ rate. rate.1) rates others moved in
    let same = lowest_unique _ _ x.0 x.1 y.0 y.1 first (rw (numers, denoms) at second) in
    λ k. (same.0 k, same.1 k)
