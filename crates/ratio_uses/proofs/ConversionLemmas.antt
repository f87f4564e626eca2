-- One more rate of a chain.
use Rattle.std.specs.Prelude.{◌≡◌, ◌*ℤ◌, ◌+◌, ◌<◌, ℕ, ℤ, pos, List, [], ◌∷◌, ◌++◌, length, take}
use Rattle.std.proofs.Common.{sym, ap, ◌∙◌, add-one, get_or}
use Rattle.std.proofs.Math.Seq.{take-suc}
use lib.IntN.{*ℤ_comm}
use Rattle.ratio_integer.specs.Arithmetic.{product_of}
use Rattle.ratio_integer.proofs.Whole.{mul_assoc}
use Rattle.ratio_core.specs.ManyProducts.{product_by}
use Rattle.ratio_uses.specs.Units.{converted}

module _ {A : Type 0} (f : A → ℤ) where
  product-more : (xs : List A) (x : A) → product_by f (xs ++ x ∷ []) ≡ product_by f xs *ℤ f x
  product-more [] x = *ℤ_comm (f x) (pos 1)
  product-more (y ∷ xs) x = ap (λ (t : ℤ). f y *ℤ t) (product-more xs x) ∙ sym (mul_assoc (f y) (product_by f xs) (f x))

module _ {A : Type 0} (view : A → ℤ × ℤ) (amount : ℤ × ℤ) where
  converted-more : (xs : List A) (x : A) → converted view amount (xs ++ x ∷ []) ≡ product_of (converted view amount xs).0 (converted view amount xs).1 (view x).0 (view x).1
  converted-more xs x =
      let first : amount.0 *ℤ product_by (λ rate. (view rate).0) (xs ++ x ∷ []) ≡ (amount.0 *ℤ product_by (λ rate. (view rate).0) xs) *ℤ (view x).0
      = ap (λ (t : ℤ). amount.0 *ℤ t) (product-more (λ rate. (view rate).0) xs x) ∙ sym (mul_assoc amount.0 _ (view x).0) in
      let second : amount.1 *ℤ product_by (λ rate. (view rate).1) (xs ++ x ∷ []) ≡ (amount.1 *ℤ product_by (λ rate. (view rate).1) xs) *ℤ (view x).1
      = ap (λ (t : ℤ). amount.1 *ℤ t) (product-more (λ rate. (view rate).1) xs x) ∙ sym (mul_assoc amount.1 _ (view x).1) in
      λ k. (first k, second k)

  -- one more rate, as a loop over the chain takes it
  pub converted-next : (xs : List A) (k : ℕ) (x : A) → k < length xs → x ≡ get_or xs k x → converted view amount (take (k + 1) xs) ≡ product_of (converted view amount (take k xs)).0 (converted view amount (take k xs)).1 (view x).0 (view x).1
  converted-next xs k x below is =
      ap (λ n. converted view amount (take n xs)) (add-one k)
      ∙ ap (converted view amount) (take-suc xs k x below ∙ ap (λ y. take k xs ++ y ∷ []) (sym is))
      ∙ converted-more (take k xs) x
