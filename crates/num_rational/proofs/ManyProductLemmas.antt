-- Products and quotients of many fractions: what one more item gives, and the numbers of items in the lists of a caller.
use Rattle.std.specs.Prelude.{◌≡◌, ◌≢◌, ◌+◌, ◌<◌, ◌<ℤ◌, ◌*ℤ◌, ℕ, ℤ, pos, List, [], ◌∷◌, ◌++◌, length}
use Rattle.std.proofs.Common.{refl, sym, ap, subst, arith, ◌∙◌, get_or, take, set}
use Rattle.std.proofs.Math.Seq.{take-length}
use Rattle.std.proofs.lemmas.Int.{ints}
use lib.IntN.{one, *ℤ-one, *ℤ-zero}
use Rattle.ratio_integer.specs.Fraction.{Fits, IsHeldLowest, SameValue}
use Rattle.ratio_integer.proofs.LowestTerms.{held_lowest_moved, same_value_chained, same_value_products}
use Rattle.ratio_integer.proofs.Whole.{mul_assoc, mul_nonzero, mul_positive, positive_nonzero}
use Rattle.ratio_core.proofs.Floored.{one-mul}
use Rattle.ratio_core.specs.ManyProducts.{product_by}
use Rattle.ratio_core.proofs.ManyProductLemmas.{product-append, product_more_set, product_with}
use Rattle.num_rational.specs.ManyProducts.{denominator_product, numerator_product}

module _ {A : Type 0} (f : A → ℤ) where
  -- one more item of a loop that writes its numbers
  pub product_written : {B : Type 0} (value : B → ℤ) (xs : List A) (ys : List B) (i : ℕ) (x : A) (y : B) → i < length xs → x ≡ get_or xs i x → i < length ys → value y ≡ f x → product_by value (take i ys) ≡ product_by f (take i xs) → product_by value (take (i + 1) (set ys i y)) ≡ product_by f (take (i + 1) xs)
  product_written value xs ys i x y inside is y_inside same so_far =
      product_more_set value ys i y y_inside
      ∙ ap (λ (t : ℤ). t *ℤ value y) so_far
      ∙ ap (λ (t : ℤ). product_by f (take i xs) *ℤ t) same
      ∙ sym (product_with f xs i x inside is)

-- ---- step by step

right_nonzero : (a b : ℤ) → a *ℤ b ≢ pos 0 → b ≢ pos 0
right_nonzero a b nonzero none = nonzero (ap (λ (t : ℤ). a *ℤ t) none ∙ *ℤ-zero a)

-- a/b are the lowest terms of n/d
module _ (lo hi n d a b : ℤ) (so_far : IsHeldLowest lo hi n d a b) where
  -- one more factor x/y
  pub factor_more : (x y p q : ℤ) → IsHeldLowest lo hi (a *ℤ x) (b *ℤ y) p q → IsHeldLowest lo hi (n *ℤ x) (d *ℤ y) p q
  factor_more x y p q next =
      held_lowest_moved lo hi (a *ℤ x) (b *ℤ y) (n *ℤ x) (d *ℤ y) p q
      (mul_nonzero d y so_far.terms.fraction (right_nonzero b y next.terms.fraction))
      (same_value_products n d x y a b x y so_far.terms.same refl) next

-- a/b has the value of n/d, and b is positive
pub record IsSoFar (n d a b : ℤ) : Type 0 where
  pub fraction : d ≢ pos 0
  pub up : pos 0 <ℤ b
  pub same : SameValue n d a b

pub so_far_one : (n d : ℤ) → n ≡ pos 1 → d ≡ pos 1 → IsSoFar (pos 1) (pos 1) n d
so_far_one n d n_one d_one = rw (n_one, d_one) (record { fraction = λ e. absurd (omega (arith, ints)); up = omega (arith, ints); same = refl })

pub so_far_lowest : (lo hi n d a b : ℤ) → IsHeldLowest lo hi n d a b → IsSoFar n d a b
so_far_lowest lo hi n d a b low = record { fraction = low.terms.fraction; up = low.terms.lowest.positive; same = low.terms.same }

pub lowest_so_far : (lo hi n d a b p q : ℤ) → IsSoFar n d a b → IsHeldLowest lo hi a b p q → IsHeldLowest lo hi n d p q
lowest_so_far lo hi n d a b p q so_far low = held_lowest_moved lo hi a b n d p q so_far.fraction so_far.same low

module _ (n d a b : ℤ) (so_far : IsSoFar n d a b) where
  -- one more factor x/y
  pub so_far_more : (x y p q : ℤ) → pos 0 <ℤ y → pos 0 <ℤ q → SameValue (a *ℤ x) (b *ℤ y) p q → IsSoFar (n *ℤ x) (d *ℤ y) p q
  so_far_more x y p q y_up q_up next = record {
    fraction = mul_nonzero d y so_far.fraction (positive_nonzero y y_up);
    up = q_up;
    same = same_value_chained (n *ℤ x) (d *ℤ y) (a *ℤ x) (b *ℤ y) p q (mul_nonzero b y (positive_nonzero b so_far.up) (positive_nonzero y y_up))
        (same_value_products n d x y a b x y so_far.same refl) next;
  }

  -- the product is out of range if the one of the same value is
  pub factor_out : (lo hi x y : ℤ) → ¬ (Fits lo hi (a *ℤ x) (b *ℤ y)) → ¬ (Fits lo hi (n *ℤ x) (d *ℤ y))
  factor_out lo hi x y out fits =
      out (record {
        numer = fits.numer;
        denom = fits.denom;
        low = held_lowest_moved lo hi (n *ℤ x) (d *ℤ y) (a *ℤ x) (b *ℤ y) fits.numer fits.denom
            (mul_nonzero b y (positive_nonzero b so_far.up) (right_nonzero d y fits.low.terms.fraction))
            (sym (same_value_products n d x y a b x y so_far.same refl)) fits.low;
      })

-- the products of both numbers as they are
pub formed : (n d x y p q numer denom : ℤ) → p ≡ x → q ≡ y → numer ≡ n *ℤ p → denom ≡ d *ℤ q → pos 0 <ℤ d → pos 0 <ℤ y → (pos 0 <ℤ denom) × SameValue (n *ℤ x) (d *ℤ y) numer denom
formed n d x y p q numer denom p-is q-is numer-is denom-is up more = rw (numer-is, denom-is, p-is, q-is) (mul_positive d y up more, refl)

-- a product with 1/1
pub times_one : (n d x y : ℤ) → n ≡ pos 1 → d ≡ pos 1 → SameValue (n *ℤ x) (d *ℤ y) x y
times_one n d x y n_one d_one = rw (n_one, d_one, one-mul x, one-mul y) refl

module _ {A : Type 0} (view : A → ℤ × ℤ) (lo hi : ℤ) (xs : List A) (i : ℕ) (x : A) (inside : i < length xs) (is : x ≡ get_or xs i x) (a b : ℤ) (pair : ℤ × ℤ) (seen : pair ≡ view x) (p q : ℤ) where
  pub above_more : IsSoFar (numerator_product view (take i xs)) (denominator_product view (take i xs)) a b → pos 0 <ℤ pair.1 → pos 0 <ℤ q → SameValue (a *ℤ pair.0) (b *ℤ pair.1) p q → IsSoFar (numerator_product view (take (i + 1) xs)) (denominator_product view (take (i + 1) xs)) p q
  above_more so_far pair_up q_up next =
      rw (product_with (λ y. (view y).0) xs i x inside is, product_with (λ y. (view y).1) xs i x inside is)
      (rw seen at (so_far_more _ _ a b so_far pair.0 pair.1 p q pair_up q_up next))

  pub below_more : (n d : ℤ) → IsHeldLowest lo hi (n *ℤ denominator_product view (take i xs)) (d *ℤ numerator_product view (take i xs)) a b → IsHeldLowest lo hi (a *ℤ pair.1) (b *ℤ pair.0) p q → IsHeldLowest lo hi (n *ℤ denominator_product view (take (i + 1) xs)) (d *ℤ numerator_product view (take (i + 1) xs)) p q
  below_more n d so_far next =
      rw (product_with (λ y. (view y).0) xs i x inside is, product_with (λ y. (view y).1) xs i x inside is, sym (mul_assoc n (denominator_product view (take i xs)) (view x).1), sym (mul_assoc d (numerator_product view (take i xs)) (view x).0))
      (rw seen at (factor_more lo hi _ _ a b so_far pair.1 pair.0 p q next))

  -- the last step is out of range, and so is the whole
  all : i + 1 ≡ length xs → take (i + 1) xs ≡ xs
  all last = ap (λ k. take k xs) last ∙ take-length xs

  pub above_out : IsSoFar (numerator_product view (take i xs)) (denominator_product view (take i xs)) a b → ¬ (Fits lo hi (a *ℤ pair.0) (b *ℤ pair.1)) → i + 1 ≡ length xs → ¬ (Fits lo hi (numerator_product view xs) (denominator_product view xs))
  above_out so_far out last = subst (λ ys. ¬ (Fits lo hi (numerator_product view ys) (denominator_product view ys))) (all last)
      (rw (product_with (λ y. (view y).0) xs i x inside is, product_with (λ y. (view y).1) xs i x inside is)
      (factor_out _ _ a b so_far lo hi (view x).0 (view x).1 (rw seen at out)))

  pub below_out : (n d : ℤ) → IsHeldLowest lo hi (n *ℤ denominator_product view (take i xs)) (d *ℤ numerator_product view (take i xs)) a b → ¬ (Fits lo hi (a *ℤ pair.1) (b *ℤ pair.0)) → i + 1 ≡ length xs → ¬ (Fits lo hi (n *ℤ denominator_product view xs) (d *ℤ numerator_product view xs))
  below_out n d so_far out last = subst (λ ys. ¬ (Fits lo hi (n *ℤ denominator_product view ys) (d *ℤ numerator_product view ys))) (all last)
      (rw (product_with (λ y. (view y).0) xs i x inside is, product_with (λ y. (view y).1) xs i x inside is, sym (mul_assoc n (denominator_product view (take i xs)) (view x).1), sym (mul_assoc d (numerator_product view (take i xs)) (view x).0))
      (factor_out _ _ a b (so_far_lowest lo hi _ _ a b so_far) lo hi (view x).1 (view x).0 (rw seen at out)))

-- ---- without items below

pub times_nothing : (z : ℤ) → z *ℤ pos 1 ≡ z
unfolding one
times_nothing z = *ℤ-one z

pub none_below : {B : Type 0} (shows : B → ℤ × ℤ) (ys : List B) (lo hi n d : ℤ) → length ys ≡ 0 → ¬ (Fits lo hi n d) → ¬ (Fits lo hi (n *ℤ denominator_product shows ys) (d *ℤ numerator_product shows ys))
none_below shows [] lo hi n d none out = rw (times_nothing n, times_nothing d) out
none_below shows (y ∷ ys) lo hi n d none out = absurd (omega arith)

pub below_start : (lo hi n d a b : ℤ) → IsHeldLowest lo hi n d a b → IsHeldLowest lo hi (n *ℤ pos 1) (d *ℤ pos 1) a b
below_start lo hi n d a b so_far = rw (times_nothing n, times_nothing d) so_far

-- ---- the numbers of two lists, one after another

pub parts_product : {B : Type 0} (value : B → ℤ) (xs ys : List B) (p q : ℤ) → product_by value xs ≡ p → product_by value ys ≡ q → product_by value (xs ++ ys) ≡ p *ℤ q
parts_product value xs ys p q first second =
    product-append value xs ys ∙ ap (λ (t : ℤ). t *ℤ product_by value ys) first ∙ ap (λ (t : ℤ). p *ℤ t) second

-- equal pairs have the same lowest terms
module _ (lo hi n d m e : ℤ) (first : n ≡ m) (second : d ≡ e) where
  pub held_same : (a b : ℤ) → IsHeldLowest lo hi n d a b → IsHeldLowest lo hi m e a b
  held_same a b held = rw (sym first, sym second) held

  pub out_same : ¬ (Fits lo hi n d) → ¬ (Fits lo hi m e)
  out_same out = rw (sym first, sym second) out
