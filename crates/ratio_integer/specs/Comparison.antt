-- What a comparison of two values tells about their numbers.
use Rattle.std.specs.Prelude.{◌≡◌, ◌⊎◌, ◌≤ℤ◌, ◌<ℤ◌, ℤ, Bool, true, false, Option, Some}
use Rattle.std.specs.Ordering.{int_cmp, is_lt, partial_lt, partial_le, partial_gt, partial_ge, is_le, is_gt, is_ge, MatchOrdering}
use Rattle.std.specs.declared.cmp.Ordering.{Ordering, TheVariants.Less, TheVariants.Equal, TheVariants.Greater}
use Rattle.std.proofs.Common.{refl, sym, inl, inr, arith, ◌∙◌}
use Rattle.std.proofs.lemmas.Int.{ints}
use Rattle.std.proofs.lemmas.Cmp.{int_ranked}

-- the test b is true and P holds, or it is false and Q holds
-- Example: `3 < 5`: true
abbrev pub Tells : Bool → Type 0 → Type 0 → Type 0
Tells b P Q = ((b ≡ true) × P) ⊎ ((b ≡ false) × Q)

told : {P Q : Type 0} (x y : ℤ) (r : Ordering) → MatchOrdering r (x <ℤ y) (x ≡ y) (y <ℤ x) → (test : Ordering → Bool) (b : Bool) → b ≡ test r
    → (x <ℤ y → Tells (test Less) P Q) → (x ≡ y → Tells (test Equal) P Q) → (y <ℤ x → Tells (test Greater) P Q) → Tells b P Q
told x y Less m test b e less equal greater = rw e (less m)
told x y Equal m test b e less equal greater = rw e (equal m)
told x y Greater m test b e less equal greater = rw e (greater m)

module _ {A : Type 0} (R : A → A → Option Ordering) (v : A → ℤ) (law : (a b : A) → R a b ≡ Some (int_cmp (v a) (v b))) (a b : A) where
  -- Law: if R orders values by their numbers, `a < b` tells whether the number of a is below that of b, or not
  pub lt_tells : Tells (partial_lt R a b) (v a <ℤ v b) (v b ≤ℤ v a)
  lt_tells = told (v a) (v b) (int_cmp (v a) (v b)) (int_ranked (v a) (v b) _ refl) is_lt (partial_lt R a b) (rw (law a b)) (λ m. inl (refl, m)) (λ m. inr (refl, omega (arith, ints))) (λ m. inr (refl, omega (arith, ints)))

  -- Law: if R orders values by their numbers, `a <= b` tells whether the number of a is at most that of b, or above it
  pub le_tells : Tells (partial_le R a b) (v a ≤ℤ v b) (v b <ℤ v a)
  le_tells = told (v a) (v b) (int_cmp (v a) (v b)) (int_ranked (v a) (v b) _ refl) is_le (partial_le R a b) (rw (law a b)) (λ m. inl (refl, omega (arith, ints))) (λ m. inl (refl, omega (arith, ints))) (λ m. inr (refl, m))

  -- Law: if R orders values by their numbers, `a > b` tells whether the number of a is above that of b, or not
  pub gt_tells : Tells (partial_gt R a b) (v b <ℤ v a) (v a ≤ℤ v b)
  gt_tells = told (v a) (v b) (int_cmp (v a) (v b)) (int_ranked (v a) (v b) _ refl) is_gt (partial_gt R a b) (rw (law a b)) (λ m. inr (refl, omega (arith, ints))) (λ m. inr (refl, omega (arith, ints))) (λ m. inl (refl, m))

  -- Law: if R orders values by their numbers, `a >= b` tells whether the number of a is at least that of b, or below it
  pub ge_tells : Tells (partial_ge R a b) (v b ≤ℤ v a) (v a <ℤ v b)
  ge_tells = told (v a) (v b) (int_cmp (v a) (v b)) (int_ranked (v a) (v b) _ refl) is_ge (partial_ge R a b) (rw (law a b)) (λ m. inr (refl, m)) (λ m. inl (refl, omega (arith, ints))) (λ m. inl (refl, omega (arith, ints)))

-- the fact P that holds if a test is true
pub yes : {P Q : Type 0} (b : Bool) → Tells b P Q → b ≡ true → P
yes b (inl t) e = t.1
yes b (inr t) e = absurd (let h : true ≡ false = sym e ∙ t.0 in cc)

-- the fact Q that holds if a test is false
pub no : {P Q : Type 0} (b : Bool) → Tells b P Q → b ≡ false → Q
no b (inl t) e = absurd (let h : true ≡ false = sym t.0 ∙ e in cc)
no b (inr t) e = t.1
