-- Signs of products, and of fractions.
use Rattle.std.specs.Prelude.{◌≡◌, ◌≢◌, ◌↔◌, ◌<ℤ◌, ◌*ℤ◌, ℤ, pos, neg_ℤ}
use Rattle.std.proofs.Common.{arith}
use Rattle.std.proofs.lemmas.Int.{ints}
use Rattle.ratio_integer.proofs.Whole.{mul_positive, neg-mul, neg-mul-neg, positive_factor}
use Rattle.ratio_core.specs.Signs.{IsNegative, IsPositive}

-- ---- the sign of n/d, for a denominator of either sign

pub positive_above : (n d : ℤ) → pos 0 <ℤ d → (pos 0 <ℤ n) ↔ IsPositive n d
positive_above n d u = ((λ h. mul_positive n d h u), (λ h. positive_factor n d u h))

pub negative_above : (n d : ℤ) → pos 0 <ℤ d → (n <ℤ pos 0) ↔ IsNegative n d
negative_above n d u = (
  (λ h. let t = mul_positive (neg_ℤ n) d (omega (arith, ints)) u in omega (arith, ints, neg-mul n d)),
  (λ h. let t = positive_factor (neg_ℤ n) d u (omega (arith, ints, neg-mul n d)) in omega (arith, ints)),
)

pub positive_below : (n d : ℤ) → d <ℤ pos 0 → (n <ℤ pos 0) ↔ IsPositive n d
positive_below n d u = (
  (λ h. let t = mul_positive (neg_ℤ n) (neg_ℤ d) (omega (arith, ints)) (omega (arith, ints)) in omega (arith, ints, neg-mul-neg n d)),
  (λ h. let t = positive_factor (neg_ℤ n) (neg_ℤ d) (omega (arith, ints)) (omega (arith, ints, neg-mul-neg n d)) in omega (arith, ints)),
)

pub negative_below : (n d : ℤ) → d <ℤ pos 0 → (pos 0 <ℤ n) ↔ IsNegative n d
negative_below n d u = (
  (λ h. let t = mul_positive n (neg_ℤ d) h (omega (arith, ints)) in let e : n *ℤ d ≡ neg_ℤ (n *ℤ neg_ℤ d) = turned in omega (arith, ints)),
  (λ h. let e : n *ℤ d ≡ neg_ℤ (n *ℤ neg_ℤ d) = turned in positive_factor n (neg_ℤ d) (omega (arith, ints)) (omega (arith, ints))),
)
  where
    turned : n *ℤ d ≡ neg_ℤ (n *ℤ neg_ℤ d)
    turned = let a = neg-mul n (neg_ℤ d) in let b = neg-mul-neg n d in omega (arith, ints)

pub not_below_above : (d : ℤ) → d ≢ pos 0 → ¬ (d <ℤ pos 0) → pos 0 <ℤ d
not_below_above d nz h = grind (arith, ints)
