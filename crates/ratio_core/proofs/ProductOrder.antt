-- The order of products with a positive factor.
use Rattle.std.specs.Prelude.{◌≡◌, ◌⊎◌, ◌+◌, ◌*◌, ◌≤◌, ◌≤ℤ◌, ◌<ℤ◌, ◌*ℤ◌, ◌+ℤ◌, ◌-ℤ◌, ℕ, ℤ, zero, suc, pos, negsuc}
use Rattle.std.proofs.Common.{refl, ap, arith, ◌∙◌, inl, inr}
use Rattle.std.proofs.lemmas.Int.{ints}
use Rattle.std.proofs.Math.Nat.{mul-le-mul_right}
use borrow.Author.Differences.{up, down, product_is, at_most_in, le_out}
use lib.IntN.{*ℤ_comm, suc_ℤ, suc_ℤ-*ℤ, pred_ℤ-*ℤ, -ℤ_one, zero-*ℤ}

-- ---- one more and one less

pub less-times : (q d : ℤ) → (q -ℤ pos 1) *ℤ d ≡ q *ℤ d -ℤ d
less-times q d = ap (λ (z : ℤ). z *ℤ d) (-ℤ_one q) ∙ pred_ℤ-*ℤ q d

suc_is : (q : ℤ) → q +ℤ pos 1 ≡ suc_ℤ q
suc_is (pos n) = ap pos (omega arith)
suc_is (negsuc zero) = refl
suc_is (negsuc (suc n)) = omega (arith, ints)

pub more-times : (q d : ℤ) → (q +ℤ pos 1) *ℤ d ≡ q *ℤ d +ℤ d
more-times q d = ap (λ (z : ℤ). z *ℤ d) (suc_is q) ∙ suc_ℤ-*ℤ q d

-- ---- the same positive factor on both sides

scaled : (a b c e k : ℕ) → a + b ≤ c + e → a * k + b * k ≤ c * k + e * k
scaled a b c e k h = omega (arith, mul-le-mul_right k h)

up-mul : (a b : ℤ) → up (a *ℤ b) ≡ up a * up b + down a * down b
up-mul a b = (product_is a b).0

down-mul : (a b : ℤ) → down (a *ℤ b) ≡ up a * down b + down a * up b
down-mul a b = (product_is a b).1

pub times_le : (a b d : ℤ) → a ≤ℤ b → pos 0 ≤ℤ d → (a *ℤ d) ≤ℤ (b *ℤ d)
times_le a b (pos k) h u = at_most_in _ _ (simp (up-mul, down-mul) (omega (arith, scaled (up a) (down b) (up b) (down a) k (le_out a b h))))
times_le a b (negsuc k) h u = absurd (omega (arith, ints))

-- if f * d < (g + 1) * d, then f ≤ g
pub whole_at_most : (f g d : ℤ) → pos 0 <ℤ d → (f *ℤ d) <ℤ (g *ℤ d +ℤ d) → f ≤ℤ g
whole_at_most f g d u h = go (cases f g)
  where
    cases : (a b : ℤ) → (a ≤ℤ b) ⊎ ((b +ℤ pos 1) ≤ℤ a)
    cases a b = grind (arith, ints)

    go : (f ≤ℤ g) ⊎ ((g +ℤ pos 1) ≤ℤ f) → f ≤ℤ g
    go (inl k) = k
    go (inr k) = absurd (let m : ((g +ℤ pos 1) *ℤ d) ≤ℤ (f *ℤ d) = times_le (g +ℤ pos 1) f d k (omega (arith, ints)) in omega (arith, ints, more-times g d))

-- ---- a factor of at least 1 does not bring a number nearer to 0

pub up_times : (q d : ℤ) → pos 0 ≤ℤ q → pos 0 <ℤ d → q ≤ℤ (q *ℤ d)
up_times q d h u = let t : (pos 1 *ℤ q) ≤ℤ (d *ℤ q) = times_le (pos 1) d q (omega (arith, ints)) h in omega (arith, ints, *ℤ_comm q d)

pub down_times : (q d : ℤ) → q ≤ℤ pos 0 → pos 0 <ℤ d → (q *ℤ d) ≤ℤ q
down_times (pos zero) d h u = omega (arith, ints, zero-*ℤ d)
down_times (pos (suc n)) d h u = absurd (omega (arith, ints))
down_times (negsuc n) (pos zero) h u = absurd (omega (arith, ints))
down_times (negsuc n) (pos (suc k)) h u = let e : suc n ≤ suc n * suc k = omega (arith, mul-le-mul_right (suc k) (let z : 0 ≤ n = omega arith in z)) in omega (arith, ints)
down_times (negsuc n) (negsuc k) h u = absurd (omega (arith, ints))
